-- What is known of the decoded trees, whatever the table.
use Rattle.std.specs.Prelude.{◌≡◌, ℕ, ◌+◌, ◌<◌, List, ◌++◌, length, slice_index_or}
use Rattle.tosca.specs.declared.table.Entry.{Entry}
use Rattle.tosca.specs.Table.{blank, node}
use Rattle.tosca.specs.Decode.{expr_of, expr_by, expr_at, cmd_of, cmd_by, cmd_at, decls_from}

-- fuel above the node's number does not matter
pub record Fuelled : Type 0 where
  pub expr : (f g : ℕ) (t : List Entry) (n : ℕ) → n < f → n < g → expr_by f t n ≡ expr_by g t n
  pub cmd : (f g : ℕ) (t : List Entry) (n : ℕ) → n < f → n < g → cmd_by f t n ≡ cmd_by g t n

-- a tree is its node, with the trees of the node's parts
pub record Stepwise : Type 0 where
  pub expr : (t : List Entry) (n : ℕ) → expr_at t n ≡ expr_of n (expr_at t) (node (slice_index_or t n blank))
  pub cmd : (t : List Entry) (n : ℕ) → cmd_at t n ≡ cmd_of n (expr_at t) (cmd_at t) (node (slice_index_or t n blank))

-- entries that follow do not matter
pub record Prefixed : Type 0 where
  pub expr : (t u : List Entry) (n : ℕ) → n < length t → expr_at (t ++ u) n ≡ expr_at t n
  pub cmd : (t u : List Entry) (n : ℕ) → n < length t → cmd_at (t ++ u) n ≡ cmd_at t n
  pub decls : (n : ℕ) (t u : List Entry) → decls_from n (t ++ u) ≡ decls_from n t ++ decls_from (n + length t) u
