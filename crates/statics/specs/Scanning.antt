-- The lowest node that two tests choose, found by going through the table once from its first entry.
use Rattle.std.specs.Prelude.{ℕ, zero, suc, Bool, false, cond, List, Some, None, Option, slice_index_or}
use Rattle.tosca.specs.declared.table.Entry.{Entry}
use Rattle.tosca.specs.Table.{blank, node}
use Rattle.tosca.specs.Trees.{Expr, Cmd}
use Rattle.tosca.specs.Decode.{expr_at, cmd_at}
use Rattle.tosca.specs.Opens.{Sort, is_decl, is_expr, is_cmd, is_program, is_none, sort}

-- the lowest of the n numbers from i on that the test chooses
abbrev pub first_of : (ℕ → Bool) → ℕ → ℕ → Option ℕ
first_of f i zero = None
first_of f i (suc n) = cond (f i) (Some i) (first_of f (suc i) n)

module _ (f : Expr ℕ → Bool) (g : Cmd ℕ → Bool) (t : List Entry) where
  abbrev pub chooses_as : ℕ → Sort → Bool
  chooses_as k is_expr = f (expr_at t k)
  chooses_as k is_cmd = g (cmd_at t k)
  chooses_as k is_decl = false
  chooses_as k is_program = false
  chooses_as k is_none = false

  -- the tests choose the tree at entry k
  abbrev pub chooses : ℕ → Bool
  chooses k = chooses_as k (sort (node (slice_index_or t k blank)))
