-- The tree that a node table stands for, each node labelled with its number.
-- A part that does not stand earlier is taken for a leaf, so that every table has a tree; an opened table has no such part.
use Rattle.std.specs.Prelude.{ℕ, zero, suc, ◌-◌, cond, List, [], ◌∷◌, length, pos, Some, None, Option, nat_lt, slice_index_or}
use Rattle.tosca.specs.declared.operators.Value.TheVariants.{Number}
use Rattle.tosca.specs.declared.table.Entry.{Entry}
use Rattle.tosca.specs.declared.table.Node.{Node}
use Rattle.tosca.specs.declared.table.Node.TheVariants.{Decl, Const, Var, Uny, Bin, Skip, Assign, Seq, Choice, Loop, Input, Output, Program}
use Rattle.tosca.specs.Table.{blank, node}
use Rattle.tosca.specs.Trees.{Expr, const, var, uny, bin, Cmd, skip, assign, seq, choice, loop, input, output}
use Rattle.tosca.specs.Trees as tree

-- the part k of the node n, if it stands earlier
abbrev pub earlier : {A : Type 0} → ℕ → ℕ → A → A → A
earlier n k other a = cond (nat_lt k n) a other

-- what stands for an expression that is none
abbrev pub no_expr : ℕ → Expr ℕ
no_expr n = const n (Number (pos 0))

module _ (n : ℕ) (part : ℕ → Expr ℕ) where
  abbrev pub expr_of : Option Node → Expr ℕ
  expr_of (Some (Const v)) = const n v
  expr_of (Some (Var x)) = var n x
  expr_of (Some (Uny o a)) = uny n o (earlier n a (no_expr a) (part a))
  expr_of (Some (Bin a o b)) = bin n (earlier n a (no_expr a) (part a)) o (earlier n b (no_expr b) (part b))
  expr_of (Some (Decl x y)) = no_expr n
  expr_of (Some Skip) = no_expr n
  expr_of (Some (Assign x a)) = no_expr n
  expr_of (Some (Seq a b)) = no_expr n
  expr_of (Some (Choice a b c)) = no_expr n
  expr_of (Some (Loop a b)) = no_expr n
  expr_of (Some (Input x)) = no_expr n
  expr_of (Some (Output a)) = no_expr n
  expr_of (Some (Program a)) = no_expr n
  expr_of None = no_expr n

unfoldable pub expr_by : ℕ → List Entry → ℕ → Expr ℕ
expr_by zero t n = no_expr n
expr_by (suc f) t n = expr_of n (λ k. expr_by f t k) (node (slice_index_or t n blank))

-- the expression at a node
unfoldable pub expr_at : List Entry → ℕ → Expr ℕ
expr_at t n = expr_by (suc n) t n

module _ (n : ℕ) (value : ℕ → Expr ℕ) (part : ℕ → Cmd ℕ) where
  abbrev pub cmd_of : Option Node → Cmd ℕ
  cmd_of (Some Skip) = skip n
  cmd_of (Some (Assign x a)) = assign n x (earlier n a (no_expr a) (value a))
  cmd_of (Some (Seq a b)) = seq n (earlier n a (skip a) (part a)) (earlier n b (skip b) (part b))
  cmd_of (Some (Choice a b c)) = choice n (earlier n a (no_expr a) (value a)) (earlier n b (skip b) (part b)) (earlier n c (skip c) (part c))
  cmd_of (Some (Loop a b)) = loop n (earlier n a (no_expr a) (value a)) (earlier n b (skip b) (part b))
  cmd_of (Some (Input x)) = input n x
  cmd_of (Some (Output a)) = output n (earlier n a (no_expr a) (value a))
  cmd_of (Some (Decl x y)) = skip n
  cmd_of (Some (Const v)) = skip n
  cmd_of (Some (Var x)) = skip n
  cmd_of (Some (Uny o a)) = skip n
  cmd_of (Some (Bin a o b)) = skip n
  cmd_of (Some (Program a)) = skip n
  cmd_of None = skip n

unfoldable pub cmd_by : ℕ → List Entry → ℕ → Cmd ℕ
cmd_by zero t n = skip n
cmd_by (suc f) t n = cmd_of n (expr_at t) (λ k. cmd_by f t k) (node (slice_index_or t n blank))

-- the command at a node
unfoldable pub cmd_at : List Entry → ℕ → Cmd ℕ
cmd_at t n = cmd_by (suc n) t n

-- the declarations of entries that begin at number n
abbrev pub declared : ℕ → Option Node → List (tree.Decl ℕ) → List (tree.Decl ℕ)
declared n (Some (Decl x y)) ds = record { label = n; name = x; type = y } ∷ ds
declared n (Some (Const v)) ds = ds
declared n (Some (Var x)) ds = ds
declared n (Some (Uny o a)) ds = ds
declared n (Some (Bin a o b)) ds = ds
declared n (Some Skip) ds = ds
declared n (Some (Assign x a)) ds = ds
declared n (Some (Seq a b)) ds = ds
declared n (Some (Choice a b c)) ds = ds
declared n (Some (Loop a b)) ds = ds
declared n (Some (Input x)) ds = ds
declared n (Some (Output a)) ds = ds
declared n (Some (Program a)) ds = ds
declared n None ds = ds

unfoldable pub decls_from : ℕ → List Entry → List (tree.Decl ℕ)
decls_from n [] = []
decls_from n (e ∷ es) = declared n (node e) (decls_from (suc n) es)

abbrev pub body_of : List Entry → ℕ → Option Node → Cmd ℕ
body_of t n (Some (Program a)) = cmd_at t a
body_of t n (Some (Decl x y)) = skip n
body_of t n (Some (Const v)) = skip n
body_of t n (Some (Var x)) = skip n
body_of t n (Some (Uny o a)) = skip n
body_of t n (Some (Bin a o b)) = skip n
body_of t n (Some Skip) = skip n
body_of t n (Some (Assign x a)) = skip n
body_of t n (Some (Seq a b)) = skip n
body_of t n (Some (Choice a b c)) = skip n
body_of t n (Some (Loop a b)) = skip n
body_of t n (Some (Input x)) = skip n
body_of t n (Some (Output a)) = skip n
body_of t n None = skip n

-- the routine whose entries these are, its program entry last
unfoldable pub program_of : List Entry → tree.Program ℕ
program_of t = record { label = length t - 1; decls = decls_from 0 t; body = body_of t (length t - 1) (node (slice_index_or t (length t - 1) blank)) }
