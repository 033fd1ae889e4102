-- What a walk leaves: the answer for its tree at each expression of a table, and elsewhere what stood there.
use Rattle.std.specs.Prelude.{◌≡◌, ℕ, suc, ◌<◌, List, [], ◌∷◌, Some, None, Option, slice_index_or}
use Rattle.tosca.specs.declared.table.Entry.{Entry}
use Rattle.tosca.specs.declared.table.Node.{Node}
use Rattle.tosca.specs.declared.table.Node.TheVariants.{Decl, Const, Var, Uny, Bin, Skip, Assign, Seq, Choice, Loop, Input, Output, Program}
use Rattle.tosca.specs.Table.{blank, node}
use Rattle.tosca.specs.Trees.{Expr}
use Rattle.tosca.specs.Decode.{expr_at}
use Rattle.tosca.specs.Opens.{Sort, is_decl, is_expr, is_cmd, is_program, is_none, sort}
use Rattle.statics.specs.Folding.{Algebra, fold}

-- the entry of a number is an expression; past the table's end there is none
abbrev pub IsExpr : List Entry → ℕ → Type 0
IsExpr t n = sort (node (slice_index_or t n blank)) ≡ is_expr

-- one of two, by the sort
abbrev pub if_expr : {A : Type 0} → Sort → A → A → A
if_expr is_expr a b = a
if_expr is_decl a b = b
if_expr is_cmd a b = b
if_expr is_program a b = b
if_expr is_none a b = b

module _ {A : Type 0} (f : Expr ℕ → A) (t : List Entry) where
  -- at the number n, where the answer a stood
  abbrev pub answer_at : ℕ → A → A
  answer_at n a = if_expr (sort (node (slice_index_or t n blank))) (f (expr_at t n)) a

  -- answers whose first is that of the number n
  unfoldable pub filled_by : ℕ → List A → List A
  filled_by n [] = []
  filled_by n (a ∷ answers) = answer_at n a ∷ filled_by (suc n) answers

-- the same for the answers of a reading
abbrev pub filled : {A : Type 0} → Algebra A → List Entry → ℕ → List A → List A
filled g t n answers = filled_by (fold g) t n answers

-- the answer for a node, from the answers of its parts
abbrev pub answered : {A : Type 0} → Algebra A → (ℕ → A) → Option Node → Option A
answered g part (Some (Const v)) = Some (g.constant v)
answered g part (Some (Var x)) = Some (g.variable x)
answered g part (Some (Uny o a)) = Some (g.unary o (part a))
answered g part (Some (Bin a o b)) = Some (g.binary o (part a) (part b))
answered g part (Some (Decl x y)) = None
answered g part (Some Skip) = None
answered g part (Some (Assign x a)) = None
answered g part (Some (Seq a b)) = None
answered g part (Some (Choice a b c)) = None
answered g part (Some (Loop a b)) = None
answered g part (Some (Input x)) = None
answered g part (Some (Output a)) = None
answered g part (Some (Program a)) = None
answered g part None = None

-- an expression's parts stand below n, and its name is below 64
abbrev pub Ready : ℕ → Option Node → Type 0
Ready n (Some (Const v)) = Unit {0}
Ready n (Some (Var x)) = x < 64
Ready n (Some (Uny o a)) = a < n
Ready n (Some (Bin a o b)) = (a < n) × (b < n)
Ready n (Some (Decl x y)) = Unit {0}
Ready n (Some Skip) = Unit {0}
Ready n (Some (Assign x a)) = Unit {0}
Ready n (Some (Seq a b)) = Unit {0}
Ready n (Some (Choice a b c)) = Unit {0}
Ready n (Some (Loop a b)) = Unit {0}
Ready n (Some (Input x)) = Unit {0}
Ready n (Some (Output a)) = Unit {0}
Ready n (Some (Program a)) = Unit {0}
Ready n None = Unit {0}
