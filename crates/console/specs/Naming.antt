-- The name that a node has, and a node with its name spelled.
use Rattle.std.specs.Prelude.{ℕ, List, ◌++◌, map, Some, None, codes, decimal, Option}
use Rattle.std.specs.Borrow.{Bor}
pub use Rattle.tosca.specs.Table.{name_of}
use Rattle.tosca.specs.Text.{type_text, node_text}
use Rattle.excerpts.specs.Shown.{printed}
use Rattle.tosca.specs.declared.table.Node.{Node}
use Rattle.tosca.specs.declared.table.Node.TheVariants.{Decl, Const, Var, Uny, Bin, Skip, Assign, Seq, Choice, Loop, Input, Output, Program}

-- the spelling in the place of the number
abbrev pub spelled_text : Node → List ℕ → List ℕ
spelled_text (Decl x t) w = codes "decl(" ++ (w ++ (codes "," ++ (type_text t ++ codes ")")))
spelled_text (Const v) w = node_text (Const v)
spelled_text (Var x) w = codes "var(" ++ (w ++ codes ")")
spelled_text (Uny o a) w = node_text (Uny o a)
spelled_text (Bin a o b) w = node_text (Bin a o b)
spelled_text Skip w = node_text Skip
spelled_text (Assign x a) w = codes "assign(" ++ (w ++ (codes "," ++ (decimal a ++ codes ")")))
spelled_text (Seq a b) w = node_text (Seq a b)
spelled_text (Choice a b d) w = node_text (Choice a b d)
spelled_text (Loop a b) w = node_text (Loop a b)
spelled_text (Input x) w = codes "input(" ++ (w ++ codes ")")
spelled_text (Output a) w = node_text (Output a)
spelled_text (Program a) w = node_text (Program a)

abbrev pub named_text : Node → Option (Bor (List ℕ)) → List ℕ
named_text n None = node_text n
named_text n (Some w) = spelled_text n (map printed w.now)
