-- The laws of the table's format. Assumes nothing.
use Rattle.std.proofs.Common.{◌≡◌, ℕ, true, false, Some, refl, ap}
use Rattle.std.specs.Option.{option_map}
use Rattle.std.specs.Fmt.{digits}
use Rattle.tosca.specs.declared.operators.SimpleType.TheVariants.{Integer, Boolean}
use Rattle.tosca.specs.declared.operators.Value.TheVariants.{Number, Truth}
use Rattle.tosca.specs.declared.operators.Unary.TheVariants.{Negate, Not}
use Rattle.tosca.specs.declared.operators.Binary.{Binary}
use Rattle.tosca.specs.declared.operators.Binary.TheVariants.{Add, Subtract, Multiply, Divide, Round, Less, Greater, Equal, And, Or}
use Rattle.tosca.specs.declared.table.Node.{Node}
use Rattle.tosca.specs.declared.table.Node.TheVariants.{Decl, Const, Var, Uny, Bin, Skip, Assign, Seq, Choice, Loop, Input, Output, Program}
use Rattle.tosca.specs.Table.{binary_code, binary_of, entry, node}
use Rattle.tosca.specs.TableLaws.{Faithful, Written}

-- a code is read as the operator that it is written for
pub binary_coded : (o : Binary) → binary_of (binary_code o) ≡ Some o
binary_coded Add = refl
binary_coded Subtract = refl
binary_coded Multiply = refl
binary_coded Divide = refl
binary_coded Round = refl
binary_coded Less = refl
binary_coded Greater = refl
binary_coded Equal = refl
binary_coded And = refl
binary_coded Or = refl

pub entry_said : (n : Node) (p : ℕ) → node (entry n p) ≡ Some n
entry_said (Decl x Integer) p = refl
entry_said (Decl x Boolean) p = refl
entry_said (Const (Number z)) p = refl
entry_said (Const (Truth true)) p = refl
entry_said (Const (Truth false)) p = refl
entry_said (Var x) p = refl
entry_said (Uny Negate a) p = refl
entry_said (Uny Not a) p = refl
entry_said (Bin a o b) p = ap (option_map (λ (x : Binary). Bin a x b)) (binary_coded o)
entry_said Skip p = refl
entry_said (Assign x a) p = refl
entry_said (Seq a b) p = refl
entry_said (Choice a b c) p = refl
entry_said (Loop a b) p = refl
entry_said (Input x) p = refl
entry_said (Output a) p = refl
entry_said (Program a) p = refl

pub entry_placed : (n : Node) (p : ℕ) → (entry n p).place ≡ p
entry_placed (Decl x y) p = refl
entry_placed (Const (Number z)) p = refl
entry_placed (Const (Truth b)) p = refl
entry_placed (Var x) p = refl
entry_placed (Uny o a) p = refl
entry_placed (Bin a o b) p = refl
entry_placed Skip p = refl
entry_placed (Assign x a) p = refl
entry_placed (Seq a b) p = refl
entry_placed (Choice a b c) p = refl
entry_placed (Loop a b) p = refl
entry_placed (Input x) p = refl
entry_placed (Output a) p = refl
entry_placed (Program a) p = refl

pub faithful : Faithful
faithful = record { said = entry_said; placed = entry_placed; nothing = refl }

pub written : Written
unfolding digits
written = record { number = refl; truth = refl; sum = refl; empty = refl; none = refl }
