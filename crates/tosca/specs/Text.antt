-- How types, operators, nodes and entries are written: `kind(fields)`, and an entry with its place, `kind(fields)@place`.
use Rattle.std.specs.Prelude.{ℕ, cond, List, ◌++◌, Some, None, codes, decimal, Option}
use Rattle.std.specs.Fmt.{signed_decimal}
use Rattle.tosca.specs.declared.operators.SimpleType.{SimpleType}
use Rattle.tosca.specs.declared.operators.SimpleType.TheVariants.{Integer, Boolean}
use Rattle.tosca.specs.declared.operators.Value.{Value}
use Rattle.tosca.specs.declared.operators.Value.TheVariants.{Number, Truth}
use Rattle.tosca.specs.declared.operators.Unary.{Unary}
use Rattle.tosca.specs.declared.operators.Unary.TheVariants.{Negate, Not}
use Rattle.tosca.specs.declared.operators.Binary.{Binary}
use Rattle.tosca.specs.declared.operators.Binary.TheVariants.{Add, Subtract, Multiply, Divide, Round, Less, Greater, Equal, And, Or}
use Rattle.tosca.specs.declared.table.Entry.{Entry}
use Rattle.tosca.specs.declared.table.Node.{Node}
use Rattle.tosca.specs.declared.table.Node.TheVariants.{Decl, Const, Var, Uny, Bin, Skip, Assign, Seq, Choice, Loop, Input, Output, Program}
use Rattle.tosca.specs.Table.{node}

abbrev pub type_text : SimpleType → List ℕ
type_text Integer = codes "integer"
type_text Boolean = codes "boolean"

abbrev pub unary_text : Unary → List ℕ
unary_text Negate = codes "neg"
unary_text Not = codes "not"

abbrev pub binary_text : Binary → List ℕ
binary_text Add = codes "+"
binary_text Subtract = codes "-"
binary_text Multiply = codes "*"
binary_text Divide = codes "div"
binary_text Round = codes "round"
binary_text Less = codes "<"
binary_text Greater = codes ">"
binary_text Equal = codes "="
binary_text And = codes "and"
binary_text Or = codes "or"

-- a value with its type; a truth value is 0 or 1
abbrev pub value_text : Value → List ℕ
value_text (Number z) = signed_decimal z ++ codes ",integer"
value_text (Truth b) = cond b (codes "1,boolean") (codes "0,boolean")

abbrev pub node_text : Node → List ℕ
node_text (Decl x y) = codes "decl(" ++ (decimal x ++ (codes "," ++ (type_text y ++ codes ")")))
node_text (Const v) = codes "const(" ++ (value_text v ++ codes ")")
node_text (Var x) = codes "var(" ++ (decimal x ++ codes ")")
node_text (Uny o a) = codes "uny(" ++ (unary_text o ++ (codes "," ++ (decimal a ++ codes ")")))
node_text (Bin a o b) = codes "bin(" ++ (decimal a ++ (codes "," ++ (binary_text o ++ (codes "," ++ (decimal b ++ codes ")")))))
node_text Skip = codes "skip()"
node_text (Assign x a) = codes "assign(" ++ (decimal x ++ (codes "," ++ (decimal a ++ codes ")")))
node_text (Seq a b) = codes "seq(" ++ (decimal a ++ (codes "," ++ (decimal b ++ codes ")")))
node_text (Choice a b c) = codes "choice(" ++ (decimal a ++ (codes "," ++ (decimal b ++ (codes "," ++ (decimal c ++ codes ")")))))
node_text (Loop a b) = codes "loop(" ++ (decimal a ++ (codes "," ++ (decimal b ++ codes ")")))
node_text (Input x) = codes "input(" ++ (decimal x ++ codes ")")
node_text (Output a) = codes "output(" ++ (decimal a ++ codes ")")
node_text (Program a) = codes "program(" ++ (decimal a ++ codes ")")

-- an entry that is no node has a question mark for its kind
abbrev pub said_text : Option Node → List ℕ
said_text (Some n) = node_text n
said_text None = codes "?()"

abbrev pub entry_text : Entry → List ℕ
entry_text e = said_text (node e) ++ (codes "@" ++ decimal e.place)
