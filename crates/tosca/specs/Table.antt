-- The node table's format: what each entry of numbers says, and which numbers say it.
use Rattle.std.specs.Prelude.{ℕ, true, false, cond, ℤ, pos, negsuc, Some, None, Option, Result, ok_or, ◌==◌}
use Rattle.std.specs.Option.{option_map}
use Rattle.tosca.specs.declared.operators.SimpleType.{SimpleType}
use Rattle.tosca.specs.declared.operators.SimpleType.TheVariants.{Integer, Boolean}
use Rattle.tosca.specs.declared.operators.Value.{Value}
use Rattle.tosca.specs.declared.operators.Value.TheVariants.{Number, Truth}
use Rattle.tosca.specs.declared.operators.Unary.{Unary}
use Rattle.tosca.specs.declared.operators.Unary.TheVariants.{Negate, Not}
use Rattle.tosca.specs.declared.operators.Binary.{Binary}
use Rattle.tosca.specs.declared.operators.Binary.TheVariants.{Add, Subtract, Multiply, Divide, Round, Less, Greater, Equal, And, Or}
use Rattle.tosca.specs.declared.codes.UnknownCode.{UnknownCode}
use Rattle.tosca.specs.declared.table.Entry.{Entry}
use Rattle.tosca.specs.declared.table.Node.{Node}
use Rattle.tosca.specs.declared.table.Node.TheVariants.{Decl, Const, Var, Uny, Bin, Skip, Assign, Seq, Choice, Loop, Input, Output, Program}
use Rattle.tosca.specs.Arithmetic.{bit}

-- an entry that is no node
abbrev pub blank : Entry
blank = record { kind = 0; op = 0; typ = 0; name = 0; value = pos 0; first = 0; second = 0; third = 0; place = 0 }

abbrev pub type_code : SimpleType → ℕ
type_code Integer = 1
type_code Boolean = 2

abbrev pub type_of : ℕ → Option SimpleType
type_of c = cond (c == 1) (Some Integer) (cond (c == 2) (Some Boolean) None)

abbrev pub unary_code : Unary → ℕ
unary_code Negate = 1
unary_code Not = 2

abbrev pub unary_of : ℕ → Option Unary
unary_of c = cond (c == 1) (Some Negate) (cond (c == 2) (Some Not) None)

-- after the unary ones, so that a code is one operator
abbrev pub binary_code : Binary → ℕ
binary_code Add = 3
binary_code Subtract = 4
binary_code Multiply = 5
binary_code Divide = 6
binary_code Round = 7
binary_code Less = 8
binary_code Greater = 9
binary_code Equal = 10
binary_code And = 11
binary_code Or = 12

abbrev pub binary_of : ℕ → Option Binary
binary_of c =
    cond (c == 3) (Some Add)
    (cond (c == 4) (Some Subtract)
    (cond (c == 5) (Some Multiply)
    (cond (c == 6) (Some Divide)
    (cond (c == 7) (Some Round)
    (cond (c == 8) (Some Less)
    (cond (c == 9) (Some Greater)
    (cond (c == 10) (Some Equal)
    (cond (c == 11) (Some And)
    (cond (c == 12) (Some Or) None)))))))))

-- what a code is read as, by what it names
abbrev pub from_code : {T : Type 0} → (ℕ → Option T) → ℕ → Result T UnknownCode
from_code named c = ok_or (named c) (record { 0 = c })

-- a constant's value: a truth value is 0 or 1, and an integer is any that the field holds, which has 32 bits
abbrev pub constant : SimpleType → ℤ → Option Value
constant Integer z = Some (Number z)
constant Boolean (pos n) = cond (n == 0) (Some (Truth false)) (cond (n == 1) (Some (Truth true)) None)
constant Boolean (negsuc n) = None

-- an entry by its nine fields
abbrev pub fields : ℕ → ℕ → ℕ → ℕ → ℤ → ℕ → ℕ → ℕ → ℕ → Entry
fields k o y x v a b c p = record { kind = k; op = o; typ = y; name = x; value = v; first = a; second = b; third = c; place = p }

-- the entry of a node at a place
abbrev pub entry : Node → ℕ → Entry
entry (Decl x y) p = fields 1 0 (type_code y) x (pos 0) 0 0 0 p
entry (Const (Number z)) p = fields 2 0 1 0 z 0 0 0 p
entry (Const (Truth b)) p = fields 2 0 2 0 (bit b) 0 0 0 p
entry (Var x) p = fields 3 0 0 x (pos 0) 0 0 0 p
entry (Uny o a) p = fields 4 (unary_code o) 0 0 (pos 0) a 0 0 p
entry (Bin a o b) p = fields 5 (binary_code o) 0 0 (pos 0) a b 0 p
entry Skip p = fields 6 0 0 0 (pos 0) 0 0 0 p
entry (Assign x a) p = fields 7 0 0 x (pos 0) a 0 0 p
entry (Seq a b) p = fields 8 0 0 0 (pos 0) a b 0 p
entry (Choice a b c) p = fields 9 0 0 0 (pos 0) a b c p
entry (Loop a b) p = fields 10 0 0 0 (pos 0) a b 0 p
entry (Input x) p = fields 11 0 0 x (pos 0) 0 0 0 p
entry (Output a) p = fields 12 0 0 0 (pos 0) a 0 0 p
entry (Program a) p = fields 13 0 0 0 (pos 0) a 0 0 p

-- what comes of a field, if it says anything
abbrev pub onto : {A B : Type 0} → (A → Option B) → Option A → Option B
onto f None = None
onto f (Some a) = f a

-- the node of an entry, whatever stands in the fields that its kind lacks
abbrev pub node : Entry → Option Node
node e =
    cond (e.kind == 1) (option_map (λ y. Decl e.name y) (type_of e.typ))
    (cond (e.kind == 2) (option_map (λ v. Const v) (onto (λ y. constant y e.value) (type_of e.typ)))
    (cond (e.kind == 3) (Some (Var e.name))
    (cond (e.kind == 4) (option_map (λ o. Uny o e.first) (unary_of e.op))
    (cond (e.kind == 5) (option_map (λ o. Bin e.first o e.second) (binary_of e.op))
    (cond (e.kind == 6) (Some Skip)
    (cond (e.kind == 7) (Some (Assign e.name e.first))
    (cond (e.kind == 8) (Some (Seq e.first e.second))
    (cond (e.kind == 9) (Some (Choice e.first e.second e.third))
    (cond (e.kind == 10) (Some (Loop e.first e.second))
    (cond (e.kind == 11) (Some (Input e.name))
    (cond (e.kind == 12) (Some (Output e.first))
    (cond (e.kind == 13) (Some (Program e.first)) None))))))))))))

-- the number of the name that a node has
abbrev pub name_of : Node → Option ℕ
name_of (Decl x y) = Some x
name_of (Const v) = None
name_of (Var x) = Some x
name_of (Uny o a) = None
name_of (Bin a o b) = None
name_of Skip = None
name_of (Assign x a) = Some x
name_of (Seq a b) = None
name_of (Choice a b c) = None
name_of (Loop a b) = None
name_of (Input x) = Some x
name_of (Output a) = None
name_of (Program a) = None
