-- Types: of values, of what operators take and give, and of declared names.
use Rattle.std.specs.Prelude.{ℕ, Bool, true, false, cond, List, [], ◌∷◌, Some, None, Option, ◌==◌}
use Rattle.tosca.specs.declared.operators.SimpleType.{SimpleType}
use Rattle.tosca.specs.declared.operators.SimpleType.TheVariants.{Integer, Boolean}
use Rattle.tosca.specs.declared.operators.Value.{Value}
use Rattle.tosca.specs.declared.operators.Value.TheVariants.{Number, Truth}
use Rattle.tosca.specs.declared.operators.Unary.{Unary}
use Rattle.tosca.specs.declared.operators.Unary.TheVariants.{Negate, Not}
use Rattle.tosca.specs.declared.operators.Binary.{Binary}
use Rattle.tosca.specs.declared.operators.Binary.TheVariants.{Add, Subtract, Multiply, Divide, Round, Less, Greater, Equal, And, Or}
use Rattle.tosca.specs.Trees.{Decl}

abbrev pub value_type : Value → SimpleType
value_type (Number z) = Integer
value_type (Truth b) = Boolean

abbrev pub same_type : SimpleType → SimpleType → Bool
same_type Integer Integer = true
same_type Integer Boolean = false
same_type Boolean Integer = false
same_type Boolean Boolean = true

-- what an operator of one operand takes and gives
abbrev pub unary_type : Unary → SimpleType
unary_type Negate = Integer
unary_type Not = Boolean

-- what an operator takes on both sides
abbrev pub binary_takes : Binary → SimpleType
binary_takes Add = Integer
binary_takes Subtract = Integer
binary_takes Multiply = Integer
binary_takes Divide = Integer
binary_takes Round = Integer
binary_takes Less = Integer
binary_takes Greater = Integer
binary_takes Equal = Integer
binary_takes And = Boolean
binary_takes Or = Boolean

abbrev pub binary_gives : Binary → SimpleType
binary_gives Add = Integer
binary_gives Subtract = Integer
binary_gives Multiply = Integer
binary_gives Divide = Integer
binary_gives Round = Integer
binary_gives Less = Boolean
binary_gives Greater = Boolean
binary_gives Equal = Boolean
binary_gives And = Boolean
binary_gives Or = Boolean

-- the declaration of a name: the first that has it
abbrev pub decl_of : List (Decl ℕ) → ℕ → Option (Decl ℕ)
decl_of [] x = None
decl_of (d ∷ ds) x = cond (d.name == x) (Some d) (decl_of ds x)

abbrev pub declared_type : Option (Decl ℕ) → Option SimpleType
declared_type (Some d) = Some d.type
declared_type None = None

-- the types of names
abbrev pub Types : Type 0
Types = ℕ → Option SimpleType

abbrev pub type_in : List (Decl ℕ) → Types
type_in ds x = declared_type (decl_of ds x)
