-- Values as the numbers of cells.
use Rattle.std.specs.Prelude.{not, ℤ}
use Rattle.tosca.specs.declared.operators.SimpleType.{SimpleType}
use Rattle.tosca.specs.declared.operators.SimpleType.TheVariants.{Integer, Boolean}
use Rattle.tosca.specs.declared.operators.Value.{Value}
use Rattle.tosca.specs.declared.operators.Value.TheVariants.{Number, Truth}
use Rattle.tosca.specs.Arithmetic.{bit, is_zero}

-- the number of a value: T counts as 1 and F as 0
abbrev pub number : Value → ℤ
number (Number z) = z
number (Truth b) = bit b

-- a number as a value of a type: for a boolean any number but 0 is T
abbrev pub value_of : SimpleType → ℤ → Value
value_of Integer z = Number z
value_of Boolean z = Truth (not (is_zero z))
