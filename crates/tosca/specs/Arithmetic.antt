-- The one arithmetic: what an operator gives, a number of the integer range or a cause why there is none.
-- Truth values are numbers here: F is 0, T is 1, and `not`, `and`, `or` take any number but 0 as T.
use Rattle.std.specs.Prelude.{ℕ, ◌+◌, ◌*◌, ◌/◌, ◌^◌, Bool, cond, not, ◌&&◌, ◌||◌, ℤ, pos, negsuc, ◌+ℤ◌, ◌-ℤ◌, ◌*ℤ◌, neg_ℤ, Ok, Err, Result, ◌==◌, int_div, int_lt, nat_lt, unsigned_abs}
use Rattle.tosca.specs.declared.operators.Unary.{Unary}
use Rattle.tosca.specs.declared.operators.Unary.TheVariants.{Negate, Not}
use Rattle.tosca.specs.declared.operators.Binary.{Binary}
use Rattle.tosca.specs.declared.operators.Binary.TheVariants.{Add, Subtract, Multiply, Divide, Round, Less, Greater, Equal, And, Or}
use Rattle.tosca.specs.declared.operators.Cause.{Cause}
use Rattle.tosca.specs.declared.operators.Cause.TheVariants.{Range, ZeroDivisor}

-- from -2,147,483,648 to 2,147,483,647
abbrev pub in_range : ℤ → Bool
in_range (pos n) = nat_lt n (2 ^ 31)
in_range (negsuc n) = nat_lt n (2 ^ 31)

abbrev pub ranged : ℤ → Result ℤ Cause
ranged z = cond (in_range z) (Ok z) (Err Range)

abbrev pub is_zero : ℤ → Bool
is_zero z = unsigned_abs z == 0

-- T counts as 1 and F as 0
abbrev pub bit : Bool → ℤ
bit b = cond b (pos 1) (pos 0)

-- a size with the sign of a quotient of a and b
abbrev pub signed : ℤ → ℤ → ℕ → ℤ
signed (pos a) (pos b) q = pos q
signed (pos a) (negsuc b) q = neg_ℤ (pos q)
signed (negsuc a) (pos b) q = neg_ℤ (pos q)
signed (negsuc a) (negsuc b) q = pos q

-- the nearest integer to a / b, halves away from zero
abbrev pub nearest : ℤ → ℤ → ℤ
nearest a b = signed a b ((2 * unsigned_abs a + unsigned_abs b) / (2 * unsigned_abs b))

abbrev pub unary : Unary → ℤ → Result ℤ Cause
unary Negate a = ranged (neg_ℤ a)
unary Not a = Ok (bit (is_zero a))

abbrev pub binary : Binary → ℤ → ℤ → Result ℤ Cause
binary Add a b = ranged (a +ℤ b)
binary Subtract a b = ranged (a -ℤ b)
binary Multiply a b = ranged (a *ℤ b)
binary Divide a b = cond (is_zero b) (Err ZeroDivisor) (ranged (int_div a b))
binary Round a b = cond (is_zero b) (Err ZeroDivisor) (ranged (nearest a b))
binary Less a b = Ok (bit (int_lt a b))
binary Greater a b = Ok (bit (int_lt b a))
binary Equal a b = Ok (bit (is_zero (a -ℤ b)))
binary And a b = Ok (bit (not (is_zero a) && not (is_zero b)))
binary Or a b = Ok (bit (not (is_zero a) || not (is_zero b)))

-- a cause as the number that users see
abbrev pub cause_number : Cause → ℕ
cause_number Range = 1
cause_number ZeroDivisor = 2
