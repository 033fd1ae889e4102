-- What the arithmetic amounts to, in the terms of the integers.
use Rattle.std.specs.Prelude.{◌≡◌, ◌*◌, ◌<◌, ◌≤◌, Bool, true, false, ◌⊎◌, ℤ, pos, negsuc, ◌+ℤ◌, ◌-ℤ◌, ◌*ℤ◌, ◌≤ℤ◌, ◌<ℤ◌, Ok, Err, Result, ◌≢◌, int_div, int_lt, unsigned_abs}
use Rattle.tosca.specs.declared.operators.Unary.{Unary}
use Rattle.tosca.specs.declared.operators.Unary.TheVariants.{Negate, Not}
use Rattle.tosca.specs.declared.operators.Binary.{Binary}
use Rattle.tosca.specs.declared.operators.Binary.TheVariants.{Add, Subtract, Multiply, Divide, Round, Less, Greater, Equal, And, Or}
use Rattle.tosca.specs.declared.operators.Cause.{Cause}
use Rattle.tosca.specs.declared.operators.Cause.TheVariants.{Range, ZeroDivisor}
use Rattle.tosca.specs.Arithmetic.{in_range, ranged, is_zero, nearest, unary, binary}

abbrev pub negative : ℤ → Bool
negative z = int_lt z (pos 0)

-- a divided by b is q, and r is left
pub record Divided (a b q r : ℤ) : Type 0 where
  pub whole : a ≡ (q *ℤ b) +ℤ r
  pub small : unsigned_abs r < unsigned_abs b
  -- so that q is never farther from zero than a / b
  pub sign : (r ≡ pos 0) ⊎ (negative r ≡ negative a)

abbrev pub remainder : ℤ → ℤ → ℤ
remainder a b = a -ℤ (int_div a b *ℤ b)

abbrev pub Divides : Type 0
Divides = (a b : ℤ) → is_zero b ≡ false → Divided a b (int_div a b) (remainder a b)

-- q is nearest to a / b; of two that are, the one away from zero
pub record Rounded (a b q : ℤ) : Type 0 where
  pub near : 2 * unsigned_abs (a -ℤ (q *ℤ b)) ≤ unsigned_abs b
  pub half : 2 * unsigned_abs (a -ℤ (q *ℤ b)) ≡ unsigned_abs b → unsigned_abs a < unsigned_abs (q *ℤ b)

abbrev pub Rounds : Type 0
Rounds = (a b : ℤ) → is_zero b ≡ false → Rounded a b (nearest a b)

-- negsuc 2147483647 is -2147483648
pub record Limited (z : ℤ) : Type 0 where
  pub within : negsuc 2147483647 ≤ℤ z → z ≤ℤ pos 2147483647 → ranged z ≡ Ok z
  pub below : z <ℤ negsuc 2147483647 → ranged z ≡ Err Range
  pub above : pos 2147483647 <ℤ z → ranged z ≡ Err Range

abbrev pub Limits : Type 0
Limits = (z : ℤ) → Limited z

-- whatever the operator, a number that it gives is in the range
pub record Kept : Type 0 where
  pub one : (o : Unary) (a z : ℤ) → unary o a ≡ Ok z → in_range z ≡ true
  pub two : (o : Binary) (a b z : ℤ) → binary o a b ≡ Ok z → in_range z ≡ true

-- a zero divisor has its cause, and nothing else has it
pub record Zeros : Type 0 where
  pub divide : (a : ℤ) → binary Divide a (pos 0) ≡ Err ZeroDivisor
  pub round : (a : ℤ) → binary Round a (pos 0) ≡ Err ZeroDivisor
  pub never : (o : Unary) (a : ℤ) → unary o a ≢ Err ZeroDivisor
  pub only : (o : Binary) (a b : ℤ) → binary o a b ≡ Err ZeroDivisor → (b ≡ pos 0) × ((o ≡ Divide) ⊎ (o ≡ Round))

-- the operators whose number is a truth value
abbrev pub tests : Binary → Bool
tests Add = false
tests Subtract = false
tests Multiply = false
tests Divide = false
tests Round = false
tests Less = true
tests Greater = true
tests Equal = true
tests And = true
tests Or = true

-- 0 or 1, without fail
abbrev pub Bit : Result ℤ Cause → Type 0
Bit r = (r ≡ Ok (pos 0)) ⊎ (r ≡ Ok (pos 1))

pub record Tests : Type 0 where
  pub one : (a : ℤ) → Bit (unary Not a)
  pub two : (o : Binary) (a b : ℤ) → tests o ≡ true → Bit (binary o a b)

-- negsuc n is -(n + 1)
pub record Worked : Type 0 where
  pub half : binary Round (pos 5) (pos 2) ≡ Ok (pos 3)
  pub negative_half : binary Round (negsuc 4) (pos 2) ≡ Ok (negsuc 2)
  pub toward_zero : binary Divide (negsuc 6) (pos 2) ≡ Ok (negsuc 2)
  pub above : binary Add (pos 2147483647) (pos 1) ≡ Err Range
  pub least : unary Negate (negsuc 2147483647) ≡ Err Range
  pub by_zero : binary Divide (pos 1) (pos 0) ≡ Err ZeroDivisor
