-- The laws of the arithmetic. Assumes nothing.
use Rattle.std.proofs.Common.{◌≡◌, ℕ, zero, suc, ◌+◌, ◌*◌, ◌/◌, ◌%◌, ◌^◌, ◌<◌, ◌≤◌, Bool, true, false, cond, not, ◌&&◌, ◌||◌, eqb, ◌⊎◌, ℤ, pos, negsuc, ◌+ℤ◌, ◌-ℤ◌, ◌*ℤ◌, neg_ℤ, nat_abs, ◌≤ℤ◌, ◌<ℤ◌, Ok, Err, Result, sym, refl, ap, ◌∙◌, subst, inl, inr, mod-lt, div-add-mod', zero-mul, mul_left_comm, arith, le-ltb, lt-ltb, eqb-true}
use lib.IntN.{pos-*ℤ-negsuc, negsuc-*ℤ-pos, negsuc-*ℤ-negsuc}
use lib.Signed.{lt_z, quot_z}
use borrow.Author.Tests.{eqb-false, clash}
use Rattle.std.proofs.lemmas.Int.{ints}
use Rattle.tosca.specs.declared.operators.Unary.{Unary}
use Rattle.tosca.specs.declared.operators.Unary.TheVariants.{Negate, Not}
use Rattle.tosca.specs.declared.operators.Binary.{Binary}
use Rattle.tosca.specs.declared.operators.Binary.TheVariants.{Add, Subtract, Multiply, Divide, Round, Less, Greater, Equal, And, Or}
use Rattle.tosca.specs.declared.operators.Cause.{Cause}
use Rattle.tosca.specs.declared.operators.Cause.TheVariants.{Range, ZeroDivisor}
use Rattle.tosca.specs.Arithmetic.{in_range, ranged, is_zero, bit, signed, nearest, unary, binary}
use Rattle.tosca.specs.ArithmeticLaws.{negative, Divides, Rounds, Limits, Kept, Zeros, tests, Bit, Tests, Worked}

-- a size with the sign of a
abbrev pub like : ℤ → ℕ → ℤ
like (pos a) n = pos n
like (negsuc a) n = neg_ℤ (pos n)

neg_times_pos : (q b : ℕ) → neg_ℤ (pos q) *ℤ pos b ≡ neg_ℤ (pos (q * b))
neg_times_pos zero b = rw zero-mul
neg_times_pos (suc q) b = negsuc-*ℤ-pos q b

neg_times_neg : (q b : ℕ) → neg_ℤ (pos q) *ℤ negsuc b ≡ pos (q * suc b)
neg_times_neg zero b = rw zero-mul
neg_times_neg (suc q) b = negsuc-*ℤ-negsuc q b

-- a quotient times its divisor has the sign of the dividend
pub signed_times : (a b : ℤ) (q : ℕ) → signed a b q *ℤ b ≡ like a (q * nat_abs b)
signed_times (pos a) (pos b) q = refl
signed_times (pos a) (negsuc b) q = neg_times_neg q b
signed_times (negsuc a) (pos b) q = neg_times_pos q b
signed_times (negsuc a) (negsuc b) q = pos-*ℤ-negsuc q b

quot_signed : (a b : ℤ) → quot_z a b ≡ signed a b (nat_abs a / nat_abs b)
quot_signed (pos a) (pos b) = refl
quot_signed (pos a) (negsuc b) = refl
quot_signed (negsuc a) (pos b) = refl
quot_signed (negsuc a) (negsuc b) = refl

pub nonzero : (b : ℤ) → is_zero b ≡ false → 0 < nat_abs b
nonzero b h = let k = eqb-false (nat_abs b) 0 h in omega arith

back : (x y : ℤ) → x ≡ y +ℤ (x -ℤ y)
back x y = omega (arith, ints)

not_under : (z : ℤ) → pos 0 ≤ℤ z → negative z ≡ false
not_under z h = grind (arith, ints)

under : (z : ℤ) → z <ℤ pos 0 → negative z ≡ true
under z h = grind (arith, ints)

divided : (a b m : ℤ) (n : ℕ) → m ≡ like a n → n ≤ nat_abs a → nat_abs a < n + nat_abs b → (nat_abs (a -ℤ m) < nat_abs b) × ((a -ℤ m ≡ pos 0) ⊎ (negative (a -ℤ m) ≡ negative a))
divided (pos a) b m n e h k = (omega (arith, ints), inr (not_under (pos a -ℤ m) (omega (arith, ints)) ∙ sym (le-ltb a 0 (omega arith))))
divided (negsuc a) b m n e h k = (omega (arith, ints), by (eqb n (suc a)) refl)
  where
    by : (v : Bool) → eqb n (suc a) ≡ v → (negsuc a -ℤ m ≡ pos 0) ⊎ (negative (negsuc a -ℤ m) ≡ true)
    by true t = let same = eqb-true n (suc a) t in inl (omega (arith, ints))
    by false t = let apart = eqb-false n (suc a) t in inr (under (negsuc a -ℤ m) (omega (arith, ints)))

pub divides : Divides
divides a b h =
    let d = nonzero b h in
    let n = nat_abs a / nat_abs b * nat_abs b in
    let whole = div-add-mod' (nat_abs a) (nat_abs b) in
    let small : nat_abs a % nat_abs b < nat_abs b = mod-lt (nat_abs a) d in
    let e : quot_z a b *ℤ b ≡ like a n = ap (λ (q : ℤ). q *ℤ b) (quot_signed a b) ∙ signed_times a b (nat_abs a / nat_abs b) in
    let r = divided a b (quot_z a b *ℤ b) n e (omega arith) (omega arith) in
    record { whole = back a (quot_z a b *ℤ b); small = r.0; sign = r.1 }

rounded : (a m : ℤ) (n d : ℕ) → 0 < d → m ≡ like a n → 2 * n ≤ 2 * nat_abs a + d → 2 * nat_abs a + d < 2 * n + 2 * d → (2 * nat_abs (a -ℤ m) ≤ d) × (2 * nat_abs (a -ℤ m) ≡ d → nat_abs a < nat_abs m)
rounded (pos a) m n d p e h k = (omega (arith, ints), λ q. omega (arith, ints))
rounded (negsuc a) m n d p e h k = (omega (arith, ints), λ q. omega (arith, ints))

-- q is (2n + d) / 2d
halves : (n d q r : ℕ) → q * (2 * d) + r ≡ 2 * n + d → r < 2 * d → (2 * (q * d) ≤ 2 * n + d) × (2 * n + d < 2 * (q * d) + 2 * d)
halves n d q r e h = let f : q * (2 * d) ≡ 2 * (q * d) = mul_left_comm q 2 d in (omega arith, omega arith)

pub rounds : Rounds
rounds a b h =
    let d = nat_abs b in
    let n = 2 * nat_abs a + d in
    let p = nonzero b h in
    let k = halves (nat_abs a) d (n / (2 * d)) (n % (2 * d)) (div-add-mod' n (2 * d)) (mod-lt n (omega arith)) in
    let r = rounded a (nearest a b *ℤ b) (n / (2 * d) * d) d p (signed_times a b (n / (2 * d))) k.0 k.1 in
    record { near = r.0; half = r.1 }

pub limits : Limits
limits (pos n) = record {
  within = λ h k. let lt : n < 2 ^ 31 = omega (arith, ints) in rw (lt-ltb n (2 ^ 31) lt);
  below = λ h. absurd (omega (arith, ints));
  above = λ h. let ge : 2 ^ 31 ≤ n = omega (arith, ints) in rw (le-ltb n (2 ^ 31) ge);
}
limits (negsuc n) = record {
  within = λ h k. let lt : n < 2 ^ 31 = omega (arith, ints) in rw (lt-ltb n (2 ^ 31) lt);
  below = λ h. let ge : 2 ^ 31 ≤ n = omega (arith, ints) in rw (le-ltb n (2 ^ 31) ge);
  above = λ h. absurd (omega (arith, ints));
}

-- a result whose number is in the range
abbrev pub Bounded : Result ℤ Cause → Type 0
Bounded (Ok z) = in_range z ≡ true
Bounded (Err e) = Unit {0}

-- a result other than the cause of a zero divisor
abbrev pub NotZero : Result ℤ Cause → Type 0
NotZero (Ok z) = Unit {0}
NotZero (Err Range) = Unit {0}
NotZero (Err ZeroDivisor) = ⊥

bounded_ranged : (z : ℤ) → Bounded (ranged z)
bounded_ranged z = by (in_range z) refl
  where
    by : (t : Bool) → in_range z ≡ t → Bounded (cond t (Ok z) (Err Range))
    by true i = i
    by false i = tt

bounded_bit : (b : Bool) → Bounded (Ok (bit b))
bounded_bit true = refl
bounded_bit false = refl

bounded_unless : (t : Bool) (z : ℤ) → Bounded (cond t (Err ZeroDivisor) (ranged z))
bounded_unless true z = tt
bounded_unless false z = bounded_ranged z

bounded_unary : (o : Unary) (a : ℤ) → Bounded (unary o a)
bounded_unary Negate a = bounded_ranged (neg_ℤ a)
bounded_unary Not a = bounded_bit (is_zero a)

bounded_binary : (o : Binary) (a b : ℤ) → Bounded (binary o a b)
bounded_binary Add a b = bounded_ranged (a +ℤ b)
bounded_binary Subtract a b = bounded_ranged (a -ℤ b)
bounded_binary Multiply a b = bounded_ranged (a *ℤ b)
bounded_binary Divide a b = bounded_unless (is_zero b) (quot_z a b)
bounded_binary Round a b = bounded_unless (is_zero b) (nearest a b)
bounded_binary Less a b = bounded_bit (lt_z a b)
bounded_binary Greater a b = bounded_bit (lt_z b a)
bounded_binary Equal a b = bounded_bit (is_zero (a -ℤ b))
bounded_binary And a b = bounded_bit (not (is_zero a) && not (is_zero b))
bounded_binary Or a b = bounded_bit (not (is_zero a) || not (is_zero b))

pub kept : Kept
kept = record { one = λ o a z e. subst Bounded e (bounded_unary o a); two = λ o a b z e. subst Bounded e (bounded_binary o a b) }

not_zero_ranged : (z : ℤ) → NotZero (ranged z)
not_zero_ranged z = by (in_range z)
  where
    by : (t : Bool) → NotZero (cond t (Ok z) (Err Range))
    by true = tt
    by false = tt

not_zero_unary : (o : Unary) (a : ℤ) → NotZero (unary o a)
not_zero_unary Negate a = not_zero_ranged (neg_ℤ a)
not_zero_unary Not a = tt

zero_is : (b : ℤ) → is_zero b ≡ true → b ≡ pos 0
zero_is (pos n) h = ap pos (eqb-true n 0 h)
zero_is (negsuc n) h = let e = eqb-true (suc n) 0 h in absurd (omega arith)

by_zero : (b z : ℤ) → cond (is_zero b) (Err ZeroDivisor) (ranged z) ≡ Err ZeroDivisor → b ≡ pos 0
by_zero b z e = by (is_zero b) refl e
  where
    by : (t : Bool) → is_zero b ≡ t → cond t (Err ZeroDivisor) (ranged z) ≡ Err ZeroDivisor → b ≡ pos 0
    by true i f = zero_is b i
    by false i f = absurd (subst NotZero f (not_zero_ranged z))

only_zero : (o : Binary) (a b : ℤ) → binary o a b ≡ Err ZeroDivisor → (b ≡ pos 0) × ((o ≡ Divide) ⊎ (o ≡ Round))
only_zero Add a b e = absurd (subst NotZero e (not_zero_ranged (a +ℤ b)))
only_zero Subtract a b e = absurd (subst NotZero e (not_zero_ranged (a -ℤ b)))
only_zero Multiply a b e = absurd (subst NotZero e (not_zero_ranged (a *ℤ b)))
only_zero Divide a b e = (by_zero b (quot_z a b) e, inl refl)
only_zero Round a b e = (by_zero b (nearest a b) e, inr refl)
only_zero Less a b e = absurd (subst NotZero e tt)
only_zero Greater a b e = absurd (subst NotZero e tt)
only_zero Equal a b e = absurd (subst NotZero e tt)
only_zero And a b e = absurd (subst NotZero e tt)
only_zero Or a b e = absurd (subst NotZero e tt)

pub zeros : Zeros
zeros = record { divide = λ a. refl; round = λ a. refl; never = λ o a e. subst NotZero e (not_zero_unary o a); only = only_zero }

is_bit : (b : Bool) → Bit (Ok (bit b))
is_bit true = inr refl
is_bit false = inl refl

test_bit : (o : Binary) (a b : ℤ) → tests o ≡ true → Bit (binary o a b)
test_bit Add a b e = absurd (clash e)
test_bit Subtract a b e = absurd (clash e)
test_bit Multiply a b e = absurd (clash e)
test_bit Divide a b e = absurd (clash e)
test_bit Round a b e = absurd (clash e)
test_bit Less a b e = is_bit (lt_z a b)
test_bit Greater a b e = is_bit (lt_z b a)
test_bit Equal a b e = is_bit (is_zero (a -ℤ b))
test_bit And a b e = is_bit (not (is_zero a) && not (is_zero b))
test_bit Or a b e = is_bit (not (is_zero a) || not (is_zero b))

pub tested : Tests
tested = record { one = λ a. is_bit (is_zero a); two = test_bit }

pub worked : Worked
worked = record { half = refl; negative_half = refl; toward_zero = refl; above = refl; least = refl; by_zero = refl }
