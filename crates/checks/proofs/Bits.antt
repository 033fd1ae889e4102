-- The sets that bits stand for. Assumes nothing.
use Rattle.std.proofs.Common.{◌≡◌, ℕ, ◌^◌, Bool, ◌||◌, eqb, ap, ◌∙◌}
use mathlib.Core.Bool.{or_comm}
use lib.Bits.{bit_and, bit_or}
use Rattle.statics.specs.Setting.{no_vars, with, in_both}
use Rattle.walk.specs.Readings.{holds}
use Rattle.walk.proofs.Sets.{holds_none, holds_or, holds_and, holds_single}

pub holds_nothing : holds 0 ≡ no_vars
holds_nothing = λ i x. holds_none x i

pub holds_with : (s x : ℕ) → holds (bit_or s (2 ^ x)) ≡ with x (holds s)
holds_with s x = λ i y. (holds_or s (2 ^ x) y ∙ ap (λ (b : Bool). holds s y || b) (holds_single x y) ∙ or_comm (holds s y) (eqb x y)) i

pub holds_both : (r s : ℕ) → holds (bit_and r s) ≡ in_both (holds r) (holds s)
holds_both r s = λ i y. holds_and r s y i
