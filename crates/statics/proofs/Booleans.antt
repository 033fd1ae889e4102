-- What follows from two tests that are not equal. Assumes nothing.
use Rattle.std.proofs.Common.{◌≡◌, true, false}
use Rattle.std.proofs.lemmas.Bool.{true≢false, false≢true}
pub use Rattle.std.proofs.lemmas.Bool.{and_parts as both_true}

pub false_true : {A : Type 0} → false ≡ true → A
false_true e = absurd (false≢true e)

pub true_false : {A : Type 0} → true ≡ false → A
true_false e = absurd (true≢false e)
