-- What stands at a counter of a code, and that its target and cell exist.
use Rattle.std.proofs.Common.{◌≡◌, ℕ, zero, suc, true, List, [], ◌∷◌, Some, None, Option, refl}
use mathlib.Core.Option as maybe
use mathlib.Core.Option.{none, some}
use lib.ListN.{get_elem?}
use Rattle.std.specs.List.{slice_get}
use Rattle.std.proofs.lemmas.Bool.{and_parts}
use Rattle.aida.specs.declared.instructions.Coded.{Coded}
use Rattle.aida.specs.TemplateLaws.{addressed, all_addressed}
use Rattle.code.specs.declared.mounted.Mounted.{Mounted}
use Rattle.code.specs.Mounting.{code_of, found, Within}

pub found_is : (is : List Coded) (k : ℕ) → slice_get is k ≡ found (get_elem? is k)
found_is [] k = refl
found_is (i ∷ is) zero = refl
found_is (i ∷ is) (suc k) = found_is is k

pub addressed_at : (n : ℕ) (is : List Coded) (k : ℕ) (i : Coded) → all_addressed n is ≡ true → get_elem? is k ≡ some i → addressed n i.instruction ≡ true
unfolding all_addressed
addressed_at n [] k i h e = absurd (cc)
addressed_at n (j ∷ is) zero i h e =
    let same : j ≡ i = cc in
    rw same at (and_parts (addressed n j.instruction) (all_addressed n is) h).0
addressed_at n (j ∷ is) (suc k) i h e = addressed_at n is k i (and_parts (addressed n j.instruction) (all_addressed n is) h).1 e

some_from : (o : maybe.Option Coded) (i : Coded) → Some i ≡ found o → o ≡ some i
some_from none i e = absurd (cc)
some_from (some j) i e = cc

pub within_found : (m : Mounted) (k : ℕ) (r : Option Coded) → r ≡ found (get_elem? (code_of m) k) → Within m r
within_found m k None e = tt
within_found m k (Some i) e = addressed_at m.count (code_of m) k i m.within (some_from (get_elem? (code_of m) k) i e)
