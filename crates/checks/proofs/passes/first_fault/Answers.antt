use Rattle.std.proofs.Common.{length, refl, rules, arith}
use native.Mathlib.Nat.{sub-zero}
use Rattle.std.proofs.lemmas.Iterator.{YieldsList-from_range, serves_from_Range}
use Rattle.std.proofs.lemmas.Iterator.Search.{find_from_yields_List}
use Rattle.draft.specs.Opening.{entries_of}
use Rattle.checks.proofs.Firsts.{first_found}
use Rattle.checks.proofs.passes.first_fault.Goals as goal

pub find-requires-clause-callable : goal.find-requires-clause-callable
find-requires-clause-callable g c = serves_from_Range (λ x q k. search rules) (λ x low below. search (rules, c.requires x (omega (arith, below, c.count.ensures))))

pub returns : goal.returns
returns g c = λ p h.
    first_found p (length (entries_of c.args.draft.now)) c.count.ensures
    (find_from_yields_List p _ _ c.find.result c.find.ensures.ran (YieldsList-from_range 0 c.count.result c.count.result refl (sub-zero c.count.result)) (λ x b q k. search (rules, h)))
