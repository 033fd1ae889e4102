use Rattle.std.proofs.Common.{rules, min, sym, ap, ◌∙◌, arith}
use borrow.Author.Tests.{tests}
use Rattle.std.proofs.lemmas.Iterator.{YieldsList-from_slice, YieldsList-from_zip}
use Rattle.std.proofs.lemmas.Iterator.Search.{all_from_yields_List}
use Rattle.tosca.specs.Opens.{all_uses}
use Rattle.draft.proofs.Arranging.{once_entry, once_each}
use Rattle.draft.proofs.arrangement.are_all_once.Goals as goal

pub returns : goal.returns
returns c =
    let t = c.args.entries.now in
    all_from_yields_List once_entry c.all.new.self _ _ c.all.ensures.ran (YieldsList-from_zip (YieldsList-from_slice t cc) (YieldsList-from_slice c.uses_of-uses.result cc)) (λ x b q k. search (rules, tests)) ∙ sym (once_each t 0 t c.uses_of-uses.result (omega arith) (λ k lt. c.uses_of-uses.ensures k lt ∙ ap (λ n. min (all_uses n t) 255) (omega arith)))
