use Rattle.std.proofs.Common.{rules, sym, ap, ◌∙◌}
use borrow.Author.Tests.{tests}
use Rattle.std.proofs.lemmas.Iterator.{YieldsList-from_slice}
use Rattle.std.proofs.lemmas.Iterator.Search.{all_from_yields_List}
use Rattle.tosca.specs.Opens.{placed}
use Rattle.draft.proofs.Asking.{placed_part, placed_parts}
use Rattle.draft.proofs.questions.is_placed.Goals as goal

pub returns : goal.returns
returns c =
    let t = c.args.entries.now in
    all_from_yields_List (placed_part t c.args.k) _ _ _ c.all.ensures.ran (YieldsList-from_slice c.all_of.result cc) (λ x b q k. search (rules, tests))
    ∙ sym (ap (placed t c.args.k) c.all_of.ensures ∙ placed_parts t c.args.k c.all_of.result)
