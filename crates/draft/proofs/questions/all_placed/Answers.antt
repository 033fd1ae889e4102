use Rattle.std.proofs.Common.{rules, sym, ◌∙◌}
use borrow.Author.Tests.{tests}
use Rattle.std.proofs.lemmas.Iterator.{YieldsList-from_slice}
use Rattle.std.proofs.lemmas.Iterator.Consumers.{YieldsList-from_enumerate}
use Rattle.std.proofs.lemmas.Iterator.Search.{all_from_yields_List}
use Rattle.draft.proofs.Asking.{placed_entry, placed_each}
use Rattle.draft.proofs.questions.all_placed.Goals as goal

pub returns : goal.returns
returns c =
    let t = c.args.entries.now in
    all_from_yields_List (placed_entry t) _ _ _ c.all.ensures.ran (YieldsList-from_enumerate (YieldsList-from_slice t cc) cc) (λ x b q k. search (rules, tests)) ∙ sym (placed_each t 0 t)
