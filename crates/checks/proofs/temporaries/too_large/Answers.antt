use Rattle.std.proofs.Common.{◌≡◌, ltb, List, length, take, ap, ◌∙◌, rules, tests}
use Rattle.std.specs.List.{position_from}
use Rattle.std.proofs.lemmas.Iterator.{YieldsList-from_slice}
use Rattle.std.proofs.lemmas.Iterator.Search.{position_from_yields_List}
use Rattle.std.proofs.lemmas.Iterator.Adapters.{position_from-zero}
use Rattle.tosca.specs.declared.table.Entry.{Entry}
use Rattle.draft.specs.Opening.{entries_of}
use Rattle.checks.proofs.Asked.{temporaries_asked}
use Rattle.checks.proofs.Within.{count_below}
use Rattle.checks.proofs.temporaries.too_large.Goals as goal

pub returns : goal.returns
returns c =
    let d = c.args.draft.now in
    let on = take (length c.entries-entries.result.now) c.temporaries.new.answers in
    let found : c.position-found.result ≡ position_from (ltb 32) 0 on =
    position_from_yields_List (ltb 32) _ _ c.position-found.result c.position-found.ensures.ran (YieldsList-from_slice on c.iter.ensures.rest) (λ x b q k. search (rules, tests))
    ∙ position_from-zero (ltb 32) on
    in
    let same : c.map.result ≡ c.position-found.result = search (rules, tests) in
    same ∙ found
    ∙ ap (λ (es : List Entry). position_from (ltb 32) 0 (take (length es) c.temporaries.new.answers)) c.entries-entries.ensures
    ∙ temporaries_asked (entries_of d) d.formed c.temporaries.new.answers c.temporaries.ensures (count_below d)
