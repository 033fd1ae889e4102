use Rattle.std.proofs.Common.{ap}
use Rattle.std.proofs.lemmas.List.{take_all}
use Rattle.tosca.specs.Opens.{all_uses}
use Rattle.draft.proofs.Counting.{recount, uses_more, none_counted}
use Rattle.draft.proofs.arrangement.uses_of.Goals as goal

pub loop-entry-init : goal.loop-entry-init
loop-entry-init c = none_counted

pub loop-entry-preserved : goal.loop-entry-preserved
loop-entry-preserved c =
    recount c.count_parts.new.uses _ _ (uses_more c.args.entries.now c.loop-entry.entry-index c.loop-entry-test.true) (c.count_parts.ensures _ c.loop-entry.invariant)

pub returns : goal.returns
returns c =
    recount c.loop-entry.uses _ _ (λ k. ap (all_uses k) (take_all c.loop-entry.entry-index c.args.entries.now c.loop-entry-test.false)) c.loop-entry.invariant
