use Rattle.std.proofs.Common.{take}
use Rattle.tosca.specs.Opens.{all_uses}
use Rattle.draft.specs.Uses.{Counts}
use Rattle.draft.proofs.arrangement.uses_of.Given as goal

abbrev pub invariant-loop-entry : goal.invariant-loop-entry
invariant-loop-entry l = Counts l.uses (λ k. all_uses k (take l.entry-index l.entries))
