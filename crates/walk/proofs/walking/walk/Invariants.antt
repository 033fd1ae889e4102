use Rattle.std.proofs.Common.{◌≡◌}
use Rattle.draft.specs.Opening.{entries_of}
use Rattle.statics.specs.Folding.{fold}
use Rattle.walk.proofs.Filling.{partly}
use Rattle.walk.proofs.walking.walk.Given as goal

abbrev pub invariant-loop-n : goal.invariant-loop-n
invariant-loop-n g l = l.answers ≡ partly (fold (g.R.Reading.algebra l.reading)) (entries_of l.draft) l.n l.initial.answers
