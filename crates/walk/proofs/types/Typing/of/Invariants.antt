use Rattle.draft.specs.Opening.{entries_of}
use Rattle.walk.proofs.Declaring.{Gathered}
use Rattle.walk.proofs.types.Typing.of.Given as goal

abbrev pub invariant-loop-entry : goal.invariant-loop-entry
invariant-loop-entry l = Gathered (entries_of l.draft) l.entry-index l.typing.types
