use Rattle.std.proofs.Common.{◌≡◌, []}
use Rattle.tosca.specs.Decode.{program_of}
use Rattle.draft.specs.Opening.{entries_of}
use Rattle.statics.specs.Choosing.{lowest}
use Rattle.statics.specs.Checking.{again}
use Rattle.checks.proofs.Repeats.{Left}
use Rattle.checks.proofs.declarations.repeated_name.Given as goal

abbrev pub invariant-loop-n : goal.invariant-loop-n
invariant-loop-n l = lowest (again [] (program_of (entries_of l.draft)).decls) ≡ Left (entries_of l.draft) l.seen l.n
