use Rattle.std.proofs.Common.{refl}
use Rattle.trials.proofs.examples.worked_examples.Goals as goal

pub returns : goal.returns
returns c = record {
  empty = refl;
  writes = record { nodes = refl; table = refl; short = refl };
  refusals = record { token = refl; name = refl; number = refl; missing = refl; depth = refl };
}
