-- The worked examples, by computation. Assumes nothing.
use Rattle.std.proofs.Common.{refl}
use Rattle.statics.specs.Choosing.{chosen_in, chosen}
use Rattle.statics.specs.Folding.{fold}
use Rattle.statics.specs.Temporaries.{need}
use Rattle.statics.specs.Setting.{after, unset}
use Rattle.statics.specs.Checking.{checking}
use Rattle.statics.specs.Worked.{Worked}

pub worked : Worked
unfolding chosen_in chosen fold need after unset checking
worked =
    record {
      most = refl;
      fits = refl;
      large = refl;
      one_branch = refl;
      both_branches = refl;
      undeclared = refl;
      mistyped = refl;
      twice = refl;
    }
