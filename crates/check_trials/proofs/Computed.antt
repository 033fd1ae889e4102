-- The worked examples, by computation.
use Rattle.std.proofs.Common.{refl}
use Rattle.tosca.specs.Decode.{expr_by, expr_at, cmd_by, cmd_at, decls_from, program_of}
use Rattle.statics.specs.Choosing.{chosen_in, chosen}
use Rattle.statics.specs.Folding.{fold}
use Rattle.statics.specs.Temporaries.{need}
use Rattle.statics.specs.Setting.{after, unset}
use Rattle.statics.specs.Checking.{checking}
use Rattle.verdict.specs.Verdicts.{verdict_of}
use Rattle.check_trials.specs.Examples.{Unset, Temporaries}

pub unset_is : Unset
unfolding verdict_of checking unset after need fold chosen chosen_in program_of decls_from cmd_at cmd_by expr_at expr_by
unset_is = record { one = refl; both = refl }

pub temporaries_are : Temporaries
unfolding verdict_of checking unset after need fold chosen chosen_in program_of decls_from cmd_at cmd_by expr_at expr_by
temporaries_are = record { enough = refl; too_few = refl }
