use Rattle.check_trials.proofs.Computed.{unset_is, temporaries_are}
use Rattle.check_trials.proofs.examples.worked_examples.Goals as goal

pub returns : goal.returns
returns c = record { unset = unset_is; temporaries = temporaries_are }
