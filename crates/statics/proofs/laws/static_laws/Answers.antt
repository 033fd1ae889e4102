use Rattle.statics.proofs.Types.{verdict_means}
use Rattle.statics.proofs.Judging.{static_laws, faults_mean}
use Rattle.statics.proofs.Worked.{worked}
use Rattle.statics.proofs.laws.static_laws.Goals as goal

pub returns : goal.returns
returns c = record { judged = static_laws; faults = faults_mean; verdicts = verdict_means; worked = worked }
