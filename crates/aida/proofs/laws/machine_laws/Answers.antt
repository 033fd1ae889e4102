use Rattle.aida.proofs.Steps.{idle, unaltered}
use Rattle.aida.proofs.Runs.{ending, one_end, resumption}
use Rattle.aida.proofs.laws.machine_laws.Goals as goal

pub returns : goal.returns
returns c = record { idle = idle; unaltered = unaltered; ending = ending; one_end = one_end; resumption = resumption }
