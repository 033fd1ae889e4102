use Rattle.agreement.proofs.Exprs.{expr_simulation}
use Rattle.agreement.proofs.Cmds.{cmd_simulation}
use Rattle.agreement.proofs.Agree.{routine_simulation}
use Rattle.agreement.proofs.laws.simulation_laws.Goals as goal

pub returns : goal.returns
returns c = record { expressions = expr_simulation; commands = cmd_simulation; routines = routine_simulation }
