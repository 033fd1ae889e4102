use Rattle.code.proofs.Written.{faithful, addressed_mounts, worked}
use Rattle.code.proofs.laws.code_laws.Goals as goal

pub returns : goal.returns
returns c = record { faithful = faithful; mounts = addressed_mounts; worked = worked }
