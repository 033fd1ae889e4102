use Rattle.aida.proofs.Loops.{loops, bounded}
use Rattle.aida.proofs.laws.source_laws.Goals as goal

pub returns : goal.returns
returns c = record { loops = loops; bounded = bounded }
