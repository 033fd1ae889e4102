use Rattle.aida.proofs.Examples.{worked}
use Rattle.aida.proofs.laws.worked_examples.Goals as goal

pub returns : goal.returns
returns c = worked
