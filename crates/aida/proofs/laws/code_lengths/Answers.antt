use Rattle.aida.proofs.Lengths.{lengths}
use Rattle.aida.proofs.laws.code_lengths.Goals as goal

pub returns : goal.returns
returns c = lengths
