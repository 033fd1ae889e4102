use Rattle.tosca.proofs.Decoding.{fuelled, stepwise, prefixed}
use Rattle.tosca.proofs.laws.decode_laws.Goals as goal

pub returns : goal.returns
returns c = record { fuelled = fuelled; stepwise = stepwise; prefixed = prefixed }
