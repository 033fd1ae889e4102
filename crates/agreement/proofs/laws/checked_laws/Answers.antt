use Rattle.agreement.proofs.Typing.{never_stuck}
use Rattle.agreement.proofs.Addresses.{all_addressed_lem}
use Rattle.agreement.proofs.laws.checked_laws.Goals as goal

pub returns : goal.returns
returns c = record { never_stuck = never_stuck; addressed = all_addressed_lem }
