use Rattle.agreement.proofs.Responses.{answering, one_answering}
use Rattle.agreement.proofs.Agree.{agreement}
use Rattle.agreement.proofs.laws.agreement_laws.Goals as goal

pub returns : goal.returns
returns c = record { answering = answering; one_answering = one_answering; agreement = agreement }
