use Rattle.agreement.proofs.Counting.{few_instructions}
use Rattle.agreement.proofs.Passing.{passed_code, passed_runs, passed_agreement}
use Rattle.agreement.proofs.laws.passed_laws.Goals as goal

pub returns : goal.returns
returns c = record { few = few_instructions; code = passed_code; runs = passed_runs; agreement = passed_agreement }
