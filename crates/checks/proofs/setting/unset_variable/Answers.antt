use Rattle.checks.proofs.Flows.{body_comes}
use Rattle.checks.proofs.setting.unset_variable.Goals as goal

pub returns : goal.returns
returns c = body_comes c.body.ensures.tree c.none.ensures c.follow.ensures.fault
