use Rattle.std.proofs.Common.{rules}
use Rattle.draft.specs.Opening.{entries_of}
use Rattle.walk.specs.Readings.{types_of}
use Rattle.checks.proofs.Asked.{declared_asked}
use Rattle.checks.proofs.declarations.undeclared_name.Goals as goal

pub returns : goal.returns
returns c = declared_asked (entries_of c.args.draft.now) c.args.draft.now.formed (types_of c.of-typing.result) c.of-typing.ensures (c.first_fault.ensures _ (λ n r k. search rules))
