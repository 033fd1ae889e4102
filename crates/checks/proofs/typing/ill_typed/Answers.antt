use Rattle.std.proofs.Common.{replicate, Err, rules}
use Rattle.draft.specs.Opening.{entries_of}
use Rattle.statics.specs.declared.verdict.TypeError.TheVariants.{Wrong}
use Rattle.statics.specs.Typing.{Verdict}
use Rattle.walk.specs.Readings.{types_of}
use Rattle.checks.proofs.Asked.{typed_asked}
use Rattle.checks.proofs.Within.{room}
use Rattle.checks.proofs.typing.ill_typed.Goals as goal

pub returns : goal.returns
returns c = typed_asked (entries_of c.args.draft.now) c.args.draft.now.formed (types_of c.of-typing.result) c.of-typing.ensures c.verdicts.new.answers (replicate 1024 (Err Wrong)) c.verdicts.ensures (room {A = Verdict} c.args.draft.now (Err Wrong)) (c.first_fault.ensures _ (λ n r k. search rules))
