use Rattle.std.proofs.Common.{arith, rules}
use Rattle.tosca.specs.Decode.{cmd_at}
use Rattle.draft.specs.Opening.{entries_of}
use Rattle.walk.specs.Readings.{types_of}
use Rattle.translator.proofs.Wholes.{few_code, body_ready, code_emitted}
use Rattle.translator.proofs.translating.emit_all.Goals as goal

pub command-requires : goal.command-requires
command-requires c =
    let b = c.body.ensures in
    body_ready c.args.routine.now c.draft-draft.ensures b.below b.command b.tree

pub returns : goal.returns
returns c =
    let d = c.draft-draft.result.now in
    let e = code_emitted c.args.routine.now c.draft-draft.ensures (types_of c.of-typing.result) (cmd_at (entries_of d) c.body.result) c.of-typing.ensures c.body.ensures.tree c.command.ensures in
    record { count = omega (arith, e.next); few = omega (arith, e.next, few_code c.args.routine.now.draft); table = search (rules, e.table, e.lent) }
