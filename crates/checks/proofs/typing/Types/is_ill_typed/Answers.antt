use Rattle.std.proofs.Common.{arith}
use Rattle.draft.specs.Opening.{entries_of}
use Rattle.draft.proofs.Facts.{assign_fact}
use Rattle.checks.proofs.Within.{node_below, tested_part}
use Rattle.checks.proofs.typing.Types.is_ill_typed.Goals as goal

pub variable-requires : goal.variable-requires
variable-requires c = (assign_fact (entries_of c.args.draft.now) c.args.draft.now.formed c.args.n c.requires c.in-Assign.ensures).0

pub on-requires-in-Assign : goal.on-requires-in-Assign
on-requires-in-Assign c =
    let f = assign_fact (entries_of c.args.draft.now) c.args.draft.now.formed c.args.n c.requires c.in-Assign.ensures in
    omega (arith, f.1, node_below c.args.draft.now c.args.n c.requires)

pub on-requires-in-Choice : goal.on-requires-in-Choice
on-requires-in-Choice c =
    let f = tested_part (entries_of c.args.draft.now) c.args.draft.now.formed c.args.n c.requires c.node_at.result c.node_at.ensures c.in-Choice.a c.in-Choice.is in
    omega (arith, f, node_below c.args.draft.now c.args.n c.requires)
