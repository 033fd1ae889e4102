use Rattle.draft.specs.Opening.{entries_of}
use Rattle.checks.proofs.Within.{some_count, last_below, last_program, body_below, body_command, body_tree}
use Rattle.checks.proofs.nodes.body.Goals as goal

pub overflow_sub-count : goal.overflow_sub-count
overflow_sub-count c = some_count (entries_of c.args.draft.now) c.args.draft.now.formed c.count.result c.count.ensures

pub node_at-requires : goal.node_at-requires
node_at-requires c = last_below (entries_of c.args.draft.now) c.args.draft.now.formed c.count.result c.count.ensures

pub unreachable-requires : goal.unreachable-requires
unreachable-requires c = last_program (entries_of c.args.draft.now) c.args.draft.now.formed c.count.result c.count.ensures c.node_at.result c.node_at.ensures c.in_default.not-Program

pub returns : goal.returns
returns c =
    let t = entries_of c.args.draft.now in
    let f = c.args.draft.now.formed in
    let n = c.count.result in
    let e = c.in-Program.ensures in
    record { below = body_below t f n c.count.ensures e; command = body_command t f n c.count.ensures e; tree = body_tree t f n c.count.ensures e }
