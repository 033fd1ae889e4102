use Rattle.std.proofs.Common.{sym}
use Rattle.reader.proofs.Explaining.{one_tree}
use Rattle.reader.proofs.Outcomes.{promise_yes, promise_no}
use Rattle.reader.proofs.reading.read.Goals as goal

pub returns-then-is_err : goal.returns-then-is_err
returns-then-is_err c =
    let x = promise_no c.args.text.now c.read_nodes-answer.result c.args.table.now c.clear.new.table c.read_nodes-answer.new.table c.clear-then-is_err.new.table (sym c.if-is_err.ensures.value) c.clear.ensures c.read_nodes-answer.auto.table c.clear-then-is_err.ensures c.read_nodes-answer.ensures in
    record { is = x.is; table = x.table; explained = x.explained; complete = x.complete; unique = one_tree c.args.text.now }

pub returns-else-is_err : goal.returns-else-is_err
returns-else-is_err c =
    let x = promise_yes c.args.text.now c.read_nodes-answer.result c.args.table.now c.clear.new.table c.read_nodes-answer.new.table (sym c.if-is_err.ensures.value) c.clear.ensures c.read_nodes-answer.ensures in
    record { is = x.is; table = x.table; explained = x.explained; complete = x.complete; unique = one_tree c.args.text.now }
