use Rattle.std.proofs.lemmas.Result.{err_from_is_err_and}
use Rattle.commands.proofs.CommandSimple.{assigned, assigned_wrong}
use Rattle.commands.proofs.simple_commands.assignment.Goals as goal

pub returns-in_err-value-clause-is : goal.returns-in_err-value-clause-is
returns-in_err-value-clause-is c =
    let x = err_from_is_err_and c.from_residual-in_err-value.result c.from_residual-in_err-value.ensures.1 in
    let n = c.in_ok-name.ensures in
    rw (x.1, x.2) (assigned_wrong c.args.depth.level c.args.parser.now c.name.new.self c.expect.new.self c.expr.new.parser c.expr.new.parser c.args.table.now c.expr.new.table c.expr.new.table c.in_ok-name.name c.in_err-value.field-0.0 c.args.depth.within n.0 n.1 c.in_ok-expect.ensures c.in_err-value.ensures.is)

pub returns-clause-is : goal.returns-clause-is
returns-clause-is c =
    let n = c.in_ok-name.ensures in
    let b = c.in_ok-expect.ensures in
    let v = c.in_ok-value.ensures in
    assigned c.args.depth.level c.args.parser.now c.name.new.self c.expect.new.self c.expr.new.parser c.emit.new.self c.args.table.now c.expr.new.table c.emit.new.table c.in_ok-name.name c.in_ok-value.value c.emit.result c.args.depth.within n.0 n.1 b v.is c.emit.ensures
