use Rattle.std.proofs.lemmas.Result.{err_from_is_err_and}
use Rattle.grammar.specs.declared.symbols.Start.TheVariants.{Write}
use Rattle.grammar.specs.Tokens.{start}
use Rattle.parser.proofs.CommandSteps.{reads_as}
use Rattle.commands.proofs.CommandSimple.{outputs, outputs_wrong, outputs_open}
use Rattle.commands.proofs.simple_commands.output.Goals as goal

pub returns-in_err-value-clause-is : goal.returns-in_err-value-clause-is
returns-in_err-value-clause-is c =
    let x = err_from_is_err_and c.from_residual-in_err-value.result c.from_residual-in_err-value.ensures.1 in
    let a = reads_as c.args.parser.now c.advance.new.self (start Write) c.requires.1 c.in_ok-advance.ensures in
    rw (x.1, x.2) (outputs_wrong c.args.depth.level c.args.parser.now c.advance.new.self c.open.new.self c.expr.new.parser c.expr.new.parser c.args.table.now c.expr.new.table c.expr.new.table c.in_err-value.field-0.0 c.args.depth.within a c.in_ok-open.ensures c.in_err-value.ensures.is)

pub returns-in_err-expect-clause-is : goal.returns-in_err-expect-clause-is
returns-in_err-expect-clause-is c =
    let x = err_from_is_err_and c.from_residual-in_err-expect.result c.from_residual-in_err-expect.ensures.1 in
    let a = reads_as c.args.parser.now c.advance.new.self (start Write) c.requires.1 c.in_ok-advance.ensures in
    rw (x.1, x.2) (outputs_open c.args.depth.level c.args.parser.now c.advance.new.self c.open.new.self c.expr.new.parser c.expect.new.self c.args.table.now c.expr.new.table c.expr.new.table c.in_ok-value.value c.in_err-expect.field-0.0 c.args.depth.within a c.in_ok-open.ensures c.in_ok-value.ensures.is c.in_err-expect.ensures)

pub returns-clause-is : goal.returns-clause-is
returns-clause-is c =
    let a = reads_as c.args.parser.now c.advance.new.self (start Write) c.requires.1 c.in_ok-advance.ensures in
    let b = c.in_ok-open.ensures in
    let v = c.in_ok-value.ensures in
    let e = c.in_ok-expect.ensures in
    outputs c.args.depth.level c.args.parser.now c.advance.new.self c.open.new.self c.expr.new.parser c.expect.new.self c.emit.new.self c.args.table.now c.expr.new.table c.emit.new.table c.in_ok-value.value c.emit.result c.args.depth.within a b v.is e c.emit.ensures
