use Rattle.std.proofs.Common.{sym}
use Rattle.std.proofs.lemmas.Result.{err_from_is_err_and}
use Rattle.reader.proofs.DeclarProgram.{decls_wrong, body_wrong, no_period, no_stop, whole}
use Rattle.reader.proofs.program.program.Goals as goal

pub returns-in_err-declarations : goal.returns-in_err-declarations
returns-in_err-declarations c =
    let x = err_from_is_err_and c.from_residual-in_err-declarations.result c.from_residual-in_err-declarations.ensures.1 in
    rw (x.1, x.2) (decls_wrong c.args.parser.now c.expect.new.self c.name.new.self c.expect-2.new.self c.args.table.now c.in_ok-name.field-0 c.requires.1 c.in_ok-name.ensures.0 c.in_ok-expect.ensures c.in_ok-name.ensures.1 c.in_ok-expect-2.ensures c.declarations.new.parser c.declarations.new.table c.in_err-declarations.field-0.0 c.in_err-declarations.ensures.is)

pub returns-in_err-body : goal.returns-in_err-body
returns-in_err-body c =
    let x = err_from_is_err_and c.from_residual-in_err-body.result c.from_residual-in_err-body.ensures.1 in
    rw (x.1, x.2) (body_wrong c.args.parser.now c.expect.new.self c.name.new.self c.expect-2.new.self c.args.table.now c.in_ok-name.field-0 c.requires.1 c.in_ok-name.ensures.0 c.in_ok-expect.ensures c.in_ok-name.ensures.1 c.in_ok-expect-2.ensures c.declarations.new.parser c.declarations.new.table c.in_ok-declarations.field-0 c.in_ok-declarations.ensures.is c.cmds.new.parser c.cmds.new.table c.in_err-body.field-0.0 c.in_err-body.ensures.is)

pub returns-in_err-expect-3 : goal.returns-in_err-expect-3
returns-in_err-expect-3 c =
    let x = err_from_is_err_and c.from_residual-in_err-expect-3.result c.from_residual-in_err-expect-3.ensures.1 in
    rw (x.1, x.2) (no_period c.args.parser.now c.expect.new.self c.name.new.self c.expect-2.new.self c.args.table.now c.in_ok-name.field-0 c.requires.1 c.in_ok-name.ensures.0 c.in_ok-expect.ensures c.in_ok-name.ensures.1 c.in_ok-expect-2.ensures c.declarations.new.parser c.declarations.new.table c.in_ok-declarations.field-0 c.in_ok-declarations.ensures.is c.cmds.new.parser c.cmds.new.table c.in_ok-body.body c.in_ok-body.ensures.is c.in_err-expect-3.field-0.0 c.in_err-expect-3.ensures)

pub returns-then-is_at : goal.returns-then-is_at
returns-then-is_at c = whole c.args.parser.now c.expect.new.self c.name.new.self c.expect-2.new.self c.args.table.now c.in_ok-name.field-0 c.requires.1 c.in_ok-name.ensures.0 c.in_ok-expect.ensures c.in_ok-name.ensures.1 c.in_ok-expect-2.ensures c.declarations.new.parser c.declarations.new.table c.in_ok-declarations.field-0 c.in_ok-declarations.ensures.is c.cmds.new.parser c.cmds.new.table c.in_ok-body.body c.in_ok-body.ensures.is c.expect-3.new.self c.emit.new.self c.emit.new.table c.emit.result c.in_ok-expect-3.ensures c.emit.ensures (tt {0}) (sym c.if-is_at.ensures)

pub returns : goal.returns
returns c = no_stop c.args.parser.now c.expect.new.self c.name.new.self c.expect-2.new.self c.args.table.now c.in_ok-name.field-0 c.requires.1 c.in_ok-name.ensures.0 c.in_ok-expect.ensures c.in_ok-name.ensures.1 c.in_ok-expect-2.ensures c.declarations.new.parser c.declarations.new.table c.in_ok-declarations.field-0 c.in_ok-declarations.ensures.is c.cmds.new.parser c.cmds.new.table c.in_ok-body.body c.in_ok-body.ensures.is c.expect-3.new.self c.emit.new.self c.emit.new.table c.emit.result c.in_ok-expect-3.ensures c.emit.ensures c.refuse.result (sym c.if-is_at.ensures) c.refuse.ensures
