use Rattle.declarations.proofs.DeclarList.{declared}
use Rattle.declarations.proofs.declarations.declaration.Goals as goal

pub returns-clause-is : goal.returns-clause-is
returns-clause-is c =
    let n = c.in_ok-declared_names.ensures in
    let y = c.in_ok-typ.ensures in
    declared c.args.parser.now c.declared_names.new.parser c.args.table.now c.declared_names.new.table n.is.0 n.is.1 c.type_name.new.parser c.expect.new.self c.retype.new.table c.in_ok-typ.typ c.expect.result y c.retype.ensures c.expect.ensures
