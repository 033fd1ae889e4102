use Rattle.declarations.proofs.DeclarNames.{one_name}
use Rattle.declarations.proofs.declarations.declared_name.Goals as goal

pub returns-clause-is : goal.returns-clause-is
returns-clause-is c =
    let n = c.in_ok-name.ensures in
    one_name c.args.parser.now c.name.new.self c.emit.new.self c.args.table.now c.emit.new.table c.in_ok-name.name c.emit.result (tt {0}) n.0 n.1 c.emit.ensures
