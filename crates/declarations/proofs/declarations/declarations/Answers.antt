use Rattle.std.proofs.Common.{sym}
use Rattle.declarations.proofs.DeclarList.{some_vars}
use Rattle.declarations.proofs.declarations.declarations.Goals as goal

pub returns-clause-is : goal.returns-clause-is
returns-clause-is c =
    let a = c.in_ok-advance.ensures in
    some_vars c.args.parser.now c.advance.new.self c.declaration_list.new.parser c.args.table.now c.declaration_list.new.table c.declaration_list.result (sym c.if-not-is_at.ensures) a c.declaration_list.ensures.is
