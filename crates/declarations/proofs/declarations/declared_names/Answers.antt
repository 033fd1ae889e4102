use Rattle.std.proofs.Common.{sym}
use Rattle.std.proofs.lemmas.Result.{err_from_is_err_and}
use Rattle.declarations.proofs.DeclarNames.{naming, next_name, name_wrong, names_end}
use Rattle.declarations.proofs.declarations.declared_names.Goals as goal

pub loop-parser-init : goal.loop-parser-init
loop-parser-init c = naming c.declared_name.new.parser c.declared_name.new.table c.in_ok-declared_name.ensures.less.0

pub loop-parser-preserved : goal.loop-parser-preserved
loop-parser-preserved c =
    let n = c.in_ok-declared_name-2.ensures in
    next_name c.declared_name.new.parser c.loop-parser.parser c.advance.new.self c.declared_name-in-loop-parser.new.parser c.declared_name.new.table c.loop-parser.table c.declared_name-in-loop-parser.new.table (tt {0}) c.loop-parser.invariant (sym c.loop-parser-test.ensures) c.in_ok-advance.ensures n.less n.is

pub returns-in_err-declared_name-2-clause-is : goal.returns-in_err-declared_name-2-clause-is
returns-in_err-declared_name-2-clause-is c =
    let x = err_from_is_err_and c.from_residual-in_err-declared_name-2.result c.from_residual-in_err-declared_name-2.ensures.1 in
    rw (x.1, x.2) (name_wrong c.args.parser.now c.declared_name.new.parser c.loop-parser.parser c.args.table.now c.declared_name.new.table c.loop-parser.table (tt {0}) c.in_ok-declared_name.ensures.is c.loop-parser.invariant c.advance.new.self c.declared_name-in-loop-parser.new.parser c.declared_name-in-loop-parser.new.table c.declared_name-in-loop-parser.new.table c.in_err-declared_name-2.field-0.0 (sym c.loop-parser-test.ensures) c.in_ok-advance.ensures c.in_err-declared_name-2.ensures.is)

pub returns-clause-is : goal.returns-clause-is
returns-clause-is c =
    let n = c.in_ok-declared_name.ensures in
    let k = c.loop-parser.invariant in
    names_end c.args.parser.now c.declared_name.new.parser c.loop-parser.parser c.args.table.now c.declared_name.new.table c.loop-parser.table (tt {0}) n.is k c.expect.new.self c.expect.result (sym c.loop-parser-test.ensures) c.expect.ensures
