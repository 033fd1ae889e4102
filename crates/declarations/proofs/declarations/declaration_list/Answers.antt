use Rattle.std.proofs.Common.{ap}
use Rattle.std.proofs.lemmas.Result.{err_from_is_err_and}
use Rattle.lexer.specs.Lexemes.{meant}
use Rattle.lexer.specs.Names.{tok}
use Rattle.parser.specs.Feeds.{known_of}
use Rattle.parser.specs.Advancing.{is_name}
use Rattle.parser.proofs.CommandSteps.{no_name}
use Rattle.declarations.proofs.DeclarNames.{used_begin, used_both}
use Rattle.declarations.proofs.DeclarList.{next_declared, next_wrong, list_end}
use Rattle.declarations.proofs.declarations.declaration_list.Goals as goal

pub loop-parser-preserved : goal.loop-parser-preserved
loop-parser-preserved c =
    let n = c.in_ok-declaration-2.ensures in
    next_declared c.declaration.new.parser c.loop-parser.parser c.declaration-in-Name.new.parser c.declaration.new.table c.loop-parser.table c.declaration-in-Name.new.table (tt {0}) c.loop-parser.invariant (ap (λ t. is_name (tok (known_of c.loop-parser.parser.names) (meant t))) c.in-Name.is) n.less n.is

pub returns-in_err-declaration-2-clause-is : goal.returns-in_err-declaration-2-clause-is
returns-in_err-declaration-2-clause-is c =
    let x = err_from_is_err_and c.from_residual-in_err-declaration-2.result c.from_residual-in_err-declaration-2.ensures.1 in
    rw (x.1, x.2) (next_wrong c.args.parser.now c.declaration.new.parser c.loop-parser.parser c.args.table.now c.declaration.new.table c.loop-parser.table (tt {0}) c.in_ok-declaration.ensures.is c.loop-parser.invariant c.declaration-in-Name.new.parser c.declaration-in-Name.new.parser c.declaration-in-Name.new.table c.declaration-in-Name.new.table c.in_err-declaration-2.field-0.0 (ap (λ t. is_name (tok (known_of c.loop-parser.parser.names) (meant t))) c.in-Name.is) c.in_err-declaration-2.ensures.is)

pub returns : goal.returns
returns c =
    let n = c.in_ok-declaration.ensures in
    let k = c.loop-parser.invariant in
    record {
      less = used_both c.args.parser.now c.declaration.new.parser c.loop-parser.parser c.begin.new.parser (tt {0}) c.begin.result n.less k.fewer k.room (used_begin c.loop-parser.parser c.begin.new.parser c.begin.result c.begin.ensures);
      is = list_end c.args.parser.now c.declaration.new.parser c.loop-parser.parser c.args.table.now c.declaration.new.table c.loop-parser.table (tt {0}) n.is k c.begin.new.parser c.begin.result (no_name (known_of c.loop-parser.parser.names) c.loop-parser.parser.lookahead.token c.in_default.not-Name) c.begin.ensures;
    }
