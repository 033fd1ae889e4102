use Rattle.std.proofs.Common.{length, ap, arith}
use Rattle.std.proofs.lemmas.Result.{err_from_is_err_and}
use Rattle.expressions.proofs.Operands.{variable_ok, variable_refused}
use Rattle.expressions.proofs.leaves.variable.Goals as goal

pub returns : goal.returns
returns c =
    let a = c.in_ok-name.ensures.1 in
    let l = c.emit.ensures in
    let same = ap (λ f. length f.tokens) l.same in
    record {
      less = (l.ready a.ready (omega (arith, a.ready.room, c.requires.0.room, same, l.count, a.one, a.count)), omega (arith, same, a.one), omega (arith, same, l.count, a.one, a.count));
      is = λ d le. variable_ok c.in_ok-name.name d c.emit.result le c.in_ok-name.ensures.0 c.args.parser.now c.name.new.self c.emit.new.self c.args.table.now c.emit.new.table a l;
    }

pub returns-in_err-name : goal.returns-in_err-name
returns-in_err-name c =
    let x = err_from_is_err_and c.from_residual.result c.from_residual.ensures.1 in
    rw (x.1, x.2) (record { less = tt; is = λ d le. variable_refused d le c.args.parser.now c.name.new.self c.args.table.now c.args.table.now c.in_err-name.field-0.0 c.requires.1 c.in_err-name.ensures })
