use Rattle.std.proofs.Common.{length, ap, arith}
use Rattle.std.proofs.lemmas.Result.{err_from_is_err_and}
use Rattle.expressions.proofs.Operands.{constant_ok, constant_broken}
use Rattle.expressions.proofs.leaves.constant.Goals as goal

pub returns : goal.returns
returns c =
    let a = c.in_ok-advance.ensures in
    let l = c.emit.ensures in
    let same = ap (λ f. length f.tokens) l.same in
    record {
      less = (l.ready a.ready (omega (arith, a.ready.room, c.requires.0.room, same, l.count, a.one, a.count)), omega (arith, same, a.one), omega (arith, same, l.count, a.one, a.count));
      is = λ d le. constant_ok c.args.value d c.emit.result le c.args.parser.now c.advance.new.self c.emit.new.self c.args.table.now c.emit.new.table c.requires.1.0 a l;
    }

pub returns-in_err-advance : goal.returns-in_err-advance
returns-in_err-advance c =
    let x = err_from_is_err_and c.from_residual.result c.from_residual.ensures.1 in
    rw (x.1, x.2) (record { less = tt; is = λ d le. constant_broken c.args.value d le c.args.parser.now c.advance.new.self c.args.table.now c.args.table.now c.in_err-advance.field-0.0 c.requires.1.0 c.in_err-advance.ensures })
