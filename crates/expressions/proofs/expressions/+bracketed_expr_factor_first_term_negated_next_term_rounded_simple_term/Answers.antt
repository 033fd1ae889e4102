use Rattle.std.proofs.Common.{length, sym, ap, subst, arith}
use Rattle.std.proofs.lemmas.Result.{err_from_is_err_and}
use Rattle.tosca.specs.declared.table.Node.TheVariants.{Bin}
use Rattle.parser.specs.Advancing.{Listed}
use Rattle.parser.proofs.Chains.{chain, chain_stop}
use Rattle.expressions.proofs.Levels.{products, sums, relations, operated, operator_broken, operand_refused}
use Rattle.expressions.proofs.Operands.{term_opens, expr_opens, term_refused, expr_refused, loop_ends, loop_broken, loop_refused, loop_again, expr_alone}
use Rattle.expressions.proofs.Operands.{minus_ok, minus_refused, no_minus_either}
use Rattle.expressions.proofs.Operands.{bracket_refused, bracket_missed, bracket_ok, not_refused, not_ok}
use Rattle.expressions.proofs.Operands.{left_refused, slash_missed, right_refused, close_missed, round_ok}
use Rattle.expressions.proofs.expressions.+bracketed_expr_factor_first_term_negated_next_term_rounded_simple_term.Goals as goal

pub term-returns-in_err-left : goal.term-returns-in_err-left
term-returns-in_err-left t c =
    let x = err_from_is_err_and c.from_residual.result c.from_residual.ensures.1 in
    rw (x.1, x.2) (record { less = tt; is = term_refused c.args.depth.level c.args.parser.now c.factor.new.parser c.args.table.now c.factor.new.table c.in_err-left.field-0.0 c.in_err-left.ensures.is })

pub term-returns-in_err-advance : goal.term-returns-in_err-advance
term-returns-in_err-advance t c =
    let x = err_from_is_err_and c.from_residual-in_err-advance.result c.from_residual-in_err-advance.ensures.1 in
    rw (x.1, x.2) (record { less = tt; is = loop_broken products c.args.depth.level c.args.depth.within c.in_ok-left.left c.loop-op.left c.args.parser.now c.factor.new.parser c.loop-op.parser c.args.table.now c.factor.new.table c.loop-op.table (term_opens c.args.depth.level c.in_ok-left.left c.args.parser.now c.factor.new.parser c.args.table.now c.factor.new.table c.in_ok-left.ensures.is) c.loop-op.invariant c.in-Some.op c.advance.new.self c.loop-op.table c.in_err-advance.field-0.0 (sym c.in-Some.ensures) c.in_err-advance.ensures })

pub term-returns-in_err-right : goal.term-returns-in_err-right
term-returns-in_err-right t c =
    let x = err_from_is_err_and c.from_residual-in_err-right.result c.from_residual-in_err-right.ensures.1 in
    rw (x.1, x.2) (record { less = tt; is = loop_refused products c.args.depth.level c.args.depth.within c.in_ok-left.left c.loop-op.left c.args.parser.now c.factor.new.parser c.loop-op.parser c.args.table.now c.factor.new.table c.loop-op.table (term_opens c.args.depth.level c.in_ok-left.left c.args.parser.now c.factor.new.parser c.args.table.now c.factor.new.table c.in_ok-left.ensures.is) c.loop-op.invariant c.in-Some.op c.advance.new.self c.factor-in-Some.new.parser c.factor-in-Some.new.table c.in_err-right.field-0.0 (sym c.in-Some.ensures) c.in_ok-advance.ensures c.in_err-right.ensures.is })

pub term-loop-op-preserved : goal.term-loop-op-preserved
term-loop-op-preserved t c =
    let k = c.loop-op.invariant in
    let a = c.in_ok-advance.ensures in
    let b = c.in_ok-right.ensures in
    let l = c.emit-left.ensures in
    let same = ap (λ f. length f.tokens) l.same in
    record {
      ready = l.ready b.less.0 (omega (arith, b.less.1, b.less.2, same, l.count, k.room, a.one));
      fewer = omega (arith, b.less.1, same, k.fewer, a.one);
      room = omega (arith, b.less.2, same, l.count, k.room, a.one, a.count);
      is = loop_again products c.args.depth.level c.args.depth.within c.in_ok-left.left c.loop-op.left c.in_ok-right.right c.emit-left.result c.factor.new.parser c.loop-op.parser c.advance.new.self c.factor-in-Some.new.parser c.emit-left.new.self c.factor.new.table c.loop-op.table c.factor-in-Some.new.table c.emit-left.new.table c.in-Some.op k (sym c.in-Some.ensures) a b.is (subst (λ o. Listed c.factor-in-Some.new.parser c.factor-in-Some.new.table (Bin c.loop-op.left o c.in_ok-right.right) c.loop-op.parser.lookahead.place c.emit-left.result c.emit-left.new.self c.emit-left.new.table) c.from.ensures l);
    }

pub term-returns : goal.term-returns
term-returns t c =
    let k = c.loop-op.invariant in
    let b = c.in_ok-left.ensures.less in
    record {
      less = (k.ready, omega (arith, b.1, k.fewer), omega (arith, b.2, k.room));
      is = loop_ends products c.args.depth.level c.args.depth.within c.in_ok-left.left c.loop-op.left c.args.parser.now c.factor.new.parser c.loop-op.parser c.args.table.now c.factor.new.table c.loop-op.table (term_opens c.args.depth.level c.in_ok-left.left c.args.parser.now c.factor.new.parser c.args.table.now c.factor.new.table c.in_ok-left.ensures.is) c.loop-op.invariant (sym c.in_default.ensures);
    }

pub simple-returns-in_err-advance : goal.simple-returns-in_err-advance
simple-returns-in_err-advance t c =
    let x = err_from_is_err_and c.from_residual-in_err-advance.result c.from_residual-in_err-advance.ensures.1 in
    rw (x.1, x.2) (record { less = tt; is = loop_broken sums c.args.depth.level c.args.depth.within c.in_ok-left.left c.loop-op.left c.args.parser.now c.first_term.new.parser c.loop-op.parser c.args.table.now c.first_term.new.table c.loop-op.table c.in_ok-left.ensures.is c.loop-op.invariant c.in-Some.op c.advance.new.self c.loop-op.table c.in_err-advance.field-0.0 (sym c.in-Some.ensures) c.in_err-advance.ensures })

pub simple-returns-in_err-right : goal.simple-returns-in_err-right
simple-returns-in_err-right t c =
    let x = err_from_is_err_and c.from_residual-in_err-right.result c.from_residual-in_err-right.ensures.1 in
    rw (x.1, x.2) (record { less = tt; is = loop_refused sums c.args.depth.level c.args.depth.within c.in_ok-left.left c.loop-op.left c.args.parser.now c.first_term.new.parser c.loop-op.parser c.args.table.now c.first_term.new.table c.loop-op.table c.in_ok-left.ensures.is c.loop-op.invariant c.in-Some.op c.advance.new.self c.next_term.new.parser c.next_term.new.table c.in_err-right.field-0.0 (sym c.in-Some.ensures) c.in_ok-advance.ensures c.in_err-right.ensures.is })

pub simple-loop-op-preserved : goal.simple-loop-op-preserved
simple-loop-op-preserved t c =
    let k = c.loop-op.invariant in
    let a = c.in_ok-advance.ensures in
    let b = c.in_ok-right.ensures in
    let l = c.emit-left.ensures in
    let same = ap (λ f. length f.tokens) l.same in
    record {
      ready = l.ready b.less.0 (omega (arith, b.less.1, b.less.2, same, l.count, k.room, a.one));
      fewer = omega (arith, b.less.1, same, k.fewer, a.one);
      room = omega (arith, b.less.2, same, l.count, k.room, a.one, a.count);
      is = loop_again sums c.args.depth.level c.args.depth.within c.in_ok-left.left c.loop-op.left c.in_ok-right.right c.emit-left.result c.first_term.new.parser c.loop-op.parser c.advance.new.self c.next_term.new.parser c.emit-left.new.self c.first_term.new.table c.loop-op.table c.next_term.new.table c.emit-left.new.table c.in-Some.op k (sym c.in-Some.ensures) a b.is (subst (λ o. Listed c.next_term.new.parser c.next_term.new.table (Bin c.loop-op.left o c.in_ok-right.right) c.loop-op.parser.lookahead.place c.emit-left.result c.emit-left.new.self c.emit-left.new.table) c.from.ensures l);
    }

pub simple-returns : goal.simple-returns
simple-returns t c =
    let k = c.loop-op.invariant in
    let b = c.in_ok-left.ensures.less in
    record {
      less = (k.ready, omega (arith, b.1, k.fewer), omega (arith, b.2, k.room));
      is = loop_ends sums c.args.depth.level c.args.depth.within c.in_ok-left.left c.loop-op.left c.args.parser.now c.first_term.new.parser c.loop-op.parser c.args.table.now c.first_term.new.table c.loop-op.table c.in_ok-left.ensures.is c.loop-op.invariant (sym c.in_default.ensures);
    }

pub expr-returns-in_err-left : goal.expr-returns-in_err-left
expr-returns-in_err-left t c =
    let x = err_from_is_err_and c.from_residual.result c.from_residual.ensures.1 in
    rw (x.1, x.2) (record { less = tt; is = expr_refused c.args.depth.level c.args.parser.now c.simple.new.parser c.args.table.now c.simple.new.table c.in_err-left.field-0.0 c.in_err-left.ensures.is })

pub expr-returns-in_err-advance-in-Some : goal.expr-returns-in_err-advance-in-Some
expr-returns-in_err-advance-in-Some t c =
    let x = err_from_is_err_and c.from_residual-in_err-advance-in-Some.result c.from_residual-in_err-advance-in-Some.ensures.1 in
    rw (x.1, x.2) (record { less = tt; is = λ L mk. chain_stop (expr_opens c.args.depth.level c.in_ok-left.left c.args.parser.now c.simple.new.parser c.args.table.now c.simple.new.table c.in_ok-left.ensures.is L mk) (operator_broken relations c.args.depth.level c.args.depth.within c.in_ok-left.left c.simple.new.parser c.simple.new.table c.in-Some.op (sym c.in-Some.ensures) L mk c.in_err-advance-in-Some.ensures) })

pub expr-returns-in_err-right-in-Some : goal.expr-returns-in_err-right-in-Some
expr-returns-in_err-right-in-Some t c =
    let x = err_from_is_err_and c.from_residual-in_err-right-in-Some.result c.from_residual-in_err-right-in-Some.ensures.1 in
    rw (x.1, x.2) (record { less = tt; is = λ L mk. chain_stop (expr_opens c.args.depth.level c.in_ok-left.left c.args.parser.now c.simple.new.parser c.args.table.now c.simple.new.table c.in_ok-left.ensures.is L mk) (operand_refused relations c.args.depth.level c.args.depth.within c.in_ok-left.left c.simple.new.parser c.simple.new.table c.in-Some.op (sym c.in-Some.ensures) L mk c.in_ok-advance-in-Some.ensures c.in_err-right-in-Some.ensures.is) })

pub expr-returns-in-None : goal.expr-returns-in-None
expr-returns-in-None t c =
    record {
      less = c.in_ok-left.ensures.less;
      is = expr_alone c.args.depth.level c.in_ok-left.left c.args.parser.now c.simple.new.parser c.args.table.now c.simple.new.table c.in_ok-left.ensures.is (sym c.in-None.ensures);
    }

pub expr-returns-in_ok-right-in-Some : goal.expr-returns-in_ok-right-in-Some
expr-returns-in_ok-right-in-Some t c =
    let f = c.in_ok-left.ensures in
    let a = c.in_ok-advance-in-Some.ensures in
    let b = c.in_ok-right-in-Some.ensures in
    let l = c.emit.ensures in
    let same = ap (λ f. length f.tokens) l.same in
    record {
      less = (l.ready b.less.0 (omega (arith, f.less.0.room, b.less.1, b.less.2, same, l.count, a.one, a.count)), omega (arith, f.less.1, b.less.1, same, a.one), omega (arith, f.less.2, b.less.2, same, l.count, a.one, a.count));
      is = λ L mk. chain (expr_opens c.args.depth.level c.in_ok-left.left c.args.parser.now c.simple.new.parser c.args.table.now c.simple.new.table c.in_ok-left.ensures.is L mk) (operated relations c.args.depth.level c.args.depth.within c.in_ok-left.left c.simple.new.parser c.simple.new.table c.in-Some.op (sym c.in-Some.ensures) L mk a b.is (subst (λ o. Listed c.simple-in-Some.new.parser c.simple-in-Some.new.table (Bin c.in_ok-left.left o c.in_ok-right-in-Some.right) c.simple.new.parser.lookahead.place c.emit.result c.emit.new.self c.emit.new.table) c.from.ensures l));
    }

pub first_term-returns-in_err-part : goal.first_term-returns-in_err-part
first_term-returns-in_err-part t c =
    let x = err_from_is_err_and c.from_residual-in_err-part.result c.from_residual-in_err-part.ensures.1 in
    rw (x.1, x.2) (record { less = tt; is = minus_refused c.args.depth.level c.args.depth.within c.args.parser.now c.advance.new.self c.next_term.new.parser c.args.table.now c.next_term.new.table c.in_err-part.field-0.0 (sym c.if-not-is_minus.ensures) c.in_ok-advance.ensures c.in_err-part.ensures.is })

pub first_term-returns : goal.first_term-returns
first_term-returns t c =
    let a = c.in_ok-advance.ensures in
    let b = c.in_ok-part.ensures in
    let l = c.emit.ensures in
    let same = ap (λ f. length f.tokens) l.same in
    record {
      less = (l.ready b.less.0 (omega (arith, c.requires.room, b.less.1, b.less.2, same, l.count, a.one, a.count)), omega (arith, b.less.1, same, a.one), omega (arith, b.less.2, same, l.count, a.one, a.count));
      is = minus_ok c.args.depth.level c.in_ok-part.part c.emit.result c.args.depth.within c.args.parser.now c.advance.new.self c.next_term.new.parser c.emit.new.self c.args.table.now c.next_term.new.table c.emit.new.table (sym c.if-not-is_minus.ensures) a b.is l;
    }

pub first_term-returns-then-not-is_minus : goal.first_term-returns-then-not-is_minus
first_term-returns-then-not-is_minus t c =
    record {
      less = c.term.ensures.less;
      is = no_minus_either c.args.depth.level c.args.parser.now c.term.new.parser c.args.table.now c.term.new.table c.term.result (sym c.if-not-is_minus.ensures) c.term.ensures.is;
    }

pub bracketed-returns-in_err-part : goal.bracketed-returns-in_err-part
bracketed-returns-in_err-part t c =
    let x = err_from_is_err_and c.from_residual-in_err-part.result c.from_residual-in_err-part.ensures.1 in
    rw (x.1, x.2) (record { less = tt; is = bracket_refused c.args.depth.level c.in_ok-inner.inner.level c.args.parser.now c.advance.new.self c.args.table.now c.in_ok-inner.ensures.0 c.in_ok-inner.ensures.1 c.in_ok-advance.ensures c.requires.1 c.expr.new.parser c.expr.new.table c.in_err-part.field-0.0 c.in_err-part.ensures.is })

pub bracketed-returns-in_err-expect : goal.bracketed-returns-in_err-expect
bracketed-returns-in_err-expect t c =
    let x = err_from_is_err_and c.from_residual-in_err-expect.result c.from_residual-in_err-expect.ensures.1 in
    rw (x.1, x.2) (record { less = tt; is = bracket_missed c.args.depth.level c.in_ok-inner.inner.level c.args.parser.now c.advance.new.self c.args.table.now c.in_ok-inner.ensures.0 c.in_ok-inner.ensures.1 c.in_ok-advance.ensures c.requires.1 c.in_ok-part.part c.expr.new.parser c.expect.new.self c.expr.new.table c.in_err-expect.field-0.0 c.in_ok-part.ensures.is c.in_err-expect.ensures })

pub bracketed-returns : goal.bracketed-returns
bracketed-returns t c =
    let a = c.in_ok-advance.ensures in
    let b = c.in_ok-part.ensures in
    let e = c.in_ok-expect.ensures in
    record {
      less = (e.ready, omega (arith, a.one, b.less.1, e.one), omega (arith, a.one, a.count, b.less.2, e.one, e.count));
      is = bracket_ok c.args.depth.level c.in_ok-inner.inner.level c.args.parser.now c.advance.new.self c.args.table.now c.in_ok-inner.ensures.0 c.in_ok-inner.ensures.1 c.in_ok-advance.ensures c.requires.1 c.in_ok-part.part c.expr.new.parser c.expect.new.self c.expr.new.table b.is e;
    }

pub negated-returns-in_err-part : goal.negated-returns-in_err-part
negated-returns-in_err-part t c =
    let x = err_from_is_err_and c.from_residual-in_err-part.result c.from_residual-in_err-part.ensures.1 in
    rw (x.1, x.2) (record { less = tt; is = not_refused c.args.depth.level c.in_ok-inner.inner.level c.args.parser.now c.advance.new.self c.args.table.now c.in_ok-inner.ensures.0 c.in_ok-inner.ensures.1 c.in_ok-advance.ensures c.requires.1 c.factor.new.parser c.factor.new.table c.in_err-part.field-0.0 c.in_err-part.ensures.is })

pub negated-returns : goal.negated-returns
negated-returns t c =
    let a = c.in_ok-advance.ensures in
    let b = c.in_ok-part.ensures in
    let l = c.emit.ensures in
    let same = ap (λ f. length f.tokens) l.same in
    record {
      less = (l.ready b.less.0 (omega (arith, c.requires.0.room, b.less.1, b.less.2, same, l.count, a.one, a.count)), omega (arith, a.one, b.less.1, same), omega (arith, a.one, a.count, b.less.2, same, l.count));
      is = not_ok c.args.depth.level c.in_ok-inner.inner.level c.args.parser.now c.advance.new.self c.args.table.now c.in_ok-inner.ensures.0 c.in_ok-inner.ensures.1 c.in_ok-advance.ensures c.requires.1 c.in_ok-part.part c.emit.result c.factor.new.parser c.emit.new.self c.factor.new.table c.emit.new.table b.is l;
    }

pub rounded-returns-in_err-left : goal.rounded-returns-in_err-left
rounded-returns-in_err-left t c =
    let x = err_from_is_err_and c.from_residual-in_err-left.result c.from_residual-in_err-left.ensures.1 in
    rw (x.1, x.2) (record { less = tt; is = left_refused c.args.depth.level c.in_ok-inner.inner.level c.args.parser.now c.advance.new.self c.args.table.now c.in_ok-inner.ensures.0 c.in_ok-inner.ensures.1 c.in_ok-advance.ensures c.requires.1 c.open.new.self c.in_ok-open.ensures c.factor.new.parser c.factor.new.table c.in_err-left.field-0.0 c.in_err-left.ensures.is })

pub rounded-returns-in_err-expect : goal.rounded-returns-in_err-expect
rounded-returns-in_err-expect t c =
    let x = err_from_is_err_and c.from_residual-in_err-expect.result c.from_residual-in_err-expect.ensures.1 in
    rw (x.1, x.2) (record { less = tt; is = slash_missed c.args.depth.level c.in_ok-inner.inner.level c.args.parser.now c.advance.new.self c.args.table.now c.in_ok-inner.ensures.0 c.in_ok-inner.ensures.1 c.in_ok-advance.ensures c.requires.1 c.open.new.self c.in_ok-open.ensures c.in_ok-left.left c.factor.new.parser c.factor.new.table c.in_ok-left.ensures.is c.expect.new.self c.factor.new.table c.in_err-expect.field-0.0 c.in_err-expect.ensures })

pub rounded-returns-in_err-right : goal.rounded-returns-in_err-right
rounded-returns-in_err-right t c =
    let x = err_from_is_err_and c.from_residual-in_err-right.result c.from_residual-in_err-right.ensures.1 in
    rw (x.1, x.2) (record { less = tt; is = right_refused c.args.depth.level c.in_ok-inner.inner.level c.args.parser.now c.advance.new.self c.args.table.now c.in_ok-inner.ensures.0 c.in_ok-inner.ensures.1 c.in_ok-advance.ensures c.requires.1 c.open.new.self c.in_ok-open.ensures c.in_ok-left.left c.factor.new.parser c.factor.new.table c.in_ok-left.ensures.is c.expect.new.self c.in_ok-expect.ensures c.factor-2.new.parser c.factor-2.new.table c.in_err-right.field-0.0 c.in_err-right.ensures.is })

pub rounded-returns-in_err-expect-2 : goal.rounded-returns-in_err-expect-2
rounded-returns-in_err-expect-2 t c =
    let x = err_from_is_err_and c.from_residual-in_err-expect-2.result c.from_residual-in_err-expect-2.ensures.1 in
    rw (x.1, x.2) (record { less = tt; is = close_missed c.args.depth.level c.in_ok-inner.inner.level c.args.parser.now c.advance.new.self c.args.table.now c.in_ok-inner.ensures.0 c.in_ok-inner.ensures.1 c.in_ok-advance.ensures c.requires.1 c.open.new.self c.in_ok-open.ensures c.in_ok-left.left c.factor.new.parser c.factor.new.table c.in_ok-left.ensures.is c.expect.new.self c.in_ok-expect.ensures c.in_ok-right.right c.factor-2.new.parser c.factor-2.new.table c.in_ok-right.ensures.is c.expect-2.new.self c.factor-2.new.table c.in_err-expect-2.field-0.0 c.in_err-expect-2.ensures })

pub rounded-returns : goal.rounded-returns
rounded-returns t c =
    let a = c.in_ok-advance.ensures in
    let o = c.in_ok-open.ensures in
    let b = c.in_ok-left.ensures in
    let e = c.in_ok-expect.ensures in
    let g = c.in_ok-right.ensures in
    let x = c.in_ok-expect-2.ensures in
    let l = c.emit.ensures in
    let same = ap (λ f. length f.tokens) l.same in
    record {
      less = (l.ready x.ready (omega (arith, x.ready.room, x.one, x.count, g.less.0.room, same, l.count)), omega (arith, a.one, o.one, b.less.1, e.one, g.less.1, x.one, same), omega (arith, a.one, a.count, o.one, o.count, b.less.2, e.one, e.count, g.less.2, x.one, x.count, same, l.count));
      is = round_ok c.args.depth.level c.in_ok-inner.inner.level c.args.parser.now c.advance.new.self c.args.table.now c.in_ok-inner.ensures.0 c.in_ok-inner.ensures.1 c.in_ok-advance.ensures c.requires.1 c.open.new.self c.in_ok-open.ensures c.in_ok-left.left c.factor.new.parser c.factor.new.table c.in_ok-left.ensures.is c.expect.new.self c.in_ok-expect.ensures c.in_ok-right.right c.factor-2.new.parser c.factor-2.new.table c.in_ok-right.ensures.is c.emit.result c.expect-2.new.self c.emit.new.self c.emit.new.table x l;
    }
