use Rattle.std.proofs.Common.{◌≡◌, length, drop, sym, ◌∙◌, arith, length-drop}
use Rattle.lexer.proofs.Digits.{last_digit, next_digit, no_more}
use Rattle.lexer.proofs.bytes.number.Goals as goal

pub returns-in_err-n : goal.returns-in_err-n
returns-in_err-n c =
    c.from_residual.ensures ∙ sym (last_digit c.args.most c.loop-b.n c.args.digits.now c.loop-b.b-index c.loop-b-test.true c.in_err-n.ensures) ∙ c.loop-b.invariant.0

pub loop-b-preserved : goal.loop-b-preserved
loop-b-preserved c =
    let more = next_digit c.args.most c.loop-b.n c.args.digits.now c.loop-b.b-index c.in_ok-n.n c.loop-b-test.true c.in_ok-n.ensures in
    (more.0 ∙ c.loop-b.invariant.0, more.1)

pub returns : goal.returns
returns c =
    let ds = drop c.loop-b.b-index c.args.digits.now in
    let none : length ds ≡ 0 = simp length-drop (omega arith) in
    sym (no_more c.args.most c.loop-b.n ds none c.loop-b.invariant.1) ∙ c.loop-b.invariant.0
