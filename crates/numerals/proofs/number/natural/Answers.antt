use Rattle.std.proofs.Common.{◌≡◌, ◌<◌, length, drop, sym, ◌∙◌, arith, length-drop, false-eqb}
use Rattle.numerals.proofs.Digits.{onward_all, last_digit, next_digit, no_more}
use Rattle.numerals.proofs.number.natural.Goals as goal

pub returns-in_err-n : goal.returns-in_err-n
returns-in_err-n c =
    let xs = c.args.word.now in
    let i = c.loop-b.b-index in
    let some : 0 < length xs = omega arith in
    c.from_residual.ensures ∙ sym (last_digit c.args.most c.loop-b.n xs i c.loop-b-test.true c.in_err-n.ensures) ∙ c.loop-b.invariant.0 ∙ onward_all c.args.most xs some

pub loop-b-preserved : goal.loop-b-preserved
loop-b-preserved c =
    let xs = c.args.word.now in
    let more = next_digit c.args.most c.loop-b.n xs c.loop-b.b-index c.in_ok-n.n c.loop-b-test.true c.in_ok-n.ensures in
    (more.0 ∙ c.loop-b.invariant.0, more.1)

pub returns : goal.returns
returns c =
    let xs = c.args.word.now in
    let i = c.loop-b.b-index in
    let some : 0 < length xs = omega (arith, false-eqb (length xs) 0 c.if-is_empty.ensures) in
    let none : length (drop i xs) ≡ 0 = simp length-drop (omega arith) in
    sym (no_more c.args.most c.loop-b.n (drop i xs) none c.loop-b.invariant.1) ∙ c.loop-b.invariant.0 ∙ onward_all c.args.most xs some
