use Rattle.std.proofs.Common.{◌≡◌, ◌≤◌, drop}
use Rattle.lexer.proofs.Digits.{onward}
use Rattle.lexer.proofs.bytes.number.Given as goal

abbrev pub invariant-loop-b : goal.invariant-loop-b
invariant-loop-b l = (onward l.most l.n (drop l.b-index l.digits) ≡ onward l.most 0 l.digits) × (l.n ≤ l.most)
