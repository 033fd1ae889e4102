use Rattle.std.proofs.Common.{◌≡◌, ◌≤◌, drop}
use Rattle.numerals.proofs.Digits.{onward}
use Rattle.numerals.proofs.number.natural.Given as goal

abbrev pub invariant-loop-b : goal.invariant-loop-b
invariant-loop-b l = (onward l.most l.n (drop l.b-index l.word) ≡ onward l.most 0 l.word) × (l.n ≤ l.most)
