use Rattle.std.proofs.Common.{ℕ, ◌+◌}
use Rattle.draft.specs.Uses.{Counts}
use Rattle.draft.proofs.Counting.{uses_to}
use Rattle.draft.proofs.arrangement.count_parts.Given as goal

abbrev pub invariant-loop-part : goal.invariant-loop-part
invariant-loop-part l = (f : ℕ → ℕ) → Counts l.initial.uses f → Counts l.uses (λ k. f k + uses_to l.part-items l.part-index k)
