-- Readings that are removed and written, one more at a time.
use Rattle.std.proofs.Common.{◌≡◌, ℕ, ◌+◌, ◌-◌, ◌<◌, List, [], ◌∷◌, ◌++◌, length, get_or, take, drop, set, ℤ, pos, Some, sym, ap, ◌∙◌, append_assoc, arith}
use Rattle.std.proofs.lemmas.List.{length-take-le, length-drop, set_at, take_more, drop_more}
use Rattle.line.specs.Queues.{first, dequeued}

reading_of : (number : ℤ) (readings : List ℤ) → Some number ≡ first readings → readings ≡ number ∷ dequeued readings
reading_of number [] e = cc
reading_of number (x ∷ rest) e = cc

module _ (start now : List ℤ) (i : ℕ) (so : now ≡ drop i start) where
  left : length now ≡ length start - i
  left = ap length so ∙ length-drop i start

  pub more_left : (number : ℤ) → Some number ≡ first now → i < length start
  more_left number e = omega (arith, left, ap length (reading_of number now e))

  split : (number : ℤ) → Some number ≡ first now → number ∷ dequeued now ≡ get_or start i (pos 0) ∷ drop (i + 1) start
  split number e = sym (reading_of number now e) ∙ so ∙ drop_more start i (pos 0) (more_left number e)

  pub removed_is : (number : ℤ) → Some number ≡ first now → number ≡ get_or start i (pos 0)
  removed_is number e = let s = split number e in cc

  pub removed_more : (number : ℤ) → Some number ≡ first now → dequeued now ≡ drop (i + 1) start
  removed_more number e = let s = split number e in cc

pub written_more : (start places before : List ℤ) (i : ℕ) → i < length start → i < length before
    → places ≡ take i start ++ drop i before
    → set places i (get_or start i (pos 0)) ≡ take (i + 1) start ++ drop (i + 1) before
written_more start places before i l m so =
    let x = get_or start i (pos 0) in
    ap (λ ps. set ps i x) (so ∙ ap (λ xs. take i start ++ xs) (drop_more before i (pos 0) m))
    ∙ set_at (take i start) (get_or before i (pos 0)) (drop (i + 1) before) x i (length-take-le i start (omega arith))
    ∙ sym (append_assoc (take i start) (x ∷ []) (drop (i + 1) before))
    ∙ ap (λ xs. xs ++ drop (i + 1) before) (sym (take_more start i (pos 0) l))
