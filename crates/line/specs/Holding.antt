-- The numbers in a queue's places, one more at the end and one fewer at the front.
use Rattle.std.specs.Prelude.{◌≡◌, ℕ, zero, suc, ◌+◌, ◌-◌, ◌<◌, ◌≤◌, true, false, cond, ltb, ◌≢◌, [], ◌∷◌, ◌++◌, map, length, ℤ, Some, nat_lt, refl}
use Rattle.std.proofs.Common.{sym, ap, ap₂, subst, ◌∙◌, arith}
use Rattle.std.specs.List.{range_with_len}
use Rattle.std.proofs.lemmas.List.FromFn.{map-range_with_len_more, length-map-range_with_len}
use Rattle.std.proofs.lemmas.Bool.{ltb-true}
use Rattle.std.proofs.lemmas.Bool.Decides.{nat_tests}
use Rattle.line.specs.Queues.{accepts, enqueued, first, dequeued}
use Rattle.line.specs.Places.{place, held}

-- lists over two runs of places are equal where they agree place by place
same_counting : (f g : ℕ → ℤ) (n a b : ℕ) → ((k : ℕ) → k < n → f (a + k) ≡ g (b + k)) → map f (range_with_len a n) ≡ map g (range_with_len b n)
same_counting f g zero a b e = refl
same_counting f g (suc n) a b e =
    let here : f a ≡ g b = subst (λ k. f k ≡ g b) (omega arith) (subst (λ k. f (a + 0) ≡ g k) (omega arith) (e 0 (omega arith))) in
    let later : (k : ℕ) → k < n → f (a + 1 + k) ≡ g (b + 1 + k) =
    λ k h. subst (λ j. f j ≡ g (b + 1 + k)) (omega arith) (subst (λ j. f (a + suc k) ≡ g j) (omega arith) (e (suc k) (omega arith))) in
    ap₂ ◌∷◌ here (same_counting f g n (a + 1) (b + 1) later)

place_apart : (size head j k : ℕ) → head < size → j < k → k < size → place size head j ≢ place size head k
place_apart size head j k h l m = grind (arith, nat_tests)

place_first : (size head : ℕ) → head < size → place size head 0 ≡ head
place_first size head h = grind (arith, nat_tests)

place_later : (size head k : ℕ) → head < size → k < size → place size head (1 + k) ≡ place size (place size head 1) k
place_later size head k h l = grind (arith, nat_tests)

module _ (size : ℕ) (cell : ℕ → ℤ) (head len : ℕ) where
  pub length_held : length (held size cell head len) ≡ len
  length_held = length-map-range_with_len (λ k. cell (place size head k)) 0 len

  pub within : len ≤ size → length (held size cell head len) ≤ size
  within h = omega (arith, length_held)

  -- whether the list is below its limit is whether the length is
  pub room : ltb len size ≡ accepts size (held size cell head len)
  room = ap (λ n. ltb n size) (sym length_held)

  pub refused : (number : ℤ) → false ≡ nat_lt len size → held size cell head len ≡ enqueued size number (held size cell head len)
  refused number e = ap (λ b. cond b (held size cell head len ++ (number ∷ [])) (held size cell head len)) (e ∙ room)

  pub removed : (head' len' : ℕ) → head < size → len ≤ size → 0 < len → head' ≡ place size head 1 → len' ≡ len - 1
      → (Some (cell head) ≡ first (held size cell head len)) × (held size cell head' len' ≡ dequeued (held size cell head len))
  removed head' len' h l some eh el =
      let less : suc len' ≡ len = omega arith in
      subst (λ n. (Some (cell head) ≡ first (held size cell head n)) × (held size cell head' len' ≡ dequeued (held size cell head n))) less (
        ap (λ k. Some (cell k)) (sym (place_first size head h)),
        ap (λ k. held size cell k len') eh
            ∙ same_counting _ _ len' 0 1 (λ k m. ap cell (ap (place size (place size head 1)) (omega arith) ∙ sym (place_later size head k h (omega arith)))),
      )

pub appended : (size : ℕ) (before after : ℕ → ℤ) (head len head' len' : ℕ) (number : ℤ) → head < size → true ≡ nat_lt len size
    → head' ≡ head → len' ≡ len + 1 → after (place size head len) ≡ number → ((k : ℕ) → k ≢ place size head len → after k ≡ before k)
    → held size after head' len' ≡ enqueued size number (held size before head len)
appended size before after head len head' len' number h e eh el here elsewhere =
    let l : len < size = ltb-true len size (sym e) in
    let xs = held size before head len in
    ap₂ (held size after) eh el
    ∙ map-range_with_len_more (λ k. after (place size head k)) 0 len len (omega arith)
    ∙ ap₂ (λ ys y. ys ++ (y ∷ [])) (same_counting _ _ len 0 0 (λ k m. elsewhere _ (place_apart size head (0 + k) len h (omega arith) l))) here
    ∙ ap (λ b. cond b (xs ++ (number ∷ [])) xs) (e ∙ room size before head len)
