-- Going through numbers for the first that a test chooses. Assumes nothing.
use Rattle.std.proofs.Common.{◌≡◌, ℕ, zero, suc, ◌+◌, ◌<◌, ◌≤◌, Bool, cond, List, [], ◌∷◌, length, get_or, Some, Option, sym, refl, ap, ◌∙◌, add-zero, add-one, arith}
use Rattle.std.specs.List.{find, position_from, range_with_len}
use Rattle.std.specs.Option.{option_map}
use Rattle.std.proofs.lemmas.Iterator.Adapters.{option_map_id}
use Rattle.statics.specs.Scanning.{first_of}

found_of : (f : ℕ → Bool) (i n : ℕ) → find f (range_with_len i n) ≡ first_of f i n
found_of f i zero = refl
found_of f i (suc n) = ap (λ (o : Option ℕ). cond (f i) (Some i) o) (found_of f (i + 1) n ∙ ap (λ (k : ℕ). first_of f k n) (add-one i))

-- the first number below m that a test chooses
pub first_found : (f : ℕ → Bool) (m : ℕ) {n : ℕ} {r : Option ℕ} → n ≡ m → option_map (λ (k : ℕ). k) r ≡ find f (range_with_len 0 n) → r ≡ first_of f 0 m
first_found f m {n} {r} e h = sym (option_map_id r) ∙ h ∙ found_of f 0 n ∙ ap (first_of f 0) e

-- tests that agree choose the same
pub first_same : (f g : ℕ → Bool) (i n : ℕ) → ((k : ℕ) → i ≤ k → k < i + n → f k ≡ g k) → first_of f i n ≡ first_of g i n
first_same f g i zero h = refl
first_same f g i (suc n) h =
    let here : f i ≡ g i = h i (omega arith) (omega arith) in
    let rest : first_of f (suc i) n ≡ first_of g (suc i) n = first_same f g (suc i) n (λ k le lt. h k (omega arith) (omega arith)) in
    λ j. cond (here j) (Some i) (rest j)

-- a scan of a list by a test of its elements
pub first_scanned : (p f : ℕ → Bool) (i : ℕ) (xs : List ℕ) (d : ℕ) → ((k : ℕ) → k < length xs → p (get_or xs k d) ≡ f (i + k)) → position_from p i xs ≡ first_of f i (length xs)
first_scanned p f i [] d h = refl
first_scanned p f i (x ∷ xs) d h =
    let here : p x ≡ f i = h 0 (omega arith) ∙ ap f (add-zero i) in
    let rest : position_from p (i + 1) xs ≡ first_of f (suc i) (length xs) =
    first_scanned p f (i + 1) xs d (λ k lt. h (suc k) (omega arith) ∙ ap f (omega arith)) ∙ ap (λ (j : ℕ). first_of f j (length xs)) (add-one i)
    in
    λ j. cond (here j) (Some i) (rest j)
