-- A comment ends after the first }.
use Rattle.std.proofs.Common.{◌≡◌, ℕ, suc, ◌+◌, Bool, true, false, cond, eqb, List, [], ◌∷◌, drop, Some, None, position, refl, ap, ◌∙◌, arith}
use Rattle.std.specs.List.{position_from}
use Rattle.std.proofs.lemmas.Iterator.Adapters.{position_from-zero}
use Rattle.lexer.specs.Lexemes.{unclosed, inside, skip_in, skip}

abbrev closes : ℕ → Bool
closes b = eqb b 125

-- the first }, k bytes on
abbrev Closed : ℕ → ℕ → ℕ → ℕ → List ℕ → Type 0
Closed o p i n xs = (k : ℕ) × (n ≡ i + k) × (skip_in (inside o) p xs ≡ skip (p + suc k) (drop (suc k) xs))

closed_from : (o p i n : ℕ) (xs : List ℕ) → Some n ≡ position_from closes i xs → Closed o p i n xs
closed_from o p i n [] h = cc
closed_from o p i n (b ∷ bs) h = go (eqb b 125) refl h (closed_from o (p + 1) (i + 1) n bs)
  where
    go : (t : Bool) → eqb b 125 ≡ t → Some n ≡ cond t (Some i) (position_from closes (i + 1) bs) → (Some n ≡ position_from closes (i + 1) bs → Closed o (p + 1) (i + 1) n bs) → Closed o p i n (b ∷ bs)
    go true e h f = let x : n ≡ i = cc in (0, omega arith, rw e)
    go false e h f =
        let r = f h in
        let same : p + 1 + suc r.0 ≡ p + suc (suc r.0) = omega arith in
        let far : n ≡ i + suc r.0 = omega arith in
        (suc r.0, far, rw e (r.2 ∙ ap (λ q. skip q (drop (suc r.0) bs)) same))

pub closed : (o p n : ℕ) (xs : List ℕ) → Some n ≡ position closes xs → skip_in (inside o) p xs ≡ skip (p + (n + 1)) (drop (n + 1) xs)
closed o p n xs h =
    let r = closed_from o p 0 n xs (h ∙ position_from-zero closes xs) in
    let same : suc r.0 ≡ n + 1 = omega arith in
    r.2 ∙ ap (λ k. skip (p + k) (drop k xs)) same

endless_from : (o p i : ℕ) (xs : List ℕ) → None ≡ position_from closes i xs → skip_in (inside o) p xs ≡ unclosed o
endless_from o p i [] h = refl
endless_from o p i (b ∷ bs) h = go (eqb b 125) refl h (endless_from o (p + 1) (i + 1) bs)
  where
    go : (t : Bool) → eqb b 125 ≡ t → None ≡ cond t (Some i) (position_from closes (i + 1) bs) → (None ≡ position_from closes (i + 1) bs → skip_in (inside o) (p + 1) bs ≡ unclosed o) → skip_in (inside o) p (b ∷ bs) ≡ unclosed o
    go true e h f = cc
    go false e h f = rw e (f h)

pub endless : (o p : ℕ) (xs : List ℕ) → None ≡ position closes xs → skip_in (inside o) p xs ≡ unclosed o
endless o p xs h = endless_from o p 0 xs (h ∙ position_from-zero closes xs)
