-- The number of a word, a digit more at a time.
use Rattle.std.proofs.Common.{◌≡◌, ℕ, ◌+◌, ◌-◌, ◌*◌, ◌<◌, ◌≤◌, Bool, true, false, cond, ◌&&◌, leb, List, [], ◌∷◌, length, get_or, drop, Some, None, Option, sym, refl, ap, ◌∙◌, add-one, arith, drop-cons, le-leb, leb-false, leb-true}
use borrow.Author.Tests.{lt-leb}
use Rattle.lexer.specs.Spelling.{digit, value_from}
use Rattle.lexer.proofs.Digits.{value_grows}
use Rattle.numerals.specs.Decimal.{digits, natural_of, longer}

-- the number of digits that n and then ds write
abbrev pub onward : ℕ → ℕ → List ℕ → Option ℕ
onward most n ds = cond (digits ds && leb (value_from n ds) most) (Some (value_from n ds)) None

pub onward_all : (most : ℕ) (ds : List ℕ) → 0 < length ds → onward most 0 ds ≡ natural_of most ds
onward_all most [] h = absurd (omega arith)
onward_all most (b ∷ bs) h = refl

-- more digits never write less
too_large : (most n : ℕ) (ds : List ℕ) → most < n → onward most n ds ≡ None
too_large most n ds h =
    let g = value_grows n ds in
    let over : most < value_from n ds = omega arith in
    go (digits ds) (lt-leb (value_from n ds) most over)
  where
    go : (d : Bool) → leb (value_from n ds) most ≡ false → cond (d && leb (value_from n ds) most) (Some (value_from n ds)) None ≡ None
    go true e = rw e
    go false e = refl

module _ (most n : ℕ) (xs : List ℕ) (i : ℕ) where
  abbrev next : ℕ
  next = 10 * n + (get_or xs i 0 - 48)

  split : i < length xs → drop i xs ≡ get_or xs i 0 ∷ drop (i + 1) xs
  split h = rw (add-one, drop-cons xs i 0)

  digit_more : i < length xs → digit (get_or xs i 0) ≡ true → onward most next (drop (i + 1) xs) ≡ onward most n (drop i xs)
  digit_more h e = rw (split h, e)

  digit_none : i < length xs → digit (get_or xs i 0) ≡ false → onward most n (drop i xs) ≡ None
  digit_none h e = rw (split h, e)

  pub last_digit : i < length xs → None ≡ longer most n (get_or xs i 0) → onward most n (drop i xs) ≡ None
  last_digit h e = go (digit (get_or xs i 0)) (leb next most) refl refl e
    where
      go : (d l : Bool) → digit (get_or xs i 0) ≡ d → leb next most ≡ l → None ≡ cond (d && l) (Some next) None → onward most n (drop i xs) ≡ None
      go false l p q r = digit_none h p
      go true false p q r = sym (digit_more h p) ∙ too_large most _ (drop (i + 1) xs) (leb-false _ most q)
      go true true p q r = cc

  pub next_digit : (m : ℕ) → i < length xs → Some m ≡ longer most n (get_or xs i 0) → (onward most m (drop (i + 1) xs) ≡ onward most n (drop i xs)) × (m ≤ most)
  next_digit m h e = go (digit (get_or xs i 0)) (leb next most) refl refl e
    where
      go : (d l : Bool) → digit (get_or xs i 0) ≡ d → leb next most ≡ l → Some m ≡ cond (d && l) (Some next) None → (onward most m (drop (i + 1) xs) ≡ onward most n (drop i xs)) × (m ≤ most)
      go true true p q r =
          let v : next ≡ m = cc in
          let k : next ≤ most = leb-true _ most q in
          (ap (λ x. onward most x (drop (i + 1) xs)) (sym v) ∙ digit_more h p, omega arith)
      go true false p q r = cc
      go false l p q r = cc

pub no_more : (most n : ℕ) (ds : List ℕ) → length ds ≡ 0 → n ≤ most → onward most n ds ≡ Some n
no_more most n [] h k = rw (le-leb n most k)
no_more most n (b ∷ bs) h k = absurd (omega arith)
