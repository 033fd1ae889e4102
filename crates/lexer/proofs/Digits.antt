-- The number that digits spell, a digit more at a time.
use Rattle.std.proofs.Common.{◌≡◌, ℕ, ◌+◌, ◌-◌, ◌*◌, ◌<◌, ◌≤◌, Bool, true, false, cond, leb, List, [], ◌∷◌, length, get_or, drop, Some, None, Option, sym, refl, ap, ◌∙◌, add-one, arith, drop-cons, le-leb, leb-false, leb-true}
use borrow.Author.Tests.{lt-leb}
use Rattle.lexer.specs.Spelling.{value_from}
use Rattle.lexer.specs.Digits.{longer}

-- the number that digits spell after those that spell n, where it is at most this
abbrev pub onward : ℕ → ℕ → List ℕ → Option ℕ
onward most n ds = cond (leb (value_from n ds) most) (Some (value_from n ds)) None

-- more digits never spell less
pub value_grows : (n : ℕ) (ds : List ℕ) → n ≤ value_from n ds
value_grows n [] = omega arith
value_grows n (d ∷ ds) = let h = value_grows (10 * n + (d - 48)) ds in omega arith

too_large : (most n : ℕ) (ds : List ℕ) → most < n → onward most n ds ≡ None
too_large most n ds h =
    let g = value_grows n ds in
    let over : most < value_from n ds = omega arith in
    rw (lt-leb (value_from n ds) most over)

module _ (most n : ℕ) (xs : List ℕ) (i : ℕ) where
  abbrev next : ℕ
  next = 10 * n + (get_or xs i 0 - 48)

  digit_more : i < length xs → onward most next (drop (i + 1) xs) ≡ onward most n (drop i xs)
  digit_more h = let split : drop i xs ≡ get_or xs i 0 ∷ drop (i + 1) xs = rw (add-one, drop-cons xs i 0) in rw split

  pub last_digit : i < length xs → None ≡ longer most n (get_or xs i 0) → onward most n (drop i xs) ≡ None
  last_digit h e = go (leb next most) refl e
    where
      go : (l : Bool) → leb next most ≡ l → None ≡ cond l (Some next) None → onward most n (drop i xs) ≡ None
      go false q r = sym (digit_more h) ∙ too_large most _ (drop (i + 1) xs) (leb-false _ most q)
      go true q r = cc

  pub next_digit : (m : ℕ) → i < length xs → Some m ≡ longer most n (get_or xs i 0) → (onward most m (drop (i + 1) xs) ≡ onward most n (drop i xs)) × (m ≤ most)
  next_digit m h e = go (leb next most) refl e
    where
      go : (l : Bool) → leb next most ≡ l → Some m ≡ cond l (Some next) None → (onward most m (drop (i + 1) xs) ≡ onward most n (drop i xs)) × (m ≤ most)
      go true q r =
          let v : next ≡ m = cc in
          let k : next ≤ most = leb-true _ most q in
          (ap (λ x. onward most x (drop (i + 1) xs)) (sym v) ∙ digit_more h, omega arith)
      go false q r = cc

pub no_more : (most n : ℕ) (ds : List ℕ) → length ds ≡ 0 → n ≤ most → onward most n ds ≡ Some n
no_more most n [] h k = rw (le-leb n most k)
no_more most n (b ∷ bs) h k = absurd (omega arith)
