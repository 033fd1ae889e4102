-- Hexadecimal digits, two more at a time.
use Rattle.std.proofs.Common.{◌≡◌, ℕ, ◌-◌, ◌<◌, List, [], ◌∷◌, ◌++◌, length, get_or, take, drop, Some, None, Option, refl, ap, ◌∙◌, append_assoc, arith}
use lib.Seq.{take-length}
use Rattle.numerals.specs.Hexadecimal.{byte_of, front, bytes_of}

-- the bytes before, and then those that are left
abbrev pub after : List ℕ → Option (List ℕ) → Option (List ℕ)
after xs None = None
after xs (Some ys) = Some (xs ++ ys)

-- what is left after two digits
abbrev pub behind : List ℕ → List ℕ
behind ds = take (length ds - 2) (drop 2 ds)

behind_two : (a b : ℕ) (ds : List ℕ) → behind (a ∷ b ∷ ds) ≡ ds
behind_two a b ds = let e : length (a ∷ b ∷ ds) - 2 ≡ length ds = omega arith in ap (λ n. take n ds) e ∙ take-length ds

after_front : (xs : List ℕ) (x : ℕ) (o : Option (List ℕ)) → after (xs ++ (x ∷ [])) o ≡ after xs (front (Some x) o)
after_front xs x None = refl
after_front xs x (Some ys) = ap Some (append_assoc xs (x ∷ []) ys)

pub after_more : (xs ds : List ℕ) (x : ℕ) → 1 < length ds → Some x ≡ byte_of (get_or ds 0 0) (get_or ds 1 0) → after (xs ++ (x ∷ [])) (bytes_of (behind ds)) ≡ after xs (bytes_of ds)
after_more xs [] x h e = absurd (omega arith)
after_more xs (a ∷ []) x h e = absurd (omega arith)
after_more xs (a ∷ b ∷ ds) x h e = rw (behind_two a b ds, ← e) (after_front xs x (bytes_of ds))
