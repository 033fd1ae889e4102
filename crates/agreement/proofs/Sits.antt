-- Code that stands at an address.
use Rattle.std.proofs.Common.{◌≡◌, ℕ, suc, ◌+◌, List, [], ◌∷◌, ◌++◌, length, refl, ap, subst, arith}
use mathlib.Core.Option.{some}
use lib.ListN.{get_elem?}
use Rattle.aida.specs.declared.instructions.Coded.{Coded}
use Rattle.agreement.specs.Simulation.{Sits}

pub sits_left : (code xs ys : List Coded) (p : ℕ) → Sits code p (xs ++ ys) → Sits code p xs
sits_left code [] ys p h = tt
sits_left code (x ∷ xs) ys p h = (h.0, sits_left code xs ys (suc p) h.1)

pub sits_right : (code xs ys : List Coded) (p q : ℕ) → q ≡ p + length xs → Sits code p (xs ++ ys) → Sits code q ys
sits_right code [] ys p q e h = subst (λ n. Sits code n ys) (omega arith) h
sits_right code (x ∷ xs) ys p q e h = sits_right code xs ys (suc p) q (omega arith) h.1

get_past : (pre : List Coded) (i : Coded) (xs : List Coded) → get_elem? (pre ++ i ∷ xs) (length pre) ≡ some i
get_past [] i xs = refl
get_past (y ∷ pre) i xs = get_past pre i xs

regroup : (pre : List Coded) (x : Coded) (xs : List Coded) → (pre ++ x ∷ []) ++ xs ≡ pre ++ x ∷ xs
regroup [] x xs = refl
regroup (y ∷ pre) x xs = ap {B = List Coded} (λ r. y ∷ r) (regroup pre x xs)

long_snoc : (pre : List Coded) (x : Coded) → length (pre ++ x ∷ []) ≡ suc (length pre)
long_snoc [] x = refl
long_snoc (y ∷ pre) x = ap suc (long_snoc pre x)

sits_in : (pre xs : List Coded) → Sits (pre ++ xs) (length pre) xs
sits_in pre [] = tt
sits_in pre (x ∷ xs) =
    (get_past pre x xs, subst (λ n. Sits (pre ++ x ∷ xs) n xs) (long_snoc pre x) (subst (λ c. Sits c (length (pre ++ x ∷ [])) xs) (regroup pre x xs) (sits_in (pre ++ x ∷ []) xs)))

pub sits_whole : (code : List Coded) → Sits code 0 code
sits_whole code = sits_in [] code
