-- An array that is made place by place.
use Rattle.std.proofs.Common.{◌≡◌, ℕ, zero, suc, ◌+◌, ◌-◌, ◌<◌, ◌≤◌, List, [], ◌∷◌, ◌++◌, length, get_or, replicate, sym, refl, ◌∙◌, subst, arith}
use Rattle.std.specs.Fn.{Mut, Called}
use Rattle.std.specs.Array.{IsFromFnResult, IsFromFnResultFrom}
use Rattle.std.proofs.lemmas.List.{ext_get_or, length-append, length-map, length-replicate}
use Rattle.aida.specs.declared.instructions.Coded.{Coded}
use Rattle.code.specs.declared.table.CodeEntry.{CodeEntry}
use Rattle.code.specs.Questions.{blank_coded, said, said_by_all}

-- calls that give h of each number, and leave f as it is
module _ {F B : Type 0} (g : Mut F (ℕ × Unit {0}) B) (f : F) (ys : List B) (d : B) (h : ℕ → B) (pure : (i : ℕ) (y : B) (q : F) → Called g f (i, tt) y q → (q ≡ f) × (y ≡ h i)) where
  made_from : (n i : ℕ) → IsFromFnResultFrom g f ys i n → (j k : ℕ) → i + j ≡ k → j < n → get_or ys k d ≡ h k
  made_from zero i e j k place lt = absurd (omega arith)
  made_from (suc n) i e zero k place lt = let here : k ≡ i = omega arith in rw here (e.2.1 d ∙ (pure i e.1 e.0 e.3).1)
  made_from (suc n) i e (suc j) k place lt =
      let rest = subst (λ (q : F). IsFromFnResultFrom g q ys (i + 1) n) (pure i e.1 e.0 e.3).0 e.4 in
      made_from n (i + 1) rest j k (omega arith) (omega arith)

  pub made_each : (n : ℕ) → IsFromFnResult g f ys n → (k : ℕ) → k < n → get_or ys k d ≡ h k
  made_each n e k lt = made_from n 0 e.each k k (omega arith) lt

blanks : (j k : ℕ) → get_or (replicate j blank_coded) k blank_coded ≡ blank_coded
blanks zero k = refl
blanks (suc j) zero = refl
blanks (suc j) (suc k) = blanks j k

past : (xs : List Coded) (j k : ℕ) → get_or (xs ++ replicate j blank_coded) k blank_coded ≡ get_or xs k blank_coded
past [] j k = blanks j k
past (x ∷ xs) j zero = refl
past (x ∷ xs) j (suc k) = past xs j k

-- the entries' instructions, then blank ones, as many as there is room for
pub padded : (m : ℕ) (es : List CodeEntry) (code : List Coded) → length es ≤ m → length code ≡ m → ((k : ℕ) → k < m → get_or code k blank_coded ≡ get_or (said_by_all es) k blank_coded) → code ≡ said_by_all es ++ replicate (m - length es) blank_coded
padded m es code few long each =
    let blank = replicate (m - length es) blank_coded in
    let same : length code ≡ length (said_by_all es ++ blank) = omega (arith, length-append (said_by_all es) blank, length-map es said, length-replicate (m - length es) blank_coded) in
    ext_get_or blank_coded code (said_by_all es ++ blank) same (λ k lt. each k (omega arith) ∙ sym (past (said_by_all es) (m - length es) k))
