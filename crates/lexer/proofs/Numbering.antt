-- The numbers of names.
use Rattle.std.proofs.Common.{◌≡◌, ℕ, suc, ◌<◌, ◌≤◌, Bool, true, false, cond, ltb, ◌⊎◌, ◌↔◌, List, [], ◌∷◌, ◌++◌, length, drop, sym, refl, ap, ◌∙◌, subst, inl, inr, ⊎_elim, arith, length-append, ltb-false, ltb-true}
use borrow.Author.Tests.{clash}
use Rattle.std.proofs.lemmas.Slice.Eq.{bytes_eq-Decides}
use Rattle.grammar.specs.Tokens as g
use Rattle.grammar.specs.Limits.{few}
use Rattle.lexer.specs.Spelling.{lowered, same}
use Rattle.lexer.specs.Lexemes.{Raw, name, number, other}
use Rattle.lexer.specs.Scan.{Scan, more, broken, over, scan}
use Rattle.lexer.specs.Names.{index, noted, Known, known, nothing, numbered, after, tok}
use Rattle.lexer.specs.NameLaws.{Piece, piece, onto, placed, taught, called, In, Distinct, OneTooMany, Few, NameLaw, SameNumber}
use Rattle.lexer.proofs.Scanning.{by_cond, named, shorter_of, Scans, breaks, stops, goes, scans}
use Rattle.lexer.proofs.Splitting.{find_token}

pub same_refl : (w : List ℕ) → same w w ≡ true
same_refl w = (bytes_eq-Decides w w).1 refl

pub same_is : (v w : List ℕ) → same v w ≡ true → v ≡ w
same_is v w h = (bytes_eq-Decides v w).0 h

pub index_within : (w : List ℕ) (xs : List (List ℕ)) → index w xs ≤ length xs
index_within w [] = omega arith
index_within w (x ∷ xs) = let h = index_within w xs in by_cond (λ n. n ≤ suc (length xs)) (same w x) 0 (suc (index w xs)) (λ _. omega arith) (λ _. omega arith)

index_end : (w : List ℕ) (xs : List (List ℕ)) → index w (xs ++ (w ∷ [])) ≡ index w xs
index_end w [] = ap (λ b. cond b 0 1) (same_refl w)
index_end w (x ∷ xs) = ap (λ n. cond (same w x) 0 (suc n)) (index_end w xs)

-- a word keeps its number
pub index_noted : (w : List ℕ) (xs : List (List ℕ)) → index w (noted w xs) ≡ index w xs
index_noted w xs = by_cond (λ ys. index w ys ≡ index w xs) (ltb (index w xs) (length xs)) xs (xs ++ (w ∷ [])) (λ _. refl) (λ _. index_end w xs)

pub noted_within : (w : List ℕ) (xs : List (List ℕ)) → index w (noted w xs) < length (noted w xs)
noted_within w xs =
    by_cond (λ ys. index w ys < length ys) (ltb (index w xs) (length xs)) xs (xs ++ (w ∷ [])) (λ h. ltb-true (index w xs) (length xs) h)
    (λ _. let n = index_end w xs in let l = length-append xs (w ∷ []) in let i = index_within w xs in omega arith)

index_past : (b : Bool) (n m : ℕ) → cond b 0 (suc n) ≡ suc m → (b ≡ false) × (n ≡ m)
index_past true n m h = absurd (omega arith)
index_past false n m h = (refl, omega arith)

-- a word with the number of the list's end is not in the list
pub index_absent : (w : List ℕ) (xs : List (List ℕ)) → index w xs ≡ length xs → In w xs → ⊥
index_absent w [] h i = i
index_absent w (x ∷ xs) h i =
    let k = index_past (same w x) (index w xs) (length xs) h in
    ⊎_elim (λ e. clash (sym k.0 ∙ ap (same w) (sym e) ∙ same_refl w)) (index_absent w xs k.1) i

-- and a word with a number before that is
pub index_present : (w : List ℕ) (xs : List (List ℕ)) → index w xs < length xs → In w xs
index_present w [] h = absurd (omega arith)
index_present w (x ∷ xs) h = look (same w x) refl h (index_present w xs)
  where
    look : (b : Bool) → same w x ≡ b → cond b 0 (suc (index w xs)) < suc (length xs) → (index w xs < length xs → In w xs) → In w (x ∷ xs)
    look true e k on = inl (same_is w x e)
    look false e k on = inr (on (omega arith))

-- membership

in_left : (x : List ℕ) (xs ys : List (List ℕ)) → In x xs → In x (xs ++ ys)
in_left x [] ys i = absurd i
in_left x (z ∷ xs) ys i = ⊎_elim inl (λ j. inr (in_left x xs ys j)) i

in_end : (x : List ℕ) (xs : List (List ℕ)) → In x (xs ++ (x ∷ []))
in_end x [] = inl refl
in_end x (z ∷ xs) = inr (in_end x xs)

in_either : (x w : List ℕ) (xs : List (List ℕ)) → In x (xs ++ (w ∷ [])) → In x xs ⊎ (x ≡ w)
in_either x w [] i = ⊎_elim inr (λ j. absurd j) i
in_either x w (z ∷ xs) i = ⊎_elim (λ e. inl (inl e)) (λ j. ⊎_elim (λ k. inl (inr k)) inr (in_either x w xs j)) i

distinct_end : (w : List ℕ) (xs : List (List ℕ)) → Distinct xs → (In w xs → ⊥) → Distinct (xs ++ (w ∷ []))
distinct_end w [] d a = (λ i. i, tt)
distinct_end w (x ∷ xs) d a = (λ i. ⊎_elim d.0 (λ e. a (inl (sym e))) (in_either x w xs i), distinct_end w xs d.1 (λ i. a (inr i)))

-- the list with the word in it

noted_distinct : (w : List ℕ) (xs : List (List ℕ)) → Distinct xs → Distinct (noted w xs)
noted_distinct w xs d =
    by_cond Distinct (ltb (index w xs) (length xs)) xs (xs ++ (w ∷ [])) (λ _. d)
    (λ h. let l = ltb-false (index w xs) (length xs) h in let i = index_within w xs in distinct_end w xs d (index_absent w xs (omega arith)))

noted_old : (x w : List ℕ) (xs : List (List ℕ)) → In x xs → In x (noted w xs)
noted_old x w xs i = by_cond (In x) (ltb (index w xs) (length xs)) xs (xs ++ (w ∷ [])) (λ _. i) (λ _. in_left x xs (w ∷ []) i)

noted_new : (w : List ℕ) (xs : List (List ℕ)) → In w (noted w xs)
noted_new w xs = by_cond (In w) (ltb (index w xs) (length xs)) xs (xs ++ (w ∷ [])) (λ h. index_present w xs (ltb-true (index w xs) (length xs) h)) (λ _. in_end w xs)

noted_only : (x w : List ℕ) (xs : List (List ℕ)) → In x (noted w xs) → In x xs ⊎ (x ≡ w)
noted_only x w xs = by_cond (λ ys. In x ys → In x xs ⊎ (x ≡ w)) (ltb (index w xs) (length xs)) xs (xs ++ (w ∷ [])) (λ _ i. inl i) (λ _ i. in_either x w xs i)

noted_few : (w : List ℕ) (xs : List (List ℕ)) → length xs ≤ 64 → index w xs < 64 → length (noted w xs) ≤ 64
noted_few w xs l h =
    by_cond (λ ys. length ys ≤ 64) (ltb (index w xs) (length xs)) xs (xs ++ (w ∷ [])) (λ _. l)
    (λ k. let i = ltb-false (index w xs) (length xs) k in let j = length-append xs (w ∷ []) in omega arith)

-- the list with all these words in it
abbrev gathered : List (List ℕ) → List (List ℕ) → List (List ℕ)
gathered ns [] = ns
gathered ns (w ∷ ws) = gathered (noted w ns) ws

gathered_distinct : (ns ws : List (List ℕ)) → Distinct ns → Distinct (gathered ns ws)
gathered_distinct ns [] d = d
gathered_distinct ns (w ∷ ws) d = gathered_distinct (noted w ns) ws (noted_distinct w ns d)

gathered_old : (x : List ℕ) (ns ws : List (List ℕ)) → In x ns → In x (gathered ns ws)
gathered_old x ns [] i = i
gathered_old x ns (w ∷ ws) i = gathered_old x (noted w ns) ws (noted_old x w ns i)

gathered_new : (x : List ℕ) (ns ws : List (List ℕ)) → In x ws → In x (gathered ns ws)
gathered_new x ns [] i = absurd i
gathered_new x ns (w ∷ ws) i = ⊎_elim (λ e. gathered_old x (noted w ns) ws (subst (λ v. In v (noted w ns)) (sym e) (noted_new w ns))) (gathered_new x (noted w ns) ws) i

gathered_only : (x : List ℕ) (ns ws : List (List ℕ)) → In x (gathered ns ws) → In x ns ⊎ In x ws
gathered_only x ns [] i = inl i
gathered_only x ns (w ∷ ws) i = ⊎_elim (λ j. ⊎_elim inl (λ e. inr (inl e)) (noted_only x w ns j)) (λ j. inr (inr j)) (gathered_only x (noted w ns) ws i)

-- what is known, by the names that were read

taught_titled : (ns : List (List ℕ)) (rs : List Piece) → taught (known true ns) rs ≡ known true (gathered ns (called rs))
taught_titled ns [] = refl
taught_titled ns (piece (name w) p ∷ rs) = taught_titled (noted (lowered w) ns) rs
taught_titled ns (piece (number w) p ∷ rs) = taught_titled ns rs
taught_titled ns (piece (other t) p ∷ rs) = taught_titled ns rs

taught_first : (rs : List Piece) → (taught nothing rs).titled ≡ true → (taught nothing rs).names ≡ gathered [] (drop 1 (called rs))
taught_first [] h = absurd (clash h)
taught_first (piece (name w) p ∷ rs) h = ap (λ k. k.names) (taught_titled [] rs)
taught_first (piece (number w) p ∷ rs) h = taught_first rs h
taught_first (piece (other t) p ∷ rs) h = taught_first rs h

few_titled : (ns : List (List ℕ)) (rs : List Piece) → length ns ≤ 64 → Few (placed (known true ns) rs) → length (gathered ns (called rs)) ≤ 64
few_titled ns [] l f = l
few_titled ns (piece (name w) p ∷ rs) l f = few_titled (noted (lowered w) ns) rs (noted_few (lowered w) ns l (ltb-true (index (lowered w) ns) 64 f.0)) f.1
few_titled ns (piece (number w) p ∷ rs) l f = few_titled ns rs l f.1
few_titled ns (piece (other t) p ∷ rs) l f = few_titled ns rs l f.1

few_first : (rs : List Piece) → Few (placed nothing rs) → length (gathered [] (drop 1 (called rs))) ≤ 64
few_first [] f = omega arith
few_first (piece (name w) p ∷ rs) f = few_titled [] rs (omega arith) f.1
few_first (piece (number w) p ∷ rs) f = few_first rs f.1
few_first (piece (other t) p ∷ rs) f = few_first rs f.1

-- only names become names
abbrev Written : Scan → Type 0
Written (more r q s) = (named r ≡ false) × Written s
Written (broken n q) = Unit {0}
Written over = Unit {0}

written_of : {p : ℕ} {bs : List ℕ} {s : Scan} → Scans p bs s → Written s
written_of (breaks h) = tt
written_of {p} {bs} (stops h st) = ((shorter_of p bs h).proper, tt)
written_of {p} {bs} (goes h go d) = ((shorter_of p bs h).proper, written_of d)

written_onto : (rs : List Piece) (s : Scan) → Written (onto rs s) → Written s
written_onto [] s h = h
written_onto (piece r p ∷ rs) s h = written_onto rs s h.1

name_of : (k : Known) (r : Raw) (m : ℕ) → named r ≡ false → tok k r ≡ g.name m → (w : List ℕ) × (r ≡ name w) × (numbered k w ≡ m)
name_of k (name w) m h e = let x : numbered k w ≡ m = cc in (w, refl, x)
name_of k (number w) m h e = cc
name_of k (other t) m h e = absurd (clash (sym h ∙ ap (λ u. named (other u)) e))

titled_of : (t : Bool) (ns : List (List ℕ)) (w : List ℕ) → 64 ≤ numbered (known t ns) w → t ≡ true
titled_of true ns w h = refl
titled_of false ns w h = absurd (omega arith)

number_of : (t : Bool) (ns : List (List ℕ)) (w : List ℕ) → t ≡ true → numbered (known t ns) w ≡ index (lowered w) ns
number_of true ns w h = refl
number_of false ns w h = absurd (clash h)

too_many : (rs : List Piece) (w : List ℕ) (p : ℕ) (s : Scan) → Few (placed nothing rs) → 64 ≤ numbered (taught nothing rs) w → OneTooMany (onto rs (more (name w) p s)) p
too_many rs w p s few many =
    let k = taught nothing rs in
    let ws = drop 1 (called rs) in let os = gathered [] ws in
    let t = titled_of k.titled k.names w many in
    let i : numbered k w ≡ index (lowered w) os = number_of k.titled k.names w t ∙ ap (index (lowered w)) (taught_first rs t) in
    let f = few_first rs few in
    let j = index_within (lowered w) os in
    record {
      before = rs;
      word = w;
      rest = s;
      stands = refl;
      others = os;
      count = omega arith;
      different = gathered_distinct [] ws tt;
      each = λ z. (gathered_new z [] ws, λ q. ⊎_elim (λ b. absurd b) (λ b. b) (gathered_only z [] ws q));
      another = index_absent (lowered w) os (omega arith);
    }

pub name_law : NameLaw
name_law bs front rest m p h few many =
    let x = find_token front rest (g.name m) p nothing (scan 0 bs) h in
    let rs = x.before in
    let v = written_onto rs (more x.raw p x.behind) (subst Written x.whole (written_of (scans 0 bs))) in
    let u = name_of (taught nothing rs) x.raw m v.0 x.means in
    let e : scan 0 bs ≡ onto rs (more (name u.0) p x.behind) = x.whole ∙ ap (λ a. onto rs (more a p x.behind)) u.1 in
    subst (λ s. OneTooMany s p) (sym e) (too_many rs u.0 p x.behind (subst Few (sym x.shown) few) (omega (arith, u.2)))

-- Names that have the same number

index_before : (x : List ℕ) (xs ys : List (List ℕ)) → index x xs < length xs → index x (xs ++ ys) ≡ index x xs
index_before x [] ys h = absurd (omega arith)
index_before x (z ∷ xs) ys h = look (same x z) h (index_before x xs ys)
  where
    look : (b : Bool) → cond b 0 (suc (index x xs)) < suc (length xs) → (index x xs < length xs → index x (xs ++ ys) ≡ index x xs) → cond b 0 (suc (index x (xs ++ ys))) ≡ cond b 0 (suc (index x xs))
    look true k on = refl
    look false k on = ap suc (on (omega arith))

index_kept : (x w : List ℕ) (xs : List (List ℕ)) → index x xs < length xs → (index x (noted w xs) ≡ index x xs) × (index x (noted w xs) < length (noted w xs))
index_kept x w xs h =
    by_cond (λ ys. (index x ys ≡ index x xs) × (index x ys < length ys)) (ltb (index w xs) (length xs)) xs (xs ++ (w ∷ [])) (λ _. (refl, h))
    (λ _. let e = index_before x xs (w ∷ []) h in let l = length-append xs (w ∷ []) in (e, omega arith))

index_gathered : (x : List ℕ) (ns ws : List (List ℕ)) → index x ns < length ns → (index x (gathered ns ws) ≡ index x ns) × (index x (gathered ns ws) < length (gathered ns ws))
index_gathered x ns [] h = (refl, h)
index_gathered x ns (w ∷ ws) h = let k = index_kept x w ns h in let g = index_gathered x (noted w ns) ws k.1 in (g.0 ∙ k.0, g.1)

index_same : (v w : List ℕ) (xs : List (List ℕ)) → index v xs ≡ index w xs → index v xs < length xs → v ≡ w
index_same v w [] e h = absurd (omega arith)
index_same v w (x ∷ xs) e h = look (same v x) (same w x) refl refl e h (index_same v w xs)
  where
    look : (a b : Bool) → same v x ≡ a → same w x ≡ b → cond a 0 (suc (index v xs)) ≡ cond b 0 (suc (index w xs)) → cond a 0 (suc (index v xs)) < suc (length xs) → (index v xs ≡ index w xs → index v xs < length xs → v ≡ w) → v ≡ w
    look true true k l i j on = same_is v x k ∙ sym (same_is w x l)
    look true false k l i j on = absurd (omega arith)
    look false true k l i j on = absurd (omega arith)
    look false false k l i j on = on (omega arith) (omega arith)

same_titled : (ns : List (List ℕ)) (os : List Piece) (v w : List ℕ) → (index (lowered v) ns ≡ numbered (taught (known true (noted (lowered v) ns)) os) w) ↔ (lowered v ≡ lowered w)
same_titled ns os v w =
    let ms = noted (lowered v) ns in let ls = gathered ms (called os) in
    let k = index_gathered (lowered v) ms (called os) (noted_within (lowered v) ns) in
    let i : index (lowered v) ls ≡ index (lowered v) ns = k.0 ∙ index_noted (lowered v) ns in
    let j : numbered (taught (known true ms) os) w ≡ index (lowered w) ls = ap (λ u. numbered u w) (taught_titled ms os) in
    (λ e. index_same (lowered v) (lowered w) ls (i ∙ e ∙ j) k.1, λ e. sym i ∙ ap (λ u. index u ls) e ∙ sym j)

same_at : (t : Bool) (ns : List (List ℕ)) (os : List Piece) (v w : List ℕ) → t ≡ true → (numbered (known t ns) v ≡ numbered (taught (after (known t ns) v) os) w) ↔ (lowered v ≡ lowered w)
same_at true ns os v w h = same_titled ns os v w
same_at false ns os v w h = absurd (clash h)

pub same_number : SameNumber
same_number front between v w h = same_at (taught nothing front).titled (taught nothing front).names between v w h
