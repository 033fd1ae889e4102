-- The names of a text as a list of words: where a word stands, and the list with one more.
use Rattle.std.proofs.Common.{◌≡◌, ℕ, zero, suc, ◌+◌, ◌<◌, ◌≤◌, true, List, [], ◌∷◌, ◌++◌, length, get_or, take, set, Option, Some, None, sym, refl, ap, ◌∙◌, arith, ltb, cond, not, Bor, le-ltb, lt-ltb}
use Rattle.std.specs.Option.{IfSome, is_some, option_copied}
use Rattle.std.specs.List.{slice_get, position, position_or_len}
use Rattle.std.proofs.lemmas.Option.{slice_get-get_or, slice_get_past}
use Rattle.std.proofs.lemmas.Grind.{common_steps}
use Rattle.std.proofs.lemmas.List.Sums.{prefix_len-le-length}
use Rattle.std.proofs.lemmas.List.Recursion.{is_position_or_len}
use Rattle.std.proofs.lemmas.List.{length-take-le, take_more_set}
use Rattle.lexer.specs.Spelling.{lowered}
use Rattle.lexer.specs.Names.{index, noted, known}
use Rattle.parser.specs.declared.names.Names.{Names}
use Rattle.parser.specs.Feeds.{spellings}
use Rattle.parser.specs.Numbering.{Numbered, is_word, spelled}

pub length_spellings : (ws : List (Bor (List ℕ))) → length (spellings ws) ≡ length ws
length_spellings [] = refl
length_spellings (w ∷ ws) = ap suc (length_spellings ws)

set_spellings : (ws : List (Bor (List ℕ))) (i : ℕ) (w : Bor (List ℕ)) → spellings (set ws i w) ≡ set (spellings ws) i (lowered w.now)
set_spellings [] i w = refl
set_spellings (x ∷ ws) zero w = refl
set_spellings (x ∷ ws) (suc i) w = ap (λ l. lowered x.now ∷ l) (set_spellings ws i w)

-- the first c words are known
abbrev pub front : List (Bor (List ℕ)) → ℕ → List (List ℕ)
front ws c = take c (spellings ws)

pub length_front : (ws : List (Bor (List ℕ))) (c : ℕ) → c ≤ length ws → length (front ws c) ≡ c
length_front ws c h = let e = length_spellings ws in length-take-le c (spellings ws) (omega arith)

take_spellings : (c : ℕ) (ws : List (Bor (List ℕ))) → take c (spellings ws) ≡ spellings (take c ws)
take_spellings zero ws = refl
take_spellings (suc c) [] = refl
take_spellings (suc c) (w ∷ ws) = ap (λ l. lowered w.now ∷ l) (take_spellings c ws)

-- where a word stands first
first : (w : List ℕ) (ws : List (Bor (List ℕ))) (c : ℕ) → index (lowered w) (front ws c) ≡ position_or_len (is_word w) (take c ws)
first w ws c = ap (index (lowered w)) (take_spellings c ws) ∙ is_position_or_len (λ xs. index (lowered w) (spellings xs)) (is_word w) refl (λ x xs. grind arith) (take c ws)

-- what `position` gives, where it gives one
place_of : (n l i : ℕ) → Some i ≡ cond (ltb n l) (Some n) None → (i ≡ n) × (i < l)
place_of n l i e = grind (arith, common_steps)

no_place : (n l : ℕ) → n ≤ l → None ≡ cond (ltb n l) (Some n) None → n ≡ l
no_place n l h e = grind (arith, common_steps)

pub found : (w : List ℕ) (ws : List (Bor (List ℕ))) (c i : ℕ) → c ≤ length ws → Some i ≡ position (is_word w) (take c ws) → (i ≡ index (lowered w) (front ws c)) × (i < c)
found w ws c i h e =
    let n = length-take-le c ws h in
    let b = place_of (position_or_len (is_word w) (take c ws)) (length (take c ws)) i e in
    (b.0 ∙ sym (first w ws c), omega (arith, b.1, n))

pub missed : (w : List ℕ) (ws : List (Bor (List ℕ))) (c : ℕ) → c ≤ length ws → None ≡ position (is_word w) (take c ws) → c ≡ index (lowered w) (front ws c)
missed w ws c h e =
    let n = length-take-le c ws h in
    let b = no_place (position_or_len (is_word w) (take c ws)) (length (take c ws)) (let l = prefix_len-le-length (λ x. not (is_word w x)) (take c ws) in l) e in
    omega (arith, b, n, first w ws c)

noted_old : (w : List ℕ) (xs : List (List ℕ)) → index w xs < length xs → noted w xs ≡ xs
noted_old w xs h = rw (lt-ltb (index w xs) (length xs) h)

noted_new : (w : List ℕ) (xs : List (List ℕ)) → length xs ≤ index w xs → noted w xs ≡ xs ++ (w ∷ [])
noted_new w xs h = rw (le-ltb (index w xs) (length xs) h)

-- one word more
front_more : (ws : List (Bor (List ℕ))) (c : ℕ) (w : Bor (List ℕ)) → c < length ws → front (set ws c w) (c + 1) ≡ front ws c ++ (lowered w.now ∷ [])
front_more ws c w h = let e = length_spellings ws in ap (take (c + 1)) (set_spellings ws c w) ∙ take_more_set (spellings ws) c (lowered w.now) (omega arith)

-- the number of a name, and what is known after it
pub is_old : (m : Names) (w : List ℕ) (i : ℕ) → m.count ≤ 64 → m.titled ≡ true → m.count ≤ length m.words → i ≡ index (lowered w) (front m.words m.count) → i < m.count → Numbered m w m (Some i)
is_old m w i h t k e lt =
    let n = length_front m.words m.count k in
    rw t (e, omega (arith, h), ap (known true) (sym (noted_old (lowered w) (front m.words m.count) (omega arith))), h)

pub is_new : (m : Names) (w : Bor (List ℕ)) → m.titled ≡ true → length m.words ≡ 64 → m.count ≡ index (lowered w.now) (front m.words m.count) → (lt : m.count < 64) → Numbered m w.now (record { words = set m.words m.count w; count = m.count + 1; titled = m.titled }) (Some m.count)
is_new m w t k e lt =
    let n = length_front m.words m.count (omega arith) in
    let is : front (set m.words m.count w) (m.count + 1) ≡ noted (lowered w.now) (front m.words m.count) = front_more m.words m.count w (omega arith) ∙ sym (noted_new (lowered w.now) (front m.words m.count) (omega arith)) in
    rw t (e, lt, ap (known true) is, omega arith)

pub is_last : (m : Names) (w : List ℕ) → m.titled ≡ true → m.count ≡ 64 → m.count ≡ index (lowered w) (front m.words m.count) → Numbered m w m None
is_last m w t k e = rw t (omega arith, refl)

-- what `get` and `copied` give
pub copied_from : {X : Type 0} (r : Option (Bor X)) (xs : List X) (i : ℕ) → is_some r ≡ ltb i (length xs) → IfSome r (λ x. x.now ≡ get_or xs i x.now) → option_copied r ≡ slice_get xs i
copied_from None xs i h k = sym (slice_get_past xs i (grind (arith, common_steps)))
copied_from (Some x) xs i h k = ap Some k ∙ sym (slice_get-get_or xs i x.now (grind (arith, common_steps)))

-- the name of a number
nth_spellings : (ws : List (Bor (List ℕ))) (i : ℕ) → spelled (slice_get ws i) ≡ slice_get (spellings ws) i
nth_spellings [] i = refl
nth_spellings (w ∷ ws) zero = refl
nth_spellings (w ∷ ws) (suc i) = nth_spellings ws i

pub nth_front : (ws : List (Bor (List ℕ))) (c i : ℕ) → spelled (slice_get (take c ws) i) ≡ slice_get (front ws c) i
nth_front ws c i = rw (take_spellings c ws) (nth_spellings (take c ws) i)
