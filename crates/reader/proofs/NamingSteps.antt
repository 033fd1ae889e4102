-- Gathering names: one token of a scan, and the word of each number.
use Rattle.std.proofs.Common.{◌≡◌, ℕ, zero, suc, ◌<◌, ◌≤◌, Bool, true, false, cond, ltb, List, [], ◌∷◌, ◌++◌, length, Some, Ok, Err, sym, refl, ap, ◌∙◌, subst, arith, length-append, le-leb}
use borrow.Author.Tests.{clash}
use Rattle.std.specs.List.{slice_get}
use Rattle.lexer.specs.declared.token.Lexeme.{Lexeme}
use Rattle.lexer.specs.declared.token.Refusal.{Refusal}
use Rattle.lexer.specs.Spelling.{lowered, same}
use Rattle.lexer.specs.Lexemes.{name, number, other, meant, Lexed, lexeme, none, lex_meant, lex}
use Rattle.lexer.specs.Limited.{asked_by, asked}
use Rattle.lexer.specs.Scan.{Scan, more, broken, over, is_stop, scan, limit, limited}
use Rattle.lexer.specs.Names.{index, noted, Known, known, nothing, numbered, after, items}
use Rattle.lexer.specs.NameLaws.{Piece, piece, onto, taught, Few}
use Rattle.lexer.proofs.Scanning.{by_cond, fewer}
use Rattle.lexer.proofs.Numbering.{same_is, index_noted, noted_within}
use Rattle.parser.specs.declared.names.Names.{Names}
use Rattle.parser.specs.Feeds.{known_of, from}
use Rattle.parser.proofs.StepToken.{first, breaks}
use Rattle.reader.specs.Naming.{gathered, named, Noted, Spelled}

-- The tokens of a text

module _ (at : ℕ) (bs : List ℕ) where
  -- the first is refused
  pub ends_refused : (k : Known) (e : Refusal) → lex_meant (Err e) ≡ asked (lex at bs) → gathered k (limited (scan at bs)) ≡ k
  ends_refused k e h = ap (gathered k) (breaks at bs e h)

  module _ (l : Lexeme) (e : lex_meant (Ok l) ≡ asked (lex at bs)) (m n : Names) where
    begins : limited (scan at bs) ≡ from l
    begins = (first at bs l e).tokens

    pub goes_on : Noted m l.token n true → gathered (known_of m) (limited (scan at bs)) ≡ gathered (known_of n) (limited (scan l.end.place l.end.rest.now))
    goes_on h =
        ap (gathered (known_of m)) begins
        ∙ ap (λ b. gathered (known_of m) (more (meant l.token) l.place (cond b over (limited (scan l.end.place l.end.rest.now))))) h.1
        ∙ h.2 l.place (limited (scan l.end.place l.end.rest.now))

    pub ends_there : Noted m l.token n false → gathered (known_of m) (limited (scan at bs)) ≡ known_of n
    ends_there h = ap (gathered (known_of m)) begins ∙ h.1 l.place (limited (scan l.end.place l.end.rest.now))

    by_asked : (x : Lexed) → lex at bs ≡ x → lex_meant (Ok l) ≡ asked x → is_stop (meant l.token) ≡ false → length l.end.rest.now < length bs
    by_asked (none a q) k h go = absurd (cc)
    by_asked (lexeme r q a cs) k h go = by_limit (limit r) h
      where
        by_limit : (i : ℕ) → lex_meant (Ok l) ≡ asked_by i (lexeme r q a cs) q → length l.end.rest.now < length bs
        by_limit zero f =
            let x : meant l.token ≡ r = cc in
            let y : l.end.rest.now ≡ cs = cc in
            subst (λ u. length u < length bs) (sym y) (fewer at bs k (ap is_stop (sym x) ∙ go))
        by_limit (suc i) f = absurd (cc)

    pub takes : Noted m l.token n true → length l.end.rest.now < length bs
    takes h = by_asked (lex at bs) refl e h.1

pub within : (bs : List ℕ) → length bs ≤ 16384 → named bs ≡ gathered nothing (limited (scan 0 bs))
within bs h = ap (λ b. cond b (gathered nothing (limited (scan 0 bs))) nothing) (le-leb (length bs) 16384 h)

-- The word of each number

nth_before : (xs ys : List (List ℕ)) (i : ℕ) → i < length xs → slice_get (xs ++ ys) i ≡ slice_get xs i
nth_before [] ys i h = absurd (omega arith)
nth_before (x ∷ xs) ys zero h = refl
nth_before (x ∷ xs) ys (suc i) h = nth_before xs ys i (omega arith)

nth_noted : (w : List ℕ) (xs : List (List ℕ)) (i : ℕ) → i < length xs → (slice_get (noted w xs) i ≡ slice_get xs i) × (i < length (noted w xs))
nth_noted w xs i h =
    by_cond (λ ys. (slice_get ys i ≡ slice_get xs i) × (i < length ys)) (ltb (index w xs) (length xs)) xs (xs ++ (w ∷ [])) (λ _. (refl, h))
    (λ _. let l = length-append xs (w ∷ []) in (nth_before xs (w ∷ []) i h, omega arith))

-- names that are known keep their numbers
nth_gathered : (xs : List (List ℕ)) (s : Scan) (i : ℕ) → i < length xs → slice_get (gathered (known true xs) s).names i ≡ slice_get xs i
nth_gathered xs (more (name w) p s) i h =
    by_cond (λ k. slice_get k.names i ≡ slice_get xs i) (ltb (index (lowered w) xs) 64) (gathered (known true (noted (lowered w) xs)) s) (known true xs)
    (λ _. let k = nth_noted (lowered w) xs i h in nth_gathered (noted (lowered w) xs) s i k.1 ∙ k.0) (λ _. refl)
nth_gathered xs (more (number ds) p s) i h = nth_gathered xs s i h
nth_gathered xs (more (other t) p s) i h = nth_gathered xs s i h
nth_gathered xs (broken n p) i h = refl
nth_gathered xs over i h = refl

nth_index : (w : List ℕ) (xs : List (List ℕ)) → index w xs < length xs → slice_get xs (index w xs) ≡ Some w
nth_index w [] h = absurd (omega arith)
nth_index w (x ∷ xs) h = look (same w x) refl h (nth_index w xs)
  where
    look : (b : Bool) → same w x ≡ b → cond b 0 (suc (index w xs)) < suc (length xs) → (index w xs < length xs → slice_get xs (index w xs) ≡ Some w) → slice_get (x ∷ xs) (cond b 0 (suc (index w xs))) ≡ Some w
    look true e k on = ap Some (sym (same_is w x e))
    look false e k on = on (omega arith)

new_spelled : (b : Bool) (xs : List (List ℕ)) (w : List ℕ) (s : Scan) → b ≡ true → slice_get (gathered (after (known b xs) w) s).names (numbered (known b xs) w) ≡ Some (lowered w)
new_spelled false xs w s h = absurd (clash h)
new_spelled true xs w s h =
    let v = lowered w in
    let in' : index v xs < length (noted v xs) = let e = index_noted v xs in let l = noted_within v xs in omega arith in
    nth_gathered (noted v xs) s (index v xs) in' ∙ ap (slice_get (noted v xs)) (sym (index_noted v xs)) ∙ nth_index v (noted v xs) (noted_within v xs)

spelled_from : (k : Known) (front : List Piece) (w : List ℕ) (p : ℕ) (s : Scan) → Few (items k (onto front (more (name w) p s))) → (taught k front).titled ≡ true → slice_get (gathered k (onto front (more (name w) p s))).names (numbered (taught k front) w) ≡ Some (lowered w)
spelled_from k [] w p s f h =
    ap (λ b. slice_get (cond b (gathered (after k w) s) k).names (numbered k w)) f.0 ∙ new_spelled k.titled k.names w s h
spelled_from k (piece (name v) q ∷ front) w p s f h =
    ap (λ b. slice_get (cond b (gathered (after k v) (onto front (more (name w) p s))) k).names (numbered (taught (after k v) front) w)) f.0 ∙ spelled_from (after k v) front w p s f.1 h
spelled_from k (piece (number ds) q ∷ front) w p s f h = spelled_from k front w p s f.1 h
spelled_from k (piece (other t) q ∷ front) w p s f h = spelled_from k front w p s f.1 h

pub spelled : (bs : List ℕ) → Spelled bs (named bs).names
spelled bs short few front w p rest e h =
    ap (λ k. slice_get k.names (numbered (taught nothing front) w)) (within bs short ∙ ap (gathered nothing) e)
    ∙ spelled_from nothing front w p rest (subst (λ s. Few (items nothing s)) e few) h

pub spelled_as : (bs : List ℕ) (k : Known) → k ≡ named bs → Spelled bs k.names
spelled_as bs k e = subst (λ x. Spelled bs x.names) (sym e) (spelled bs)
