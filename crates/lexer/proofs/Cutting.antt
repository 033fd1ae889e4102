-- A text may be cut before or after any token, and go on with a blank and other bytes: the tokens before the cut stay.
use Rattle.std.proofs.Common.{◌≡◌, ℕ, ◌+◌, ◌-◌, ◌<◌, ◌≤◌, Bool, true, false, cond, ◌&&◌, eqb, ◌⊎◌, List, [], ◌∷◌, ◌++◌, length, take, drop, Some, None, Option, sym, refl, ap, ◌∙◌, subst, ap₂, one-add, inl, inr, ⊎_elim, append_assoc, arith, length-append, length-drop, take-append-drop, length-take}
use mathlib.Core.Bool.{and-false}
use mathlib.Core.List.{append_cancel_right}
use Rattle.std.proofs.lemmas.List.Sums.{prefix_len-le-length}
use borrow.Author.Tests.{clash}
use Rattle.grammar.specs.declared.symbols.Mark.TheVariants.{Becomes}
use Rattle.grammar.specs.Tokens.{Tok, mark}
use Rattle.lexer.specs.Spelling.{letter, digit, alphanumeric, blank, run}
use Rattle.lexer.specs.Words.{symbol}
use Rattle.lexer.specs.Lexemes.{Raw, number, other, Gap, gap, unclosed, Mode, outside, inside, skip_in, skip, Lexed, lexeme, none, symbol_or, symbol_at, keyword, word_at, touched, number_at, token_at, lex_from, lex}
use Rattle.lexer.specs.Scan.{Scan, more, broken, over, is_stop, onward, scan}
use Rattle.lexer.specs.NameLaws.{Piece, piece, onto}
use Rattle.lexer.proofs.Scanning.{by_cond, Left, left, Taken, Bounded, token_ends, shorter_of, Scans, breaks, stops, goes, scans, unfolds}

by_cond₂ : {X : Type 0} (P : X → X → Type 0) (b : Bool) (x y u v : X) → (b ≡ true → P x u) → (b ≡ false → P y v) → P (cond b x y) (cond b u v)
by_cond₂ P true x y u v f g = f refl
by_cond₂ P false x y u v f g = g refl

-- parts of an equation of lexemes
raw_of : {r s : Raw} {q o a b : ℕ} {cs ds : List ℕ} → lexeme r q a cs ≡ lexeme s o b ds → r ≡ s
raw_of {r} {s} h = cc

place_of : {r s : Raw} {q o a b : ℕ} {cs ds : List ℕ} → lexeme r q a cs ≡ lexeme s o b ds → q ≡ o
place_of {q} {o} h = cc

after_of : {r s : Raw} {q o a b : ℕ} {cs ds : List ℕ} → lexeme r q a cs ≡ lexeme s o b ds → a ≡ b
after_of {a} {b} h = cc

rest_of : {r s : Raw} {q o a b : ℕ} {cs ds : List ℕ} → lexeme r q a cs ≡ lexeme s o b ds → cs ≡ ds
rest_of {cs} {ds} h = cc

none_lexeme : {X : Type 0} {n q o a : ℕ} {r : Raw} {cs : List ℕ} → none n q ≡ lexeme r o a cs → X
none_lexeme h = cc

-- where ys follows, a token before it is read whole, and stays as it is where ws follows
abbrev Stays : List ℕ → List ℕ → Lexed → Lexed → Type 0
Stays ys ws x y = (r : Raw) (q a : ℕ) (zs : List ℕ) → x ≡ lexeme r q a (zs ++ ys) → is_stop r ≡ false → y ≡ lexeme r q a (zs ++ ws)

-- two runs take the same bytes, and the second leaves these
record Runs (n m : ℕ) (us vs left : List ℕ) : Type 0 where
  count : n ≡ m
  front : take n us ≡ take m vs
  back : drop m vs ≡ left

no_run : (f : ℕ → Bool) (ys zs : List ℕ) → drop (run f ys) ys ≡ zs ++ ys → (run f ys ≡ 0) × (zs ≡ [])
no_run f ys [] h = let a = prefix_len-le-length f ys in let b = length-drop (run f ys) ys in let c = ap length h in (omega arith, refl)
no_run f ys (z ∷ zs) h = let a = prefix_len-le-length f ys in let b = length-drop (run f ys) ys in let c = ap length h in let d = length-append zs ys in absurd (omega arith)

run_cut : (f : ℕ → Bool) (c : ℕ) (cs : List ℕ) → f c ≡ false → (xs ys zs : List ℕ) → drop (run f (xs ++ ys)) (xs ++ ys) ≡ zs ++ ys → Runs (run f (xs ++ ys)) (run f (xs ++ (c ∷ cs))) (xs ++ ys) (xs ++ (c ∷ cs)) (zs ++ (c ∷ cs))
run_cut f c cs e [] ys zs h =
    let k = no_run f ys zs h in
    let n : run f (c ∷ cs) ≡ 0 = ap (λ b. cond b (1 + run f cs) 0) e in
    record { count = k.0 ∙ sym n; front = ap (λ i. take i ys) k.0 ∙ sym (ap (λ i. take i (c ∷ cs)) n); back = ap (λ i. drop i (c ∷ cs)) n ∙ ap (λ us. us ++ (c ∷ cs)) (sym k.1) }
run_cut f c cs e (x ∷ xs) ys zs h =
    by_cond₂ (λ n m. drop n (x ∷ (xs ++ ys)) ≡ zs ++ ys → Runs n m (x ∷ (xs ++ ys)) (x ∷ (xs ++ (c ∷ cs))) (zs ++ (c ∷ cs))) (f x) (1 + run f (xs ++ ys)) 0 (1 + run f (xs ++ (c ∷ cs))) 0
    (λ _ k. let r = run_cut f c cs e xs ys zs (simp one-add at k) in record { count = ap (λ n. 1 + n) r.count; front = simp one-add (ap (λ us. x ∷ us) r.front); back = simp one-add r.back })
    (λ _ k. record { count = refl; front = refl; back = ap (λ us. us ++ (c ∷ cs)) (append_cancel_right (x ∷ xs) zs ys k) }) h

word_cut : (p : ℕ) (xs ys cs : List ℕ) → Stays ys (32 ∷ cs) (word_at p (xs ++ ys)) (word_at p (xs ++ (32 ∷ cs)))
word_cut p xs ys cs r q a zs h go =
    let k = run_cut alphanumeric 32 cs refl xs ys zs (rest_of h) in
    let n = run alphanumeric (xs ++ (32 ∷ cs)) in
    ap₂ (λ w d. lexeme w p (p + n) d) (ap keyword (sym k.front) ∙ raw_of h) k.back
    ∙ ap₂ (λ o b. lexeme r o b (zs ++ (32 ∷ cs))) (place_of h) (ap (λ i. p + i) (sym k.count) ∙ after_of h)

touched_cut : (zs ys cs : List ℕ) → touched (zs ++ ys) ≡ false → touched (zs ++ (32 ∷ cs)) ≡ false
touched_cut [] ys cs h = refl
touched_cut (z ∷ zs) ys cs h = h

untouched : {r : Raw} {q a : ℕ} {cs : List ℕ} (p : ℕ) (b : Bool) (x : Lexed) → cond b (none 2 p) x ≡ lexeme r q a cs → (b ≡ false) × (x ≡ lexeme r q a cs)
untouched p true x h = none_lexeme h
untouched p false x h = (refl, h)

number_cut : (p : ℕ) (xs ys cs : List ℕ) → Stays ys (32 ∷ cs) (number_at p (xs ++ ys)) (number_at p (xs ++ (32 ∷ cs)))
number_cut p xs ys cs r q a zs h go =
    let us = xs ++ ys in let vs = xs ++ (32 ∷ cs) in let n = run digit vs in
    let l = untouched p (touched (drop (run digit us) us)) (lexeme (number (take (run digit us) us)) p (p + run digit us) (drop (run digit us) us)) h in
    let k = run_cut digit 32 cs refl xs ys zs (rest_of l.1) in
    let t : touched (drop n vs) ≡ false = ap touched k.back ∙ touched_cut zs ys cs (ap touched (sym (rest_of l.1)) ∙ l.0) in
    ap (λ b. cond b (none 2 p) (lexeme (number (take n vs)) p (p + n) (drop n vs))) t
    ∙ ap₂ (λ w d. lexeme w p (p + n) d) (ap number (sym k.front) ∙ raw_of l.1) k.back
    ∙ ap₂ (λ o b. lexeme r o b (zs ++ (32 ∷ cs))) (place_of l.1) (ap (λ i. p + i) (sym k.count) ∙ after_of l.1)

symbol_or_cut : (p : ℕ) (xs ys ws : List ℕ) (o : Option Tok) → Stays ys ws (symbol_or p (xs ++ ys) o) (symbol_or p (xs ++ ws) o)
symbol_or_cut p xs ys ws (Some t) r q a zs h go =
    ap₂ (λ w d. lexeme w p (p + 1) (d ++ ws)) (raw_of h) (append_cancel_right xs zs ys (rest_of h)) ∙ ap₂ (λ o b. lexeme r o b (zs ++ ws)) (place_of h) (after_of h)
symbol_or_cut p xs ys ws None r q a zs h go = none_lexeme h

symbol_alone : (p b : ℕ) (ys cs : List ℕ) → Stays ys (32 ∷ cs) (symbol_at p (b ∷ ys)) (symbol_or p (32 ∷ cs) (symbol b))
symbol_alone p b [] cs = symbol_or_cut p [] [] (32 ∷ cs) (symbol b)
symbol_alone p b (y ∷ ys) cs =
    by_cond (λ x. Stays (y ∷ ys) (32 ∷ cs) x (symbol_or p (32 ∷ cs) (symbol b))) (eqb b 58 && eqb y 61) (lexeme (other (mark Becomes)) p (p + 2) ys) (symbol_or p (y ∷ ys) (symbol b))
    (λ _ r q a zs h go. let l = ap length (rest_of h) in let m = length-append zs (y ∷ ys) in absurd (omega arith))
    (λ _. symbol_or_cut p [] (y ∷ ys) (32 ∷ cs) (symbol b))

symbol_cut : (p b : ℕ) (xs ys cs : List ℕ) → Stays ys (32 ∷ cs) (symbol_at p (b ∷ (xs ++ ys))) (symbol_at p (b ∷ (xs ++ (32 ∷ cs))))
symbol_cut p b [] ys cs = λ r q a zs h go. ap (λ t. cond t (lexeme (other (mark Becomes)) p (p + 2) cs) (symbol_or p (32 ∷ cs) (symbol b))) (and-false (eqb b 58)) ∙ symbol_alone p b ys cs r q a zs h go
symbol_cut p b (x ∷ xs) ys cs =
    by_cond₂ (Stays ys (32 ∷ cs)) (eqb b 58 && eqb x 61) (lexeme (other (mark Becomes)) p (p + 2) (xs ++ ys)) (symbol_or p (x ∷ (xs ++ ys)) (symbol b)) (lexeme (other (mark Becomes)) p (p + 2) (xs ++ (32 ∷ cs))) (symbol_or p (x ∷ (xs ++ (32 ∷ cs))) (symbol b))
    (λ _ r q a zs h go. ap₂ (λ w d. lexeme w p (p + 2) (d ++ (32 ∷ cs))) (raw_of h) (append_cancel_right xs zs ys (rest_of h)) ∙ ap₂ (λ o b. lexeme r o b (zs ++ (32 ∷ cs))) (place_of h) (after_of h))
    (λ _. symbol_or_cut p (x ∷ xs) ys (32 ∷ cs) (symbol b))

token_cut : (p b : ℕ) (xs ys cs : List ℕ) → Stays ys (32 ∷ cs) (token_at p (b ∷ (xs ++ ys))) (token_at p (b ∷ (xs ++ (32 ∷ cs))))
token_cut p b xs ys cs =
    let us = b ∷ (xs ++ ys) in let vs = b ∷ (xs ++ (32 ∷ cs)) in
    by_cond₂ (Stays ys (32 ∷ cs)) (letter b) (word_at p us) (cond (digit b) (number_at p us) (symbol_at p us)) (word_at p vs) (cond (digit b) (number_at p vs) (symbol_at p vs))
    (λ _. word_cut p (b ∷ xs) ys cs)
    (λ _. by_cond₂ (Stays ys (32 ∷ cs)) (digit b) (number_at p us) (symbol_at p us) (number_at p vs) (symbol_at p vs) (λ _. number_cut p (b ∷ xs) ys cs) (λ _. symbol_cut p b xs ys cs))

-- where bytes are skipped, either a byte stops that, or all are skipped, whatever follows
skip_both : (P : Gap → Gap → Type 0) (ys ws : List ℕ) → ((q b : ℕ) (us : List ℕ) → P (gap q (b ∷ (us ++ ys))) (gap q (b ∷ (us ++ ws)))) → ((m : Mode) (p : ℕ) → P (skip_in m p ys) (skip_in m p ws)) → (m : Mode) (p : ℕ) (xs : List ℕ) → P (skip_in m p (xs ++ ys)) (skip_in m p (xs ++ ws))
skip_both P ys ws f g m p [] = g m p
skip_both P ys ws f g outside p (b ∷ xs) =
    by_cond₂ P (blank b) _ _ _ _ (λ _. skip_both P ys ws f g outside (p + 1) xs)
    (λ _. by_cond₂ P (eqb b 123) _ _ _ _ (λ _. skip_both P ys ws f g (inside p) (p + 1) xs) (λ _. f p b xs))
skip_both P ys ws f g (inside o) p (b ∷ xs) =
    by_cond₂ P (eqb b 125) _ _ _ _ (λ _. skip_both P ys ws f g outside (p + 1) xs) (λ _. skip_both P ys ws f g (inside o) (p + 1) xs)

-- no token leaves more than there was
left_from : (m : Mode) (p e o : ℕ) (cs : List ℕ) → Left m p e (gap o cs) → p ≤ o
left_from outside p e o cs l = l.0
left_from (inside b) p e o cs l = omega arith

left_fewer : (m : Mode) (p : ℕ) (ys zs : List ℕ) (s : Gap) → Left m p (p + length ys) s → (r : Raw) (q a : ℕ) → lex_from s ≡ lexeme r q a (zs ++ ys) → is_stop r ≡ false → ⊥
left_fewer m p ys zs (gap o cs) l r q a h go =
    let t : Taken o (p + length ys) r q a (zs ++ ys) = subst (Bounded o (p + length ys)) h (token_ends o (p + length ys) cs l.1) in
    let k = t.takes go in let i = left_from m p (p + length ys) o cs l in let j = length-append zs ys in omega arith
left_fewer m p ys zs (unclosed o) l r q a h go = none_lexeme h

lex_cut : (p : ℕ) (xs ys cs : List ℕ) → Stays ys (32 ∷ cs) (lex p (xs ++ ys)) (lex p (xs ++ (32 ∷ cs)))
lex_cut p xs ys cs =
    skip_both (λ s t. Stays ys (32 ∷ cs) (lex_from s) (lex_from t)) ys (32 ∷ cs) (λ q b us. token_cut q b us ys cs)
    (λ m o r q a zs h go. absurd (left_fewer m o ys zs (skip_in m o ys) (left m o (o + length ys) ys refl) r q a h go)) outside p xs

-- what is left is the end of what there was
abbrev Tail : List ℕ → Lexed → Type 0
Tail bs (lexeme r q a cs) = (xs : List ℕ) × (xs ++ cs ≡ bs)
Tail bs (none n q) = Unit {0}

symbol_or_tail : (p b : ℕ) (bs : List ℕ) (o : Option Tok) → Tail (b ∷ bs) (symbol_or p bs o)
symbol_or_tail p b bs (Some t) = (b ∷ [], refl)
symbol_or_tail p b bs None = tt

symbol_tail : (p : ℕ) (bs : List ℕ) → Tail bs (symbol_at p bs)
symbol_tail p [] = ([], refl)
symbol_tail p (b ∷ []) = symbol_or_tail p b [] (symbol b)
symbol_tail p (b ∷ c ∷ bs) = by_cond (Tail (b ∷ c ∷ bs)) (eqb b 58 && eqb c 61) _ _ (λ _. (b ∷ c ∷ [], refl)) (λ _. symbol_or_tail p b (c ∷ bs) (symbol b))

run_tail : (f : ℕ → Bool) (bs : List ℕ) → (xs : List ℕ) × (xs ++ drop (run f bs) bs ≡ bs)
run_tail f bs = (take (run f bs) bs, take-append-drop (run f bs) bs)

token_tail : (p : ℕ) (bs : List ℕ) → Tail bs (token_at p bs)
token_tail p [] = ([], refl)
token_tail p (b ∷ bs) =
    by_cond (Tail (b ∷ bs)) (letter b) _ _ (λ _. run_tail alphanumeric (b ∷ bs))
    (λ _. by_cond (Tail (b ∷ bs)) (digit b) _ _ (λ _. by_cond (Tail (b ∷ bs)) (touched (drop (run digit (b ∷ bs)) (b ∷ bs))) _ _ (λ _. tt) (λ _. run_tail digit (b ∷ bs))) (λ _. symbol_tail p (b ∷ bs)))

tail_more : (b : ℕ) (bs : List ℕ) (x : Lexed) → Tail bs x → Tail (b ∷ bs) x
tail_more b bs (lexeme r q a cs) t = (b ∷ t.0, ap (λ us. b ∷ us) t.1)
tail_more b bs (none n q) t = tt

skip_tail : (m : Mode) (p : ℕ) (bs : List ℕ) → Tail bs (lex_from (skip_in m p bs))
skip_tail outside p [] = ([], refl)
skip_tail (inside o) p [] = tt
skip_tail outside p (b ∷ bs) =
    by_cond (λ s. Tail (b ∷ bs) (lex_from s)) (blank b) _ _ (λ _. tail_more b bs (lex_from (skip_in outside (p + 1) bs)) (skip_tail outside (p + 1) bs))
    (λ _. by_cond (λ s. Tail (b ∷ bs) (lex_from s)) (eqb b 123) _ _ (λ _. tail_more b bs (lex_from (skip_in (inside p) (p + 1) bs)) (skip_tail (inside p) (p + 1) bs)) (λ _. token_tail p (b ∷ bs)))
skip_tail (inside o) p (b ∷ bs) =
    by_cond (λ s. Tail (b ∷ bs) (lex_from s)) (eqb b 125) _ _ (λ _. tail_more b bs (lex_from (skip_in outside (p + 1) bs)) (skip_tail outside (p + 1) bs))
    (λ _. tail_more b bs (lex_from (skip_in (inside o) (p + 1) bs)) (skip_tail (inside o) (p + 1) bs))

lex_tail : (p : ℕ) (bs : List ℕ) {r : Raw} {q a : ℕ} {cs : List ℕ} → lex p bs ≡ lexeme r q a cs → (xs : List ℕ) × (xs ++ cs ≡ bs)
lex_tail p bs h = subst (Tail bs) h (skip_tail outside p bs)

-- The tokens rs are read from bs at p, up to ds at b
pub data Reaches : ℕ → List ℕ → List Piece → ℕ → List ℕ → Type 0 where
  here : {p : ℕ} {bs : List ℕ} → Reaches p bs [] p bs
  step : {p : ℕ} {bs : List ℕ} {r : Raw} {q a : ℕ} {cs : List ℕ} {rs : List Piece} {b : ℕ} {ds : List ℕ} → lex p bs ≡ lexeme r q a cs → is_stop r ≡ false → Reaches a cs rs b ds → Reaches p bs (piece r q ∷ rs) b ds

pub scan_step : (p : ℕ) (bs : List ℕ) {r : Raw} {q a : ℕ} {cs : List ℕ} → lex p bs ≡ lexeme r q a cs → is_stop r ≡ false → scan p bs ≡ more r q (scan a cs)
scan_step p bs {r} {q} {a} {cs} h go = unfolds p bs ∙ ap (λ x. onward x (λ b ds. scan b ds)) h ∙ ap (λ t. more r q (cond t over (scan a cs))) go

pub scan_same : (p : ℕ) (bs : List ℕ) (q : ℕ) (cs : List ℕ) → lex p bs ≡ lex q cs → scan p bs ≡ scan q cs
scan_same p bs q cs h = unfolds p bs ∙ ap (λ x. onward x (λ b ds. scan b ds)) h ∙ sym (unfolds q cs)

scan_reaches : {p : ℕ} {bs : List ℕ} {rs : List Piece} {b : ℕ} {ds : List ℕ} → Reaches p bs rs b ds → scan p bs ≡ onto rs (scan b ds)
scan_reaches here = refl
scan_reaches {p} {bs} (step {r} {q} h go d) = scan_step p bs h go ∙ ap (more r q) (scan_reaches d)

-- ds ends with ys: the bytes before that, and the same tokens where a blank follows in place of ys
pub record Cuts (p : ℕ) (bs : List ℕ) (rs : List Piece) (b : ℕ) (us ys : List ℕ) : Type 0 where
  pub kept : List ℕ
  pub parts : kept ++ ys ≡ bs
  pub far : p + length kept ≡ b + length us
  pub goes : (cs : List ℕ) → Reaches p (kept ++ (32 ∷ cs)) rs b (us ++ (32 ∷ cs))

far_step : (p a e : ℕ) (xs ks ds bs : List ℕ) → xs ++ ds ≡ bs → a + length ds ≡ p + length bs → a + length ks ≡ e → p + length (xs ++ ks) ≡ e
far_step p a e xs ks ds bs h k l = let m = ap length h in let n = length-append xs ds in let o = length-append xs ks in omega arith

reaches_cut : {p : ℕ} {bs : List ℕ} {rs : List Piece} {b : ℕ} {ds : List ℕ} → Reaches p bs rs b ds → (us ys : List ℕ) → us ++ ys ≡ ds → Cuts p bs rs b us ys
reaches_cut here us ys h = record { kept = us; parts = h; far = refl; goes = λ cs. here }
reaches_cut {p} {bs} (step {r} {q} {a} {cs = ds} {rs} {b} h go d) us ys e =
    let k = reaches_cut d us ys e in
    let t = lex_tail p bs h in
    let whole : (t.0 ++ k.kept) ++ ys ≡ bs = append_assoc t.0 k.kept ys ∙ ap (λ zs. t.0 ++ zs) k.parts ∙ t.1 in
    let l : lex p ((t.0 ++ k.kept) ++ ys) ≡ lexeme r q a (k.kept ++ ys) = ap (lex p) whole ∙ h ∙ ap (lexeme r q a) (sym k.parts) in
    record { kept = t.0 ++ k.kept; parts = whole; far = far_step p a (b + length us) t.0 k.kept ds bs t.1 (shorter_of p bs h).rest k.far; goes = λ cs. step (lex_cut p (t.0 ++ k.kept) ys cs r q a k.kept l go) go (k.goes cs) }

-- where blanks and comments end, or the place of the comment that does not
abbrev spot : Gap → ℕ
spot (gap q cs) = q
spot (unclosed q) = q

abbrev Before : Mode → ℕ → Type 0
Before outside p = Unit {0}
Before (inside o) p = o < p

inside_far : (o p e : ℕ) (s : Gap) → o < p → Left (inside o) p e s → spot s ≡ p → ⊥
inside_far o p e (gap q cs) h l k = omega arith
inside_far o p e (unclosed q) h l k = ⊎_elim (λ x. omega arith) (λ x. omega arith) l

-- bytes that were skipped before that place are skipped whatever follows
skip_cut : (m : Mode) (p q : ℕ) (us ys ws : List ℕ) → Before m p → spot (skip_in m p (us ++ ys)) ≡ q → p + length us ≡ q → skip_in m p (us ++ ws) ≡ skip q ws
skip_cut outside p q [] ys ws o h k = let e : p ≡ q = omega arith in ap (λ n. skip n ws) e
skip_cut (inside b) p q [] ys ws o h k = absurd (inside_far b p (p + length ys) (skip_in (inside b) p ys) o (left (inside b) p (p + length ys) ys refl) (omega arith))
skip_cut outside p q (u ∷ us) ys ws o h k =
    let P : Gap → Gap → Type 0 = λ x y. spot x ≡ q → y ≡ skip q ws in
    by_cond₂ P (blank u) _ _ _ _ (λ _ l. skip_cut outside (p + 1) q us ys ws tt l (omega arith))
    (λ _. by_cond₂ P (eqb u 123) _ _ _ _ (λ _ l. skip_cut (inside p) (p + 1) q us ys ws (omega arith) l (omega arith)) (λ _ l. absurd (omega arith))) h
skip_cut (inside b) p q (u ∷ us) ys ws o h k =
    let P : Gap → Gap → Type 0 = λ x y. spot x ≡ q → y ≡ skip q ws in
    by_cond₂ P (eqb u 125) _ _ _ _ (λ _ l. skip_cut outside (p + 1) q us ys ws tt l (omega arith)) (λ _ l. skip_cut (inside b) (p + 1) q us ys ws (omega arith) l (omega arith)) h

-- a token or a refusal stands there
abbrev Stands : ℕ → Lexed → Type 0
Stands p (lexeme r q a cs) = q ≡ p
Stands p (none n q) = q ≡ p

symbol_or_stands : (p : ℕ) (bs : List ℕ) (o : Option Tok) → Stands p (symbol_or p bs o)
symbol_or_stands p bs (Some t) = refl
symbol_or_stands p bs None = refl

symbol_stands : (p : ℕ) (bs : List ℕ) → Stands p (symbol_at p bs)
symbol_stands p [] = refl
symbol_stands p (b ∷ []) = symbol_or_stands p [] (symbol b)
symbol_stands p (b ∷ c ∷ bs) = by_cond (Stands p) (eqb b 58 && eqb c 61) _ _ (λ _. refl) (λ _. symbol_or_stands p (c ∷ bs) (symbol b))

token_stands : (p : ℕ) (bs : List ℕ) → Stands p (token_at p bs)
token_stands p [] = refl
token_stands p (b ∷ bs) =
    by_cond (Stands p) (letter b) _ _ (λ _. refl)
    (λ _. by_cond (Stands p) (digit b) _ _ (λ _. by_cond (Stands p) (touched (drop (run digit (b ∷ bs)) (b ∷ bs))) _ _ (λ _. refl) (λ _. refl)) (λ _. symbol_stands p (b ∷ bs)))

lex_stands : (s : Gap) → Stands (spot s) (lex_from s)
lex_stands (gap q cs) = token_stands q cs
lex_stands (unclosed q) = refl

-- what is first in a scan, and its place
abbrev pub Starts : ℕ → Scan → Type 0
Starts p (more r q s) = q ≡ p
Starts p (broken n q) = q ≡ p
Starts p over = ⊥

scan_spot : {b : ℕ} {ds : List ℕ} {s : Scan} (p : ℕ) → Scans b ds s → Starts p s → spot (skip b ds) ≡ p
scan_spot {b} {ds} p (breaks h) k = sym (subst (Stands (spot (skip b ds))) h (lex_stands (skip b ds))) ∙ k
scan_spot {b} {ds} p (stops h st) k = sym (subst (Stands (spot (skip b ds))) h (lex_stands (skip b ds))) ∙ k
scan_spot {b} {ds} p (goes h go d) k = sym (subst (Stands (spot (skip b ds))) h (lex_stands (skip b ds))) ∙ k

spot_within : (p e : ℕ) (s : Gap) → Left outside p e s → (p ≤ spot s) × (spot s ≤ e)
spot_within p e (gap q cs) l = (l.0, omega arith)
spot_within p e (unclosed q) l = ⊎_elim (λ x. absurd x) (λ k. (k.0, omega arith)) l

-- The cut itself

-- bs, cut at c and going on with a blank, gives the tokens rs, and then those of what stands after the blank
abbrev pub Cut : List ℕ → List Piece → ℕ → Type 0
Cut bs rs c = (cs : List ℕ) → scan 0 (take c bs ++ (32 ∷ cs)) ≡ onto rs (scan (c + 1) cs)

take_front : (xs ys : List ℕ) → take (length xs) (xs ++ ys) ≡ xs
take_front [] ys = refl
take_front (x ∷ xs) ys = ap (λ us. x ∷ us) (take_front xs ys)

cut_at : {bs : List ℕ} {rs : List Piece} {b : ℕ} {ds : List ℕ} → Reaches 0 bs rs b ds → (c : ℕ) (us ys : List ℕ) → us ++ ys ≡ ds → b + length us ≡ c → ((cs : List ℕ) → lex b (us ++ (32 ∷ cs)) ≡ lex (c + 1) cs) → Cut bs rs c
cut_at {bs} {rs} {b} d c us ys e k l cs =
    let r = reaches_cut d us ys e in
    let n : c ≡ length r.kept = omega (arith, r.far) in
    let t : take c bs ≡ r.kept = ap₂ (λ i zs. take i zs) n (sym r.parts) ∙ take_front r.kept ys in
    ap (λ zs. scan 0 (zs ++ (32 ∷ cs))) t ∙ scan_reaches (r.goes cs) ∙ ap (onto rs) (scan_same b (us ++ (32 ∷ cs)) (c + 1) cs (l cs))

-- what a scan's first token says of the bytes
abbrev Leads : ℕ → List ℕ → Scan → Type 0
Leads p bs (more r q s) = ((is_stop r ≡ true) × (s ≡ over)) ⊎ ((a : ℕ) × (cs : List ℕ) × (lex p bs ≡ lexeme r q a cs) × (is_stop r ≡ false) × Scans a cs s)
Leads p bs (broken n q) = Unit {0}
Leads p bs over = Unit {0}

leads : {p : ℕ} {bs : List ℕ} {s : Scan} → Scans p bs s → Leads p bs s
leads (breaks h) = tt
leads (stops h st) = inl (st, refl)
leads (goes {a} {cs} h go d) = inr (a, cs, h, go, d)

starts_some : (q : ℕ) (rs : List Piece) (s : Scan) → Starts q s → onto rs s ≡ over → ⊥
starts_some q [] s h k = subst (Starts q) k h
starts_some q (piece r p ∷ rs) s h k = cc

reach : (rs : List Piece) (p : ℕ) (bs : List ℕ) (q : ℕ) (s : Scan) → Starts q s → Scans p bs (onto rs s) → (b : ℕ) × (ds : List ℕ) × Reaches p bs rs b ds × Scans b ds s
reach [] p bs q s h d = (p, bs, here, d)
reach (piece r o ∷ rs) p bs q s h d =
    ⊎_elim (λ k. absurd (starts_some q rs s h k.1)) (λ k. let t = reach rs k.0 k.1 q s h k.4 in (t.0, t.1, step k.2 k.3 t.2, t.3)) (leads d)

reach_scan : (bs : List ℕ) (rs : List Piece) (q : ℕ) (s : Scan) → Starts q s → scan 0 bs ≡ onto rs s → (b : ℕ) × (ds : List ℕ) × Reaches 0 bs rs b ds × Scans b ds s
reach_scan bs rs q s h e = reach rs 0 bs q s h (subst (Scans 0 bs) e (scans 0 bs))

-- before a token, or before bytes that are refused
pub cut_before : (bs : List ℕ) (rs : List Piece) (p : ℕ) (s : Scan) → scan 0 bs ≡ onto rs s → Starts p s → Cut bs rs p
cut_before bs rs p s e h =
    let t = reach_scan bs rs p s h e in
    let b = t.0 in let ds = t.1 in
    let us = take (p - b) ds in let ys = drop (p - b) ds in
    let q : spot (skip b ds) ≡ p = scan_spot p t.3 h in
    let i = spot_within b (b + length ds) (skip b ds) (left outside b (b + length ds) ds refl) in
    let j = length-take (p - b) ds in
    let k : b + length us ≡ p = omega arith in
    let w : us ++ ys ≡ ds = take-append-drop (p - b) ds in
    cut_at t.2 p us ys w k (λ cs. ap lex_from (skip_cut outside b p us ys (32 ∷ cs) tt (ap (λ zs. spot (skip b zs)) w ∙ q) k))

reaches_far : {p : ℕ} {bs : List ℕ} {rs : List Piece} {b : ℕ} {ds : List ℕ} → Reaches p bs rs b ds → b + length ds ≡ p + length bs
reaches_far here = refl
reaches_far {p} {bs} (step h go d) = reaches_far d ∙ (shorter_of p bs h).rest

reaches_end : {p : ℕ} {bs : List ℕ} {rs : List Piece} {b : ℕ} {ds : List ℕ} {r : Raw} {q a : ℕ} {cs : List ℕ} → Reaches p bs rs b ds → lex b ds ≡ lexeme r q a cs → is_stop r ≡ false → Reaches p bs (rs ++ (piece r q ∷ [])) a cs
reaches_end here h go = step h go here
reaches_end (step k on d) h go = step k on (reaches_end d h go)

-- after a token that is not the end
pub cut_after : (bs : List ℕ) (rs : List Piece) (r : Raw) (p : ℕ) (s : Scan) → scan 0 bs ≡ onto rs (more r p s) → is_stop r ≡ false → (a : ℕ) × (p < a) × (a ≤ length bs) × Cut bs (rs ++ (piece r p ∷ [])) a
cut_after bs rs r p s e go =
    let t = reach_scan bs rs p (more r p s) refl e in
    ⊎_elim (λ k. absurd (clash (sym go ∙ k.0)))
    (λ k. let x = reaches_end t.2 k.2 go in let y = shorter_of t.0 t.1 k.2 in let z = y.takes go in let f = reaches_far x in
    (k.0, z, omega arith, cut_at x k.0 [] k.1 refl (omega arith) (λ cs. refl))) (leads t.3)
