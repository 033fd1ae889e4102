-- Each token but the end takes a byte or more, so the bound in a scan is never met; places and the end of a scan.
use Rattle.std.proofs.Common.{◌≡◌, ℕ, zero, suc, ◌+◌, ◌<◌, ◌≤◌, Bool, true, false, cond, ◌&&◌, ◌||◌, eqb, leb, ◌⊎◌, List, [], ◌∷◌, ◌++◌, length, take, drop, Some, None, Option, sym, refl, ap, ◌∙◌, subst, inl, inr, ⊎_elim, arith, length-drop, leb-false}
use Rattle.std.proofs.lemmas.List.Sums.{prefix_len-le-length}
use borrow.Author.Tests.{clash, lt-leb}
use Rattle.grammar.specs.declared.symbols.Mark.TheVariants.{Program, Var, Semicolon, Comma, Colon, Becomes, Close, Slash, Then, Do, End, Period, Stop}
use Rattle.grammar.specs.Tokens.{Tok, Item, at, mark}
use Rattle.grammar.specs.Tokens as g
use Rattle.grammar.specs.Limits.{Ends, is_stop as is_stop_tok}
use Rattle.grammar.specs.Limits.{bad}
use Rattle.grammar.specs.Limits as limits
use Rattle.lexer.specs.Spelling.{letter, digit, alphanumeric, blank, lowered, same, run, value}
use Rattle.lexer.specs.Words.{Word, reserved, find, symbol}
use Rattle.lexer.specs.Lexemes.{Raw, name, number, other, Gap, gap, unclosed, Mode, outside, inside, skip_in, skip, Lexed, lexeme, none, symbol_or, symbol_at, word_or, keyword, word_at, touched, number_at, token_at, lex_from, lex}
use Rattle.lexer.specs.Scan.{Scan, more, broken, over, is_stop, onward, scan_by, scan, size, limit, keeps, limited, Moderate, Fails, no_token, long_name, large_number, later}
use Rattle.lexer.specs.Names.{Known, tok, learns, items, ends}

pub by_cond : {X : Type 0} (P : X → Type 0) (b : Bool) (x y : X) → (b ≡ true → P x) → (b ≡ false → P y) → P (cond b x y)
by_cond P true x y f g = f refl
by_cond P false x y f g = g refl

-- Blanks and comments: e is the place after the last byte

-- where blanks and comments that begin at p end at the earliest
abbrev low : Mode → ℕ → ℕ
low outside p = p
low (inside o) p = suc p

abbrev Opened : Mode → ℕ → Type 0
Opened outside q = ⊥
Opened (inside o) q = q ≡ o

abbrev pub Left : Mode → ℕ → ℕ → Gap → Type 0
Left m p e (gap q cs) = (low m p ≤ q) × (q + length cs ≡ e)
Left m p e (unclosed q) = Opened m q ⊎ ((low m p ≤ q) × (q < e))

left_next : (m : Mode) (p e : ℕ) (s : Gap) → Left outside (p + 1) e s → Left m p e s
left_next outside p e (gap q cs) h = (omega arith, h.1)
left_next (inside o) p e (gap q cs) h = (omega arith, h.1)
left_next outside p e (unclosed q) h = ⊎_elim (λ x. absurd x) (λ k. inr (omega arith, k.1)) h
left_next (inside o) p e (unclosed q) h = ⊎_elim (λ x. absurd x) (λ k. inr (omega arith, k.1)) h

left_open : (p e : ℕ) (s : Gap) → p < e → Left (inside p) (p + 1) e s → Left outside p e s
left_open p e (gap q cs) some h = (omega arith, h.1)
left_open p e (unclosed q) some h = ⊎_elim (λ x. inr (omega arith, omega arith)) (λ k. inr (omega arith, k.1)) h

left_within : (o p e : ℕ) (s : Gap) → Left (inside o) (p + 1) e s → Left (inside o) p e s
left_within o p e (gap q cs) h = (omega arith, h.1)
left_within o p e (unclosed q) h = ⊎_elim inl (λ k. inr (omega arith, k.1)) h

pub left : (m : Mode) (p e : ℕ) (bs : List ℕ) → p + length bs ≡ e → Left m p e (skip_in m p bs)
left outside p e [] h = (omega arith, h)
left (inside o) p e [] h = inl refl
left outside p e (b ∷ bs) h =
    let k : (p + 1) + length bs ≡ e = omega arith in
    by_cond (Left outside p e) (blank b) _ _ (λ _. left_next outside p e (skip_in outside (p + 1) bs) (left outside (p + 1) e bs k))
    (λ _. by_cond (Left outside p e) (eqb b 123) _ _ (λ _. left_open p e (skip_in (inside p) (p + 1) bs) (omega arith) (left (inside p) (p + 1) e bs k)) (λ _. (omega arith, h)))
left (inside o) p e (b ∷ bs) h =
    let k : (p + 1) + length bs ≡ e = omega arith in
    by_cond (Left (inside o) p e) (eqb b 125) _ _ (λ _. left_next (inside o) p e (skip_in outside (p + 1) bs) (left outside (p + 1) e bs k))
    (λ _. left_within o p e (skip_in (inside o) (p + 1) bs) (left (inside o) (p + 1) e bs k))

-- Tokens

-- a name that has its number already, which no text has
abbrev is_name : Tok → Bool
is_name (g.name n) = true
is_name (g.lit l) = false
is_name (g.op o) = false
is_name (g.pre x) = false
is_name (g.start x) = false
is_name g.else' = false
is_name g.unused = false
is_name (g.ty x) = false
is_name (mark m) = false

abbrev pub named : Raw → Bool
named (name w) = false
named (number w) = false
named (other t) = is_name t

-- the token r, read at p or after, stands at q; what is left begins at a and ends at e
pub record Taken (p e : ℕ) (r : Raw) (q a : ℕ) (cs : List ℕ) : Type 0 where
  pub after : p ≤ q
  pub forward : q ≤ a
  pub rest : a + length cs ≡ e
  pub takes : is_stop r ≡ false → q < a
  pub last : is_stop r ≡ true → q ≡ e
  pub proper : named r ≡ false

abbrev pub Bounded : ℕ → ℕ → Lexed → Type 0
Bounded p e (lexeme r q a cs) = Taken p e r q a cs
Bounded p e (none n q) = (n ≡ 2) × (p ≤ q) × (q < e)

-- a token that takes n bytes
taken : (p n : ℕ) (r : Raw) (cs : List ℕ) (e : ℕ) → (is_stop r ≡ false) × (named r ≡ false) → 0 < n → p + n + length cs ≡ e → Taken p e r p (p + n) cs
taken p n r cs e go some h = record { after = omega arith; forward = omega arith; rest = h; takes = λ _. omega arith; last = λ s. absurd (clash (sym go.0 ∙ s)); proper = go.1 }

run_some : (f : ℕ → Bool) (b : ℕ) (bs : List ℕ) → f b ≡ true → 0 < run f (b ∷ bs)
run_some f b bs e = rw e (omega arith)

dropped : (p n : ℕ) (bs : List ℕ) → n ≤ length bs → p + n + length (drop n bs) ≡ p + length bs
dropped p n bs h = let e = length-drop n bs in omega arith

-- no reserved word is the end of the text or a name
abbrev plain : List Word → Bool
plain [] = true
plain (x ∷ xs) = cond (is_stop_tok x.token) false (cond (is_name x.token) false (plain xs))

both : (a b : Bool) → cond a false b ≡ true → (a ≡ false) × (b ≡ true)
both true b h = absurd (clash h)
both false b h = (refl, h)

abbrev Proper : Raw → Type 0
Proper r = (is_stop r ≡ false) × (named r ≡ false)

word_goes : (w v : List ℕ) (xs : List Word) → plain xs ≡ true → Proper (word_or w (find v xs))
word_goes w v [] h = (refl, refl)
word_goes w v (x ∷ xs) h =
    let k = both (is_stop_tok x.token) (cond (is_name x.token) false (plain xs)) h in
    let l = both (is_name x.token) (plain xs) k.1 in
    by_cond (λ o. Proper (word_or w o)) (same v x.spelled) (Some x.token) (find v xs) (λ _. (k.0, l.0)) (λ _. word_goes w v xs l.1)

keyword_goes : (w : List ℕ) → Proper (keyword w)
keyword_goes w = word_goes w (lowered w) reserved refl

letter_starts : (b : ℕ) → letter b ≡ true → alphanumeric b ≡ true
letter_starts b h = go (leb 48 b && leb b 57) (leb 65 b && leb b 90) (leb 97 b && leb b 122) h
  where
    go : (d a z : Bool) → a || z ≡ true → (d || a) || z ≡ true
    go true true z e = refl
    go true false z e = refl
    go false a z e = e

word_bounded : (p b : ℕ) (bs : List ℕ) → letter b ≡ true → Bounded p (p + length (b ∷ bs)) (word_at p (b ∷ bs))
word_bounded p b bs h =
    taken p (run alphanumeric (b ∷ bs)) (keyword (take (run alphanumeric (b ∷ bs)) (b ∷ bs))) (drop (run alphanumeric (b ∷ bs)) (b ∷ bs)) _ (keyword_goes (take (run alphanumeric (b ∷ bs)) (b ∷ bs)))
    (run_some alphanumeric b bs (letter_starts b h)) (dropped p (run alphanumeric (b ∷ bs)) (b ∷ bs) (prefix_len-le-length alphanumeric (b ∷ bs)))

number_bounded : (p b : ℕ) (bs : List ℕ) → digit b ≡ true → Bounded p (p + length (b ∷ bs)) (number_at p (b ∷ bs))
number_bounded p b bs h =
    by_cond (Bounded p (p + length (b ∷ bs))) (touched (drop (run digit (b ∷ bs)) (b ∷ bs))) _ _ (λ _. (refl, omega arith, omega arith))
    (λ _. taken p (run digit (b ∷ bs)) (number (take (run digit (b ∷ bs)) (b ∷ bs))) (drop (run digit (b ∷ bs)) (b ∷ bs)) _ (refl, refl)
    (run_some digit b bs h) (dropped p (run digit (b ∷ bs)) (b ∷ bs) (prefix_len-le-length digit (b ∷ bs))))

abbrev Goes : Option Tok → Type 0
Goes (Some t) = Proper (other t)
Goes None = Unit {0}

symbol_goes : (b : ℕ) → Goes (symbol b)
symbol_goes b =
    let step : (c : ℕ) (t : Tok) (o : Option Tok) → Proper (other t) → Goes o → Goes (cond (eqb b c) (Some t) o) = λ c t o h k. by_cond Goes (eqb b c) (Some t) o (λ _. h) (λ _. k) in
    step 43 _ _ (refl, refl) (step 45 _ _ (refl, refl) (step 42 _ _ (refl, refl) (step 47 _ _ (refl, refl) (step 40 _ _ (refl, refl) (step 41 _ _ (refl, refl) (step 61 _ _ (refl, refl) (step 60 _ _ (refl, refl) (step 62 _ _ (refl, refl) (step 58 _ _ (refl, refl) (step 59 _ _ (refl, refl) (step 44 _ _ (refl, refl) (step 46 _ _ (refl, refl) tt))))))))))))

symbol_or_bounded : (p : ℕ) (bs : List ℕ) (o : Option Tok) → Goes o → Bounded p (p + suc (length bs)) (symbol_or p bs o)
symbol_or_bounded p bs (Some t) go = taken p 1 (other t) bs _ go (omega arith) (omega arith)
symbol_or_bounded p bs None go = (refl, omega arith, omega arith)

stop_bounded : (p : ℕ) → Bounded p (p + 0) (symbol_at p [])
stop_bounded p = record { after = omega arith; forward = omega arith; rest = refl; takes = λ h. absurd (clash (sym h)); last = λ _. omega arith; proper = refl }

symbol_bounded : (p b : ℕ) (bs : List ℕ) → Bounded p (p + length (b ∷ bs)) (symbol_at p (b ∷ bs))
symbol_bounded p b [] = symbol_or_bounded p [] (symbol b) (symbol_goes b)
symbol_bounded p b (c ∷ bs) =
    by_cond (Bounded p (p + length (b ∷ c ∷ bs))) (eqb b 58 && eqb c 61) _ _ (λ _. taken p 2 (other (mark Becomes)) bs _ (refl, refl) (omega arith) (omega arith))
    (λ _. symbol_or_bounded p (c ∷ bs) (symbol b) (symbol_goes b))

token_bounded : (p : ℕ) (bs : List ℕ) → Bounded p (p + length bs) (token_at p bs)
token_bounded p [] = stop_bounded p
token_bounded p (b ∷ bs) =
    by_cond (Bounded p (p + length (b ∷ bs))) (letter b) _ _ (word_bounded p b bs)
    (λ _. by_cond (Bounded p (p + length (b ∷ bs))) (digit b) _ _ (number_bounded p b bs) (λ _. symbol_bounded p b bs))

weaken : (p q e : ℕ) (x : Lexed) → p ≤ q → Bounded q e x → Bounded p e x
weaken p q e (lexeme r o a cs) h k = record { after = omega arith; forward = k.forward; rest = k.rest; takes = k.takes; last = k.last; proper = k.proper }
weaken p q e (none n o) h k = (k.0, omega arith, k.2)

pub token_ends : (p e : ℕ) (bs : List ℕ) → p + length bs ≡ e → Bounded p e (token_at p bs)
token_ends p e bs h = rw (← h) (token_bounded p bs)

from_gap : (p e : ℕ) (s : Gap) → Left outside p e s → Bounded p e (lex_from s)
from_gap p e (gap q cs) h = weaken p q e (token_at q cs) h.0 (token_ends q e cs h.1)
from_gap p e (unclosed q) h = ⊎_elim (λ x. absurd x) (λ k. (refl, k.0, k.1)) h

-- question 2's answer: a token with what is left, or the number 2 and a place of the text
pub shorter : (p : ℕ) (bs : List ℕ) → Bounded p (p + length bs) (lex p bs)
shorter p bs = from_gap p (p + length bs) (skip p bs) (left outside p (p + length bs) bs refl)

pub shorter_of : (p : ℕ) (bs : List ℕ) {x : Lexed} → lex p bs ≡ x → Bounded p (p + length bs) x
shorter_of p bs {x} h = rw (← h) (shorter p bs)

-- Scans

-- s is the scan of the bytes bs, which begin at p
pub data Scans : ℕ → List ℕ → Scan → Type 0 where
  breaks : {p : ℕ} {bs : List ℕ} {n q : ℕ} → lex p bs ≡ none n q → Scans p bs (broken n q)
  stops : {p : ℕ} {bs : List ℕ} {r : Raw} {q a : ℕ} {cs : List ℕ} → lex p bs ≡ lexeme r q a cs → is_stop r ≡ true → Scans p bs (more r q over)
  goes : {p : ℕ} {bs : List ℕ} {r : Raw} {q a : ℕ} {cs : List ℕ} {s : Scan} → lex p bs ≡ lexeme r q a cs → is_stop r ≡ false → Scans a cs s → Scans p bs (more r q s)

pub fewer : (p : ℕ) (bs : List ℕ) {r : Raw} {q a : ℕ} {cs : List ℕ} → lex p bs ≡ lexeme r q a cs → is_stop r ≡ false → length cs < length bs
fewer p bs h go = let t = shorter_of p bs h in let k = t.takes go in omega arith

scans_on : (p : ℕ) (bs : List ℕ) (f : ℕ → List ℕ → Scan) → ((a : ℕ) (cs : List ℕ) → length cs < length bs → Scans a cs (f a cs)) → (x : Lexed) → lex p bs ≡ x → Scans p bs (onward x f)
scans_on p bs f on (none n q) h = breaks h
scans_on p bs f on (lexeme r q a cs) h = choose (is_stop r) refl
  where
    choose : (b : Bool) → is_stop r ≡ b → Scans p bs (more r q (cond b over (f a cs)))
    choose true k = stops h k
    choose false k = goes h k (on a cs (fewer p bs h k))

scans_by : (f p : ℕ) (bs : List ℕ) → length bs < f → Scans p bs (scan_by f p bs)
scans_by zero p bs h = absurd (omega arith)
scans_by (suc f) p bs h = scans_on p bs (λ a cs. scan_by f a cs) (λ a cs k. scans_by f a cs (omega arith)) (lex p bs) refl

pub scans : (p : ℕ) (bs : List ℕ) → Scans p bs (scan p bs)
scans p bs = scans_by (suc (length bs)) p bs (omega arith)

-- more fuel changes nothing
same_by : (f p : ℕ) (bs : List ℕ) (s : Scan) → length bs < f → Scans p bs s → scan_by f p bs ≡ s
same_by zero p bs s h d = absurd (omega arith)
same_by (suc f) p bs s h (breaks k) = ap (λ x. onward x (λ a cs. scan_by f a cs)) k
same_by (suc f) p bs s h (stops {r} {q} {a} {cs} k st) = ap (λ x. onward x (λ a cs. scan_by f a cs)) k ∙ ap (λ b. more r q (cond b over (scan_by f a cs))) st
same_by (suc f) p bs s h (goes {r} {q} {a} {cs} {s = t} k go d) =
    let l = fewer p bs k go in
    ap (λ x. onward x (λ a cs. scan_by f a cs)) k ∙ ap (λ b. more r q (cond b over (scan_by f a cs))) go ∙ ap (more r q) (same_by f a cs t (omega arith) d)

same_on : (p : ℕ) (bs : List ℕ) (f g : ℕ → List ℕ → Scan) → ((a : ℕ) (cs : List ℕ) → length cs < length bs → f a cs ≡ g a cs) → (x : Lexed) → lex p bs ≡ x → onward x f ≡ onward x g
same_on p bs f g on (none n q) h = refl
same_on p bs f g on (lexeme r q a cs) h = choose (is_stop r) refl
  where
    choose : (b : Bool) → is_stop r ≡ b → more r q (cond b over (f a cs)) ≡ more r q (cond b over (g a cs))
    choose true k = refl
    choose false k = ap (more r q) (on a cs (fewer p bs h k))

-- the first token, and then the scan of what stands after it
pub unfolds : (p : ℕ) (bs : List ℕ) → scan p bs ≡ onward (lex p bs) (λ a cs. scan a cs)
unfolds p bs = same_on p bs (λ a cs. scan_by (length bs) a cs) (λ a cs. scan a cs) (λ a cs h. same_by (length bs) a cs (scan a cs) h (scans a cs)) (lex p bs) refl

size_of : {p : ℕ} {bs : List ℕ} {s : Scan} → Scans p bs s → size s ≤ suc (length bs)
size_of (breaks h) = omega arith
size_of (stops h k) = omega arith
size_of {p} {bs} (goes h k d) = let l = fewer p bs h k in let n = size_of d in omega arith

pub size_scan : (p : ℕ) (bs : List ℕ) → size (scan p bs) ≤ suc (length bs)
size_scan p bs = size_of (scans p bs)

-- places go up from p, and none is past e; a refusal is by question 2, at a byte
abbrev pub Places : ℕ → ℕ → Scan → Type 0
Places p e (more r q s) = (p ≤ q) × (q ≤ e) × Places (suc q) e s
Places p e (broken n q) = (n ≡ 2) × (p ≤ q) × (q < e)
Places p e over = Unit {0}

places_from : (p q e : ℕ) (s : Scan) → p ≤ q → Places q e s → Places p e s
places_from p q e (more r o s) h k = (omega arith, k.1, k.2)
places_from p q e (broken n o) h k = (k.0, omega arith, k.2)
places_from p q e over h k = tt

places_of : (e : ℕ) {p : ℕ} {bs : List ℕ} {s : Scan} → p + length bs ≡ e → Scans p bs s → Places p e s
places_of e {p} {bs} h (breaks k) = let t = shorter_of p bs k in (t.0, t.1, omega arith)
places_of e {p} {bs} h (stops k st) = let t = shorter_of p bs k in let l = t.last st in (t.after, omega arith, tt)
places_of e {p} {bs} h (goes {q} {a} {s = s} k go d) =
    let t = shorter_of p bs k in let l = t.takes go in (t.after, omega arith, places_from (suc q) a e s l (places_of e (t.rest ∙ h) d))

pub places : (p : ℕ) (bs : List ℕ) → Places p (p + length bs) (scan p bs)
places p bs = places_of (p + length bs) refl (scans p bs)

pub over_bad : {n q : ℕ} → limits.over ≡ bad n q → ⊥
over_bad h = cc

bad_place : (p e : ℕ) (s : Scan) {n q : ℕ} → Places p e s → ends s ≡ bad n q → (n ≡ 2) × (p ≤ q) × (q < e)
bad_place p e (more r o s) h k = let t = bad_place (suc o) e s h.2 k in (t.0, omega arith, t.2)
bad_place p e (broken m o) {n} {q} h k = let x : m ≡ n = cc in let y : o ≡ q = cc in (sym x ∙ h.0, omega arith, omega arith)
bad_place p e over h k = absurd (over_bad k)

pub two_only_scan : (p : ℕ) (bs : List ℕ) {n q : ℕ} → ends (scan p bs) ≡ bad n q → (n ≡ 2) × (p ≤ q) × (q < p + length bs)
two_only_scan p bs h = bad_place p (p + length bs) (scan p bs) (places p bs) h

-- the end of the text

pub stop_is : (r : Raw) → is_stop r ≡ true → r ≡ other (mark Stop)
stop_is (name w) h = absurd (clash h)
stop_is (number w) h = absurd (clash h)
stop_is (other (g.name n)) h = absurd (clash h)
stop_is (other (g.lit l)) h = absurd (clash h)
stop_is (other (g.op o)) h = absurd (clash h)
stop_is (other (g.pre x)) h = absurd (clash h)
stop_is (other (g.start x)) h = absurd (clash h)
stop_is (other g.else') h = absurd (clash h)
stop_is (other g.unused) h = absurd (clash h)
stop_is (other (g.ty x)) h = absurd (clash h)
stop_is (other (mark Program)) h = absurd (clash h)
stop_is (other (mark Var)) h = absurd (clash h)
stop_is (other (mark Semicolon)) h = absurd (clash h)
stop_is (other (mark Comma)) h = absurd (clash h)
stop_is (other (mark Colon)) h = absurd (clash h)
stop_is (other (mark Becomes)) h = absurd (clash h)
stop_is (other (mark Close)) h = absurd (clash h)
stop_is (other (mark Slash)) h = absurd (clash h)
stop_is (other (mark Then)) h = absurd (clash h)
stop_is (other (mark Do)) h = absurd (clash h)
stop_is (other (mark End)) h = absurd (clash h)
stop_is (other (mark Period)) h = absurd (clash h)
stop_is (other (mark Stop)) h = refl

closing_of : (e : ℕ) {p : ℕ} {bs : List ℕ} {s : Scan} → p + length bs ≡ e → Scans p bs s → ends s ≡ limits.over → (k : Known) → (front : List Item) × (items k s ≡ front ++ (at (mark Stop) e ∷ []))
closing_of e h (breaks x) o k = absurd (over_bad (sym o))
closing_of e {p} {bs} h (stops {r} {q} x st) o k =
    let t = shorter_of p bs x in let l : q ≡ e = t.last st ∙ h in ([], ap (λ u. at (tok k u) q ∷ []) (stop_is r st) ∙ ap (λ u. at (mark Stop) u ∷ []) l)
closing_of e {p} {bs} h (goes {r} {q} x go d) o k =
    let t = shorter_of p bs x in let c = closing_of e (t.rest ∙ h) d o (learns k r) in (at (tok k r) q ∷ c.0, ap (λ u. at (tok k r) q ∷ u) c.1)

-- a scan that is not broken off ends with the end of the text, at the place after the last byte
pub closing : (p : ℕ) (bs : List ℕ) (k : Known) → ends (scan p bs) ≡ limits.over → (front : List Item) × (items k (scan p bs) ≡ front ++ (at (mark Stop) (p + length bs) ∷ []))
closing p bs k o = closing_of (p + length bs) refl (scans p bs) o k

-- nothing stands after the end of the text
abbrev pub Closed : Scan → Type 0
Closed (more r q s) = (is_stop r ≡ true → s ≡ over) × Closed s
Closed (broken n q) = Unit {0}
Closed over = Unit {0}

closed_of : {p : ℕ} {bs : List ℕ} {s : Scan} → Scans p bs s → Closed s
closed_of (breaks h) = tt
closed_of (stops h k) = (λ _. refl, tt)
closed_of (goes h k d) = (λ st. absurd (clash (sym k ∙ st)), closed_of d)

pub closed : (p : ℕ) (bs : List ℕ) → Closed (scan p bs)
closed p bs = closed_of (scans p bs)

closed_keeps : (n q : ℕ) (s : Scan) → Closed s → Closed (keeps n q s)
closed_keeps zero q s h = h
closed_keeps (suc n) q s h = tt

pub closed_limited : (s : Scan) → Closed s → Closed (limited s)
closed_limited (more r q s) h = closed_keeps (limit r) q (more r q (limited s)) (λ st. ap limited (h.0 st), closed_limited s h.1)
closed_limited (broken n q) h = tt
closed_limited over h = tt

pub tok_stops : (k : Known) (r : Raw) → is_stop_tok (tok k r) ≡ is_stop r
tok_stops k (name w) = refl
tok_stops k (number w) = refl
tok_stops k (other t) = refl

pub closed_ends : (k : Known) (s : Scan) → Closed s → Ends (items k s) (ends s)
closed_ends k (more r q s) h = (λ st. let o = h.0 (sym (tok_stops k r) ∙ st) in (ap (items (learns k r)) o, ap ends o), closed_ends (learns k r) s h.1)
closed_ends k (broken n q) h = tt
closed_ends k over h = tt

pub ends_scan : (k : Known) (p : ℕ) (bs : List ℕ) → Ends (items k (scan p bs)) (ends (scan p bs))
ends_scan k p bs = closed_ends k (scan p bs) (closed p bs)

pub ends_limited : (k : Known) (p : ℕ) (bs : List ℕ) → Ends (items k (limited (scan p bs))) (ends (limited (scan p bs)))
ends_limited k p bs = closed_ends k (limited (scan p bs)) (closed_limited (scan p bs) (closed p bs))

-- the limits of single tokens

pub moderate_limited : (s : Scan) → Moderate s → limited s ≡ s
moderate_limited (more r q s) h = ap (λ n. keeps n q (more r q (limited s))) h.0 ∙ ap (more r q) (moderate_limited s h.1)
moderate_limited (broken n q) h = refl
moderate_limited over h = refl

keeps_over : (n q : ℕ) (s : Scan) → ends (keeps n q s) ≡ limits.over → (n ≡ 0) × (ends s ≡ limits.over)
keeps_over zero q s h = (refl, h)
keeps_over (suc n) q s h = absurd (over_bad (sym h))

limited_moderate : (s : Scan) → ends (limited s) ≡ limits.over → Moderate s
limited_moderate (more r q s) h = let k = keeps_over (limit r) q (more r q (limited s)) h in (k.0, limited_moderate s k.1)
limited_moderate (broken n q) h = absurd (over_bad (sym h))
limited_moderate over h = tt

pub limited_over : (s : Scan) → ends (limited s) ≡ limits.over → (limited s ≡ s) × Moderate s
limited_over s h = let m = limited_moderate s h in (moderate_limited s m, m)

fails_at : {s : Scan} {m q n p : ℕ} → Fails s m q → bad m q ≡ bad n p → Fails s n p
fails_at {s} {m} {q} {n} {p} f h = let x : m ≡ n = cc in let y : q ≡ p = cc in subst (λ u. Fails s u p) x (subst (λ u. Fails s m u) y f)

fails_name : (w : List ℕ) (q : ℕ) (s : Scan) {n p : ℕ} → (ends (limited s) ≡ bad n p → Fails s n p) → (b : Bool) → leb (length w) 16 ≡ b → ends (keeps (cond b 0 3) q (more (name w) q (limited s))) ≡ bad n p → Fails (more (name w) q s) n p
fails_name w q s on true k h = later (ap (λ b. cond b 0 3) k) (on h)
fails_name w q s on false k h = fails_at (long_name (leb-false (length w) 16 k)) h

fails_number : (w : List ℕ) (q : ℕ) (s : Scan) {n p : ℕ} → (ends (limited s) ≡ bad n p → Fails s n p) → (b : Bool) → leb (value w) 2147483647 ≡ b → ends (keeps (cond b 0 4) q (more (number w) q (limited s))) ≡ bad n p → Fails (more (number w) q s) n p
fails_number w q s on true k h = later (ap (λ b. cond b 0 4) k) (on h)
fails_number w q s on false k h = fails_at (large_number (leb-false (value w) 2147483647 k)) h

-- where the tokens stop is the first question with a no
pub limited_fails : (s : Scan) {n p : ℕ} → ends (limited s) ≡ bad n p → Fails s n p
limited_fails (more (name w) q s) h = fails_name w q s (limited_fails s) (leb (length w) 16) refl h
limited_fails (more (number w) q s) h = fails_number w q s (limited_fails s) (leb (value w) 2147483647) refl h
limited_fails (more (other t) q s) h = later refl (limited_fails s h)
limited_fails (broken m q) h = fails_at no_token h
limited_fails over h = absurd (over_bad h)

pub fails_limited : {s : Scan} {n p : ℕ} → Fails s n p → ends (limited s) ≡ bad n p
fails_limited no_token = refl
fails_limited (long_name {w} {p} {s} h) = ap (λ b. ends (keeps (cond b 0 3) p (more (name w) p (limited s)))) (lt-leb (length w) 16 h)
fails_limited (large_number {ds} {p} {s} h) = ap (λ b. ends (keeps (cond b 0 4) p (more (number ds) p (limited s)))) (lt-leb (value ds) 2147483647 h)
fails_limited (later {r} {q} {s = s} k f) = ap (λ n. ends (keeps n q (more r q (limited s)))) k ∙ fails_limited f

-- such a token stands in the text
pub fails_place : (p e : ℕ) {s : Scan} {n q : ℕ} → Places p e s → Fails s n q → (p ≤ q) × (q ≤ e)
fails_place p e h no_token = (h.1, omega arith)
fails_place p e h (long_name k) = (h.0, h.1)
fails_place p e h (large_number k) = (h.0, h.1)
fails_place p e h (later {q} k f) = let t = fails_place (suc q) e h.2 f in (omega arith, t.1)

pub fails_which : (p e : ℕ) {s : Scan} {n q : ℕ} → Places p e s → Fails s n q → (2 ≤ n) × (n ≤ 4)
fails_which p e h no_token = let k = h.0 in (omega arith, omega arith)
fails_which p e h (long_name k) = (omega arith, omega arith)
fails_which p e h (large_number k) = (omega arith, omega arith)
fails_which p e h (later {q} k f) = fails_which (suc q) e h.2 f
