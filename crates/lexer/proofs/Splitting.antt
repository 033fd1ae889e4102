-- Where the tokens of a scan are split, the scan is.
use Rattle.std.proofs.Common.{◌≡◌, ℕ, zero, suc, ◌+◌, ◌≤◌, List, [], ◌∷◌, ◌++◌, length, refl, ap, ◌∙◌, subst, ap₂, arith}
use mathlib.Core.List.{nil≢cons, cons≢nil, head-eq_of_cons-eq, tail-eq_of_cons-eq}
use Rattle.grammar.specs.Tokens.{Tok, Item, at}
use Rattle.grammar.specs.Limits.{bad}
use Rattle.lexer.specs.Lexemes.{Raw}
use Rattle.lexer.specs.Scan.{Scan, more, broken, over, scan, limit, keeps, limited}
use Rattle.lexer.specs.Names.{Known, tok, learns, items, ends}
use Rattle.lexer.specs.NameLaws.{Piece, piece, onto, placed, taught}
use Rattle.lexer.proofs.Scanning.{over_bad, Places, places}

pub items_onto : (k : Known) (rs : List Piece) (s : Scan) → items k (onto rs s) ≡ placed k rs ++ items (taught k rs) s
items_onto k [] s = refl
items_onto k (piece r p ∷ rs) s = ap (λ xs. at (tok k r) p ∷ xs) (items_onto (learns k r) rs s)

pub ends_onto : (rs : List Piece) (s : Scan) → ends (onto rs s) ≡ ends s
ends_onto [] s = refl
ends_onto (piece r p ∷ rs) s = ends_onto rs s

pub placed_end : (k : Known) (rs : List Piece) (r : Raw) (p : ℕ) → placed k (rs ++ (piece r p ∷ [])) ≡ placed k rs ++ (at (tok (taught k rs) r) p ∷ [])
placed_end k [] r p = refl
placed_end k (piece s q ∷ rs) r p = ap (λ xs. at (tok k s) q ∷ xs) (placed_end (learns k s) rs r p)

pub record Splits (k : Known) (s : Scan) (front tail : List Item) : Type 0 where
  pub pieces : List Piece
  pub rest : Scan
  pub is : s ≡ onto pieces rest
  pub first : placed k pieces ≡ front
  pub then : items (taught k pieces) rest ≡ tail

pub split : (front tail : List Item) (k : Known) (s : Scan) → items k s ≡ front ++ tail → Splits k s front tail
split [] tail k s h = record { pieces = []; rest = s; is = refl; first = refl; then = h }
split (f ∷ front) tail k (more r p s) h =
    let t = split front tail (learns k r) s (tail-eq_of_cons-eq h) in
    record { pieces = piece r p ∷ t.pieces; rest = t.rest; is = ap (more r p) t.is; first = ap₂ {C = List Item} (λ x xs. x ∷ xs) (head-eq_of_cons-eq h) t.first; then = t.then }
split (f ∷ front) tail k (broken n p) h = absurd (nil≢cons h)
split (f ∷ front) tail k over h = absurd (nil≢cons h)

apart : {X : Type 0} {n p q : ℕ} {r : Raw} {s : Scan} → broken n p ≡ more r q s → X
apart h = cc

keeps_more : {r : Raw} {q : ℕ} {t : Scan} (n p : ℕ) (s : Scan) → keeps n p s ≡ more r q t → s ≡ more r q t
keeps_more zero p s h = h
keeps_more (suc n) p s h = apart h

-- the tokens that keep the limits are the scan's own
pub limited_onto : (rs : List Piece) (s t : Scan) → limited s ≡ onto rs t → (u : Scan) × (s ≡ onto rs u) × (limited u ≡ t)
limited_onto [] s t h = (s, refl, h)
limited_onto (piece r p ∷ rs) (more o q s) t h =
    let k = keeps_more (limit o) q (more o q (limited s)) h in
    let x : o ≡ r = cc in let y : q ≡ p = cc in let z : limited s ≡ onto rs t = cc in
    let u = limited_onto rs s t z in
    (u.0, ap₂ (λ a b. more a b s) x y ∙ ap (more r p) u.1, u.2)
limited_onto (piece r p ∷ rs) (broken n q) t h = apart h
limited_onto (piece r p ∷ rs) over t h = cc

-- the next token, or that there is none
pub next_more : (k : Known) (s : Scan) {t : Tok} {p : ℕ} {rest : List Item} → items k s ≡ at t p ∷ rest → (r : Raw) × (u : Scan) × (s ≡ more r p u) × (tok k r ≡ t)
next_more k (more r q s) {t} {p} h = let e = head-eq_of_cons-eq h in let x : q ≡ p = cc in let y : tok k r ≡ t = cc in (r, s, ap (λ o. more r o s) x, y)
next_more k (broken n q) h = absurd (nil≢cons h)
next_more k over h = absurd (nil≢cons h)

pub next_broken : (k : Known) (s : Scan) {n p : ℕ} → items k s ≡ [] → ends s ≡ bad n p → s ≡ broken n p
next_broken k (more r q s) h e = absurd (cons≢nil h)
next_broken k (broken m q) {n} {p} h e = let x : m ≡ n = cc in let y : q ≡ p = cc in ap₂ broken x y
next_broken k over h e = absurd (over_bad e)

places_onto : (p e : ℕ) (rs : List Piece) (r : Raw) (q : ℕ) (s : Scan) → Places p e (onto rs (more r q s)) → q ≤ e
places_onto p e [] r q s h = h.1
places_onto p e (piece o b ∷ rs) r q s h = places_onto (suc b) e rs r q s h.2

-- a token and what is before it, in the scan without limits
pub record Found (k : Known) (s : Scan) (front : List Item) (t : Tok) (p : ℕ) : Type 0 where
  pub before : List Piece
  pub raw : Raw
  pub behind : Scan
  pub whole : s ≡ onto before (more raw p behind)
  pub shown : placed k before ≡ front
  pub means : tok (taught k before) raw ≡ t

pub find_token : (front rest : List Item) (t : Tok) (p : ℕ) (k : Known) (s : Scan) → items k (limited s) ≡ front ++ (at t p ∷ rest) → Found k s front t p
find_token front rest t p k s h =
    let x = split front (at t p ∷ rest) k (limited s) h in
    let y = next_more (taught k x.pieces) x.rest x.then in
    let l = limited_onto x.pieces s x.rest x.is in
    let m = limited_onto (piece y.0 p ∷ []) l.0 y.1 (l.2 ∙ y.2) in
    record { before = x.pieces; raw = y.0; behind = m.0; whole = l.1 ∙ ap (onto x.pieces) m.1; shown = x.first; means = y.3 }

-- no token stands past the last byte
pub token_place : (bs : List ℕ) (front rest : List Item) (t : Tok) (p : ℕ) (k : Known) → items k (limited (scan 0 bs)) ≡ front ++ (at t p ∷ rest) → p ≤ length bs
token_place bs front rest t p k h =
    let x = find_token front rest t p k (scan 0 bs) h in
    let e = places_onto 0 (0 + length bs) x.before x.raw p x.behind (subst (Places 0 (0 + length bs)) x.whole (places 0 bs)) in
    omega arith
