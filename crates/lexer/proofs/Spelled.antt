-- Every front of a text can be completed in bytes as it can in tokens.
use Rattle.std.proofs.Common.{◌≡◌, ℕ, zero, suc, ◌+◌, ◌<◌, ◌≤◌, Bool, true, false, List, [], ◌∷◌, ◌++◌, length, codes, sym, refl, ap, ◌∙◌, subst, ap₂, append-nil}
use borrow.Author.Tests.{clash}
use Rattle.tosca.specs.declared.operators.SimpleType.TheVariants.{Integer, Boolean}
use Rattle.tosca.specs.declared.operators.Value.TheVariants.{Number, Truth}
use Rattle.grammar.specs.declared.symbols.Prefix.TheVariants.{Open, Not, Round}
use Rattle.grammar.specs.declared.symbols.Start.TheVariants.{Begin, If, While, Read, Write}
use Rattle.grammar.specs.declared.symbols.Mark.TheVariants.{Program, Var, Semicolon, Comma, Colon, Becomes, Close, Slash, Then, Do, End, Period, Stop}
use Rattle.grammar.specs.Tokens.{Tok, lit, op, pre, start, else', unused, ty, mark, Item, at}
use Rattle.grammar.specs.Tokens as g
use Rattle.grammar.specs.Limits.{Simple, AllSimple, placed_from, bad, is_stop as is_stop_tok}
use Rattle.grammar.specs.Limits as limits
use Rattle.lexer.specs.Spelling.{lowered}
use Rattle.lexer.specs.Lexemes.{Raw, name, number, other, lexeme, lex}
use Rattle.lexer.specs.Scan.{Scan, more, broken, over, is_stop, scan, limit, keeps, limited}
use Rattle.lexer.specs.Names.{index, Known, known, nothing, numbered, after, tok, learns, items, ends}
use Rattle.lexer.specs.NameLaws.{Piece, piece, onto, placed, taught}
use Rattle.lexer.specs.Completion.{Completed}
use Rattle.lexer.proofs.Scanning.{tok_stops}
use Rattle.lexer.proofs.Numbering.{index_noted}
use Rattle.lexer.proofs.Cutting.{Cut, Starts, cut_before, cut_after, scan_step, scan_same}
use Rattle.lexer.proofs.Splitting.{items_onto, ends_onto, placed_end, split, limited_onto, next_broken, find_token}

-- how a simple token is spelled
abbrev pub spelling : Tok → List ℕ
spelling (g.name n) = codes "x"
spelling (lit l) = codes "0"
spelling (op o) = []
spelling (pre x) = codes "("
spelling (start x) = codes "begin"
spelling else' = []
spelling unused = []
spelling (ty x) = codes "integer"
spelling (mark Program) = codes "program"
spelling (mark Var) = codes "var"
spelling (mark Semicolon) = codes ";"
spelling (mark Comma) = codes ","
spelling (mark Colon) = codes ":"
spelling (mark Becomes) = codes ":="
spelling (mark Close) = codes ")"
spelling (mark Slash) = codes "/"
spelling (mark Then) = codes "then"
spelling (mark Do) = codes "do"
spelling (mark End) = codes "end"
spelling (mark Period) = codes "."
spelling (mark Stop) = []

-- tokens, each before a blank
abbrev pub spelled : List Tok → List ℕ
spelled [] = []
spelled (t ∷ ts) = spelling t ++ (32 ∷ spelled ts)

-- the places of their first bytes, and that of the end
abbrev spots : ℕ → List Tok → ℕ → ℕ
spots q [] i = q
spots q (t ∷ ts) zero = q
spots q (t ∷ ts) (suc i) = spots (q + length (spelling t) + 1) ts i

-- the token as it is written
abbrev written : Tok → Raw
written (g.name n) = name (codes "x")
written (lit l) = number (codes "0")
written (op o) = other (op o)
written (pre x) = other (pre x)
written (start x) = other (start x)
written else' = other else'
written unused = other unused
written (ty x) = other (ty x)
written (mark m) = other (mark m)

lex_spelled : (n q : ℕ) (t : Tok) (cs : List ℕ) → Simple n t → lex q (spelling t ++ (32 ∷ cs)) ≡ lexeme (written t) q (q + length (spelling t)) (32 ∷ cs)
lex_spelled n q (g.name m) cs s = refl
lex_spelled n q (lit l) cs s = refl
lex_spelled n q (op o) cs s = absurd s
lex_spelled n q (pre Open) cs s = refl
lex_spelled n q (pre Not) cs s = absurd s
lex_spelled n q (pre Round) cs s = absurd s
lex_spelled n q (start Begin) cs s = refl
lex_spelled n q (start If) cs s = absurd s
lex_spelled n q (start While) cs s = absurd s
lex_spelled n q (start Read) cs s = absurd s
lex_spelled n q (start Write) cs s = absurd s
lex_spelled n q else' cs s = absurd s
lex_spelled n q unused cs s = absurd s
lex_spelled n q (ty Integer) cs s = refl
lex_spelled n q (ty Boolean) cs s = absurd s
lex_spelled n q (mark Program) cs s = refl
lex_spelled n q (mark Var) cs s = refl
lex_spelled n q (mark Semicolon) cs s = refl
lex_spelled n q (mark Comma) cs s = refl
lex_spelled n q (mark Colon) cs s = refl
lex_spelled n q (mark Becomes) cs s = refl
lex_spelled n q (mark Close) cs s = refl
lex_spelled n q (mark Slash) cs s = refl
lex_spelled n q (mark Then) cs s = refl
lex_spelled n q (mark Do) cs s = refl
lex_spelled n q (mark End) cs s = refl
lex_spelled n q (mark Period) cs s = refl
lex_spelled n q (mark Stop) cs s = absurd (clash (sym s))

-- before the program's name no other is known
abbrev pub Ready : Known → Type 0
Ready k = k.titled ≡ false → k.names ≡ []

-- a name that comes again keeps its number
again_at : (t : Bool) (ns : List (List ℕ)) (w : List ℕ) → Ready (known t ns) → numbered (after (known t ns) w) w ≡ numbered (known t ns) w
again_at true ns w h = index_noted (lowered w) ns
again_at false ns w h = ap (index (lowered w)) (h refl)

again : (k : Known) (w : List ℕ) → Ready k → numbered (after k w) w ≡ numbered k w
again k w h = again_at k.titled k.names w h

ready_after : (t : Bool) (ns : List (List ℕ)) (w : List ℕ) → Ready (after (known t ns) w)
ready_after true ns w h = absurd (clash (sym h))
ready_after false ns w h = absurd (clash (sym h))

ready_learns : (k : Known) (r : Raw) → Ready k → Ready (learns k r)
ready_learns k (name w) h = ready_after k.titled k.names w
ready_learns k (number w) h = h
ready_learns k (other t) h = h

ready_taught : (k : Known) (rs : List Piece) → Ready k → Ready (taught k rs)
ready_taught k [] h = h
ready_taught k (piece r p ∷ rs) h = ready_taught (learns k r) rs (ready_learns k r h)

-- and so the number of x stays
stays : (k : Known) (t : Tok) → Ready k → numbered (learns k (written t)) (codes "x") ≡ numbered k (codes "x")
stays k (g.name m) h = again k (codes "x") h
stays k (lit l) h = refl
stays k (op o) h = refl
stays k (pre x) h = refl
stays k (start x) h = refl
stays k else' h = refl
stays k unused h = refl
stays k (ty x) h = refl
stays k (mark m) h = refl

tok_written : (n : ℕ) (k : Known) (t : Tok) → numbered k (codes "x") ≡ n → Simple n t → tok k (written t) ≡ t
tok_written n k (g.name m) e s = ap g.name (e ∙ sym s)
tok_written n k (lit (Number z)) e s = ap (λ u. lit (Number u)) (sym s)
tok_written n k (lit (Truth b)) e s = absurd s
tok_written n k (op o) e s = refl
tok_written n k (pre x) e s = refl
tok_written n k (start x) e s = refl
tok_written n k else' e s = refl
tok_written n k unused e s = refl
tok_written n k (ty x) e s = refl
tok_written n k (mark m) e s = refl

written_goes : (n : ℕ) (t : Tok) → Simple n t → is_stop (written t) ≡ false
written_goes n (g.name m) s = refl
written_goes n (lit l) s = refl
written_goes n (op o) s = refl
written_goes n (pre x) s = refl
written_goes n (start x) s = refl
written_goes n else' s = refl
written_goes n unused s = refl
written_goes n (ty x) s = refl
written_goes n (mark m) s = s

placed_shift : (f : ℕ → ℕ) (i : ℕ) (ts : List Tok) → placed_from f (suc i) ts ≡ placed_from (λ j. f (suc j)) i ts
placed_shift f i [] = refl
placed_shift f i (t ∷ ts) = ap (λ xs. at t (f (suc i)) ∷ xs) (placed_shift f (suc i) ts)

scan_spelled : (n q : ℕ) (t : Tok) (cs : List ℕ) → Simple n t → scan q (spelling t ++ (32 ∷ cs)) ≡ more (written t) q (scan (q + length (spelling t) + 1) cs)
scan_spelled n q t cs s =
    scan_step q (spelling t ++ (32 ∷ cs)) (lex_spelled n q t cs s) (written_goes n t s)
    ∙ ap (more (written t) q) (scan_same (q + length (spelling t)) (32 ∷ cs) (q + length (spelling t) + 1) cs refl)

-- the tokens of what is spelled, up to the end
items_spelled : (us : List Tok) (n q : ℕ) (k : Known) → Ready k → numbered k (codes "x") ≡ n → AllSimple n us → items k (scan q (spelled us)) ≡ placed_from (spots q us) 0 (us ++ (mark Stop ∷ []))
items_spelled [] n q k h e a = refl
items_spelled (t ∷ us) n q k h e a =
    let o = q + length (spelling t) + 1 in
    ap (items k) (scan_spelled n q t (spelled us) a.0)
    ∙ ap₂ {C = List Item} (λ u xs. at u q ∷ xs) (tok_written n k t e a.0) (items_spelled us n o (learns k (written t)) (ready_learns k (written t) h) (stays k t h ∙ e) a.1)
    ∙ ap (λ xs. at t q ∷ xs) (sym (placed_shift (spots q (t ∷ us)) 0 (us ++ (mark Stop ∷ []))))

ends_spelled : (us : List Tok) (n q : ℕ) → AllSimple n us → ends (scan q (spelled us)) ≡ limits.over
ends_spelled [] n q a = refl
ends_spelled (t ∷ us) n q a = ap ends (scan_spelled n q t (spelled us) a.0) ∙ ends_spelled us n (q + length (spelling t) + 1) a.1

pub completed_cut : (bs : List ℕ) (rs : List Piece) (c : ℕ) → Cut bs rs c → (give : (n : ℕ) → (us : List Tok) × AllSimple n us) → Completed bs c (placed nothing rs) give
completed_cut bs rs c cut give =
    let k = taught nothing rs in
    let n = numbered k (codes "x") in
    let us = (give n).0 in
    let cs = 32 ∷ spelled us in (
      n,
      cs,
      spots (c + 1) us,
      ap (items nothing) (cut (spelled us)) ∙ items_onto nothing rs (scan (c + 1) (spelled us)) ∙ ap (λ xs. placed nothing rs ++ xs) (items_spelled us n (c + 1) k (ready_taught nothing rs (λ _. refl)) refl (give n).1),
      ap ends (cut (spelled us)) ∙ ends_onto rs (scan (c + 1) (spelled us)) ∙ ends_spelled us n (c + 1) (give n).1,
    )

-- a text can be completed before any token
pub completed : (bs : List ℕ) (front rest : List Item) (t : Tok) (p : ℕ) → items nothing (limited (scan 0 bs)) ≡ front ++ (at t p ∷ rest) → (give : (n : ℕ) → (us : List Tok) × AllSimple n us) → Completed bs p front give
completed bs front rest t p h give =
    let x = find_token front rest t p nothing (scan 0 bs) h in
    let c = cut_before bs x.before p (more x.raw p x.behind) x.whole refl in
    subst (λ f. Completed bs p f give) x.shown (completed_cut bs x.before p c give)

starts_keeps : (p n q : ℕ) (r : Raw) (s t : Scan) → Starts p (keeps n q (more r q s)) → Starts p (more r q t)
starts_keeps p zero q r s t h = h
starts_keeps p (suc n) q r s t h = h

starts_limited : (p : ℕ) (s : Scan) → Starts p (limited s) → Starts p s
starts_limited p (more r q s) h = starts_keeps p (limit r) q r (limited s) s h
starts_limited p (broken n q) h = h
starts_limited p over h = h

-- what is first in the limited scan is there in the scan
cut_limited : (bs : List ℕ) (rs : List Piece) (p : ℕ) (s : Scan) → limited (scan 0 bs) ≡ onto rs s → Starts p s → Cut bs rs p
cut_limited bs rs p s e h =
    let l = limited_onto rs (scan 0 bs) s e in
    cut_before bs rs p l.0 l.1 (starts_limited p l.0 (subst (Starts p) (sym l.2) h))

-- before bytes that are refused
pub completed_end : (bs : List ℕ) (front : List Item) (m p : ℕ) → items nothing (limited (scan 0 bs)) ≡ front → ends (limited (scan 0 bs)) ≡ bad m p → (give : (n : ℕ) → (us : List Tok) × AllSimple n us) → Completed bs p front give
completed_end bs front m p h e give =
    let x = split front [] nothing (limited (scan 0 bs)) (h ∙ sym (append-nil front)) in
    let y = next_broken (taught nothing x.pieces) x.rest x.then (sym (ends_onto x.pieces x.rest) ∙ ap ends (sym x.is) ∙ e) in
    let c = cut_limited bs x.pieces p x.rest x.is (subst (Starts p) (sym y) refl) in
    subst (λ f. Completed bs p f give) x.first (completed_cut bs x.pieces p c give)

-- and after any token but the end
pub completed_after : (bs : List ℕ) (front rest : List Item) (t : Tok) (p : ℕ) → items nothing (limited (scan 0 bs)) ≡ front ++ (at t p ∷ rest) → is_stop_tok t ≡ false → (give : (n : ℕ) → (us : List Tok) × AllSimple n us) → (a : ℕ) × (p < a) × (a ≤ length bs) × Completed bs a (front ++ (at t p ∷ [])) give
completed_after bs front rest t p h go give =
    let x = find_token front rest t p nothing (scan 0 bs) h in
    let rs = x.before in let r = x.raw in let k = taught nothing rs in
    let c = cut_after bs rs r p x.behind x.whole (sym (tok_stops k r) ∙ ap is_stop_tok x.means ∙ go) in
    let f : placed nothing (rs ++ (piece r p ∷ [])) ≡ front ++ (at t p ∷ []) = placed_end nothing rs r p ∙ ap₂ (λ xs u. xs ++ (at u p ∷ [])) x.shown x.means in
    (c.0, c.1, c.2, subst (λ z. Completed bs c.0 z give) f (completed_cut bs (rs ++ (piece r p ∷ [])) c.0 c.3 give))
