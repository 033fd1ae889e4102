-- What reading one token does to what is ahead.
use Rattle.std.proofs.Common.{◌≡◌, ℕ, zero, suc, ◌+◌, ◌*◌, ◌≤◌, false, cond, List, length, Some, None, Ok, Err, sym, refl, ap, ◌∙◌, subst, arith, Bor}
use Rattle.grammar.specs.Tokens.{at}
use Rattle.grammar.specs.Tokens as g
use Rattle.lexer.specs.declared.token.Token.TheVariants as t
use Rattle.lexer.specs.declared.token.Question.TheVariants.{NameCount}
use Rattle.lexer.specs.declared.token.Lexeme.{Lexeme}
use Rattle.lexer.specs.declared.token.Refusal.{Refusal}
use Rattle.lexer.specs.Lexemes.{Raw, meant, lex_meant, number_of, lex}
use Rattle.lexer.specs.Scan.{Scan, is_stop, follow, onward, scan, size, limit, keeps, limited}
use Rattle.lexer.specs.Scan as s
use Rattle.lexer.specs.Limited.{asked}
use Rattle.lexer.specs.Names.{Known, nothing, numbered, after, tok, learns, items}
use Rattle.lexer.proofs.Scanning.{size_scan}
use Rattle.parser.specs.declared.names.Names.{Names}
use Rattle.parser.specs.declared.parser.Parser.{Parser}
use Rattle.parser.specs.Feeds.{more, known_of, from, written, feed, ahead, next, unread, Ready}
use Rattle.parser.specs.Advancing.{refuses, broken, Read, Nameless, many, cut, Named}
use Rattle.parser.specs.Numbering.{Numbered}
use Rattle.parser.specs.Fetching.{Fetched, Fetches, Fresh}
use Rattle.parser.proofs.StepScan.{limited_scan, Near, near_lex}

-- the lexeme is the first of the bytes bs, which begin at place a
pub record First (a : ℕ) (bs : List ℕ) (l : Lexeme) : Type 0 where
  pub tokens : limited (scan a bs) ≡ from l
  pub near : l.place ≤ a + length bs
  pub within : l.end.place + length l.end.rest.now ≤ a + length bs
  pub kept : limit (meant l.token) ≡ 0

pub first : (a : ℕ) (bs : List ℕ) (l : Lexeme) → lex_meant (Ok l) ≡ asked (lex a bs) → First a bs l
first a bs l e =
    let n = subst (Near (a + length bs)) (sym e) (near_lex a bs) in
    record { tokens = limited_scan a bs ∙ ap (λ x. onward x (λ a cs. limited (scan a cs))) (sym e); near = n.0; within = n.1; kept = n.2 }

pub breaks : (a : ℕ) (bs : List ℕ) (e : Refusal) → lex_meant (Err e) ≡ asked (lex a bs) → limited (scan a bs) ≡ s.broken (number_of e.question) e.place
breaks a bs e h = limited_scan a bs ∙ ap (λ x. onward x (λ a cs. limited (scan a cs))) (sym h)

follow_more : (r : Raw) (q : ℕ) (x : Scan) → is_stop r ≡ false → follow r q x ≡ s.more r q x
follow_more r q x h = ap (λ b. s.more r q (cond b s.over x)) h

-- the parser with another next token
abbrev onto : Parser → Lexeme → Parser
onto p l = record { lookahead = l; names = p.names; count = p.count }

pub fetched : (p : Parser) (l : Lexeme) → p.lookahead.end.place + length p.lookahead.end.rest.now ≤ 16384 → is_stop (meant p.lookahead.token) ≡ false → lex_meant (Ok l) ≡ asked (lex p.lookahead.end.place p.lookahead.end.rest.now) → Fetched p (onto p l)
fetched p l h go e =
    let f = first p.lookahead.end.place p.lookahead.end.rest.now l e in
    record {
      tokens = follow_more (meant p.lookahead.token) p.lookahead.place _ go ∙ ap (s.more (meant p.lookahead.token) p.lookahead.place) f.tokens;
      near = let n = f.near in omega arith;
      within = let n = f.within in omega arith;
      kept = f.kept;
      names = refl;
      count = refl;
    }

pub not_fetched : (p : Parser) (e : Refusal) → is_stop (meant p.lookahead.token) ≡ false → lex_meant (Err e) ≡ asked (lex p.lookahead.end.place p.lookahead.end.rest.now) → written p ≡ s.more (meant p.lookahead.token) p.lookahead.place (s.broken (number_of e.question) e.place)
not_fetched p e go h = follow_more (meant p.lookahead.token) p.lookahead.place _ go ∙ ap (s.more (meant p.lookahead.token) p.lookahead.place) (breaks p.lookahead.end.place p.lookahead.end.rest.now e h)

-- the parser with other names
abbrev pub naming : Parser → Names → Parser
naming p m = record { lookahead = p.lookahead; names = m; count = p.count }

-- the next token of p is read, and what it makes of the names is m
reads : (p q : Parser) (m : Names) → Ready p → Fetched (naming p m) q → m.count ≤ 64 → known_of m ≡ learns (known_of p.names) (meant p.lookahead.token) → Read p (next p) q
reads p q m h f few k =
    let learnt : learns (known_of p.names) (meant p.lookahead.token) ≡ known_of q.names = sym (ap known_of f.names ∙ k) in
    let is : ahead p ≡ more (at (next p) p.lookahead.place) (ahead q) = ap (feed (known_of p.names)) f.tokens ∙ ap (λ x. more (at (next p) p.lookahead.place) (feed x (written q))) learnt in
    let one : unread p ≡ suc (unread q) = ap (λ x. length x.tokens) is in
    let same : q.count ≡ p.count = f.count in
    let room : q.count + 2 * unread q ≤ 40000 = let r = h.room in omega arith in
    let named : q.names.count ≡ m.count = ap (λ x. x.count) f.names in
    record { token = is; one = one; ready = record { near = f.near; within = f.within; few = omega arith; kept = f.kept; room = room }; count = same }

-- a name
pub next_name : (p : Parser) (w : Bor (List ℕ)) (n : ℕ) → p.lookahead.token ≡ t.Name w → n ≡ numbered (known_of p.names) w.now → next p ≡ g.name n
next_name p w n is e = ap (λ x. tok (known_of p.names) (meant x)) is ∙ ap g.name (sym e)

pub named : (p q : Parser) (w : Bor (List ℕ)) (m : Names) (n : ℕ) → Ready p → p.lookahead.token ≡ t.Name w → Numbered p.names w.now m (Some n) → Fetched (naming p m) q → Named p q (Ok n)
named p q w m n h is k f =
    let known = k.2 ∙ ap (λ x. learns (known_of p.names) (meant x)) (sym is) in
    (k.1, subst (λ x. Read p x q) (next_name p w n is k.0) (reads p q m h f k.3 known))

pub name_cut : (p : Parser) (w : Bor (List ℕ)) (m : Names) (n : ℕ) (e : Refusal) → p.lookahead.token ≡ t.Name w → Numbered p.names w.now m (Some n) → Fetches {A = Unit {0}} (naming p m) (naming p m) (Err e) → Nameless p e
name_cut p w m n e is k f = cut n k.1 (ap (feed (known_of p.names)) f ∙ ap (λ x. more (at x p.lookahead.place) (broken e)) (next_name p w n is k.0))

pub name_many : (p : Parser) (w : Bor (List ℕ)) (m : Names) (e : Refusal) → p.lookahead.token ≡ t.Name w → Numbered p.names w.now m None → e ≡ refuses NameCount p.lookahead.place → Nameless p e
name_many p w m e is k r =
    let x = limited (scan p.lookahead.end.place p.lookahead.end.rest.now) in
    many (numbered (known_of p.names) w.now) k.0 (feed (after (known_of p.names) w.now) x) (ap (λ u. feed (known_of p.names) (follow (meant u) p.lookahead.place x)) is) r

-- the first token
limited_size : (x : Scan) → size (limited x) ≤ size x
limited_size (s.more r q x) = fewer (limit r) q (limited_size x)
  where
    fewer : (n o : ℕ) → size (limited x) ≤ size x → size (keeps n o (s.more r q (limited x))) ≤ suc (size x)
    fewer zero o h = omega arith
    fewer (suc n) o h = omega arith
limited_size (s.broken n q) = omega arith
limited_size s.over = omega arith

items_size : (k : Known) (x : Scan) → length (items k x) ≡ size x
items_size k (s.more r q x) = ap suc (items_size (learns k r) x)
items_size k (s.broken n q) = refl
items_size k s.over = refl

-- what a cursor at the front of a text reads
pub at_front : (p : ℕ) (bs text : List ℕ) → p ≡ 0 → bs ≡ text → asked (lex p bs) ≡ asked (lex 0 text)
at_front p bs text e h = rw (e, h) refl

pub begun : (text : List ℕ) (p : Parser) → length text ≤ 16384 → known_of p.names ≡ nothing → p.names.count ≡ 0 → p.count ≡ 0 → lex_meant (Ok p.lookahead) ≡ asked (lex 0 text) → Fresh text p
begun text p h k few none e =
    let f = first 0 text p.lookahead e in
    let is : ahead p ≡ feed nothing (limited (scan 0 text)) = ap (λ x. feed x (written p)) k ∙ ap (feed nothing) (sym f.tokens) in
    let size₁ : unread p ≡ size (limited (scan 0 text)) = ap (λ x. length x.tokens) is ∙ items_size nothing (limited (scan 0 text)) in
    let size₂ = limited_size (scan 0 text) in
    let size₃ = size_scan 0 text in
    let near' = f.near in
    let within' = f.within in
    record { tokens = is; ready = record { near = omega arith; within = omega arith; few = omega arith; kept = f.kept; room = omega arith }; count = none; names = k }

pub not_begun : (text : List ℕ) (e : Refusal) → lex_meant (Err e) ≡ asked (lex 0 text) → feed nothing (limited (scan 0 text)) ≡ broken e
not_begun text e h = ap (feed nothing) (breaks 0 text e h)
