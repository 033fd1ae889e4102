-- The parser's small steps as moves of the automaton.
use Rattle.std.proofs.Common.{◌≡◌, ℕ, ◌≤◌, true, false, cond, List, ◌∷◌, ◌++◌, sym, refl, ap, ◌∙◌, subst, arith, Bor}
use Rattle.tosca.specs.declared.table.Entry.{Entry}
use Rattle.grammar.specs.declared.symbols.Mark.{Mark as Symbol}
use Rattle.grammar.specs.declared.symbols.Start.{Start as Opener}
use Rattle.grammar.specs.Tokens.{Tok, name, lit, op, pre, start, else', unused, ty, mark, at, is_else, is_cmd}
use Rattle.grammar.specs.Building.{Act}
use Rattle.grammar.specs.Automaton.{Sym, is, does, marks, step, at_mark, at_name, Move, stuck, go, after}
use Rattle.grammar.specs.Listing.{Listing, listing, list}
use Rattle.grammar.specs.Limits.{few, limits}
use Rattle.lexer.specs.declared.token.Refusal.{Refusal}
use Rattle.lexer.specs.declared.token.Question.TheVariants.{Grammar}
use Rattle.lexer.specs.declared.token.Token.{Token}
use Rattle.lexer.specs.declared.token.Token.TheVariants.{Name, Number, Truth, Operator, Prefix, Start, Else, TypeName, Mark, Unused}
use Rattle.lexer.specs.Lexemes.{meant, other}
use Rattle.lexer.specs.Scan.{over, scan, is_stop, limited}
use Rattle.lexer.specs.Names.{Known, tok, learns}
use Rattle.parser.specs.declared.parser.Parser.{Parser}
use Rattle.parser.specs.Feeds.{Feed, more, feed, known_of, ahead, next}
use Rattle.parser.specs.Advancing.{is_mark, is_name, plain, refuses, broken, Read, Broken, Missed, another, cut}
use Rattle.parser.specs.Parsing.{reading, Goes, Stops}
use Rattle.parser.proofs.Chains.{from_feed, from_count, stop_feed, moves, takes, reads, stucks, doing}

-- what follows the next token
abbrev pub behind : Parser → Feed
behind p = feed (learns (known_of p.names) (meant p.lookahead.token)) (cond (is_stop (meant p.lookahead.token)) over (limited (scan p.lookahead.end.place p.lookahead.end.rest.now)))

pub front : (p : Parser) (t : Tok) → next p ≡ t → ahead p ≡ more (at t p.lookahead.place) (behind p)
front p t e = ap (λ x. more (at x p.lookahead.place) (behind p)) e

pub clash : {A : Type 0} → true ≡ false → A
clash e = let z : ◌≡◌ {A = ℕ} 0 1 = ap (λ b. cond b 0 1) e in absurd (omega arith)

-- a token is read
pub reads_on : {J K : List Sym} {U : List ℕ} {T : List Entry} {p q : Parser} {t : Tok} → Read p t q → ((s : Listing) → step list J s t p.lookahead.place ≡ go K s) → marks K ≤ 32 → few t ≡ true → Goes J U p.count T (ahead p) K U q.count T (ahead q)
reads_on r e m k = from_feed r.token (from_count (sym r.count) (reads e m k))

-- a token is read, and something is done with it
pub reads_act : {J K : List Sym} {U : List ℕ} {T : List Entry} {p q : Parser} {t : Tok} (a : Act) → Read p t q → ((s : Listing) → step list J s t p.lookahead.place ≡ go K (list a s)) → marks K ≤ 32 → few t ≡ true → Goes J U p.count T (ahead p) (does a ∷ K) U q.count T (ahead q)
reads_act {J} {K} {p} {q} {t} a r e m k = from_feed r.token (from_count (sym r.count) (moves (λ s. takes J K s (list a s) t p.lookahead.place (ahead q) (e s) m k ∙ sym (doing a K s (ahead q).tokens (ahead q).ending))))

-- a token is read, and what follows it is refused
pub cuts_off : {J : List Sym} {U : List ℕ} {c : ℕ} {T : List Entry} (p : Parser) (t : Tok) (r : Refusal) (K : List Sym) (s' : Listing → Listing) → Broken p t r → ((s : Listing) → step list J s t p.lookahead.place ≡ go K (s' s)) → marks K ≤ 32 → few t ≡ true → Stops J U c T (ahead p) r
cuts_off {J} {U} p t r K s' b e m k = stop_feed b (record { stops = λ V was es h. takes J K (listing (U ++ V) es) (s' (listing (U ++ V) es)) t p.lookahead.place (broken r) (e (listing (U ++ V) es)) m k })

-- no text has the next token there
pub refused_here : {J : List Sym} {U : List ℕ} {c : ℕ} {T : List Entry} {r : Refusal} (p : Parser) → ((s : Listing) → step list J s (next p) p.lookahead.place ≡ stuck) → r ≡ refuses Grammar p.lookahead.place → Stops J U c T (ahead p) r
refused_here {J} {U} {c} {T} p e i = subst (λ x. Stops J U c T (ahead p) x) (sym i) (stop_feed (front p (next p) refl) (stucks e))

-- what is expected may change where the next token makes no difference
pub turns : {J K : List Sym} {U : List ℕ} {c : ℕ} {T : List Entry} (p : Parser) → ((s : Listing) → step list J s (next p) p.lookahead.place ≡ step list K s (next p) p.lookahead.place) → Goes J U c T (ahead p) K U c T (ahead p)
turns {J} {K} p e = moves (λ s. ap (λ v. after list (limits (behind p).ending) (at (next p) p.lookahead.place) (behind p).tokens v (λ K'' s''. reading K'' s'' (behind p))) (e s))

pub not_mark : (m : Symbol) (t : Tok) (a b : Move Listing) → is_mark m t ≡ false → at_mark list m t a b ≡ b
not_mark m (mark x) a b h = ap (λ c. cond c a b) h
not_mark m (name n) a b h = refl
not_mark m (lit l) a b h = refl
not_mark m (op o) a b h = refl
not_mark m (pre x) a b h = refl
not_mark m (start x) a b h = refl
not_mark m else' a b h = refl
not_mark m unused a b h = refl
not_mark m (ty y) a b h = refl

pub is_mark_lem : (m : Symbol) (t : Tok) (a b : Move Listing) → is_mark m t ≡ true → at_mark list m t a b ≡ a
is_mark_lem m (mark x) a b h = ap (λ c. cond c a b) h
is_mark_lem m (name n) a b h = clash (sym h)
is_mark_lem m (lit l) a b h = clash (sym h)
is_mark_lem m (op o) a b h = clash (sym h)
is_mark_lem m (pre x) a b h = clash (sym h)
is_mark_lem m (start x) a b h = clash (sym h)
is_mark_lem m else' a b h = clash (sym h)
is_mark_lem m unused a b h = clash (sym h)
is_mark_lem m (ty y) a b h = clash (sym h)

pub mark_few : (m : Symbol) (t : Tok) → is_mark m t ≡ true → few t ≡ true
mark_few m (mark x) h = refl
mark_few m (name n) h = clash (sym h)
mark_few m (lit l) h = refl
mark_few m (op o) h = refl
mark_few m (pre x) h = refl
mark_few m (start x) h = refl
mark_few m else' h = refl
mark_few m unused h = refl
mark_few m (ty y) h = refl

pub not_name : (t : Tok) (f : ℕ → Move Listing) (b : Move Listing) → is_name t ≡ false → at_name list t f b ≡ b
not_name (name n) f b h = clash h
not_name (mark x) f b h = refl
not_name (lit l) f b h = refl
not_name (op o) f b h = refl
not_name (pre x) f b h = refl
not_name (start x) f b h = refl
not_name else' f b h = refl
not_name unused f b h = refl
not_name (ty y) f b h = refl

-- a mark that alone may stand there is missing, or what follows it is refused
pub misses : {J : List Sym} {U : List ℕ} {c : ℕ} {T : List Entry} {m : Symbol} {r : Refusal} (p : Parser) (K : List Sym) → Missed m p r → (is_mark m (next p) ≡ false → (s : Listing) → step list J s (next p) p.lookahead.place ≡ stuck) → ((s : Listing) → step list J s (mark m) p.lookahead.place ≡ go K s) → marks K ≤ 32 → Stops J U c T (ahead p) r
misses p K (another h i) n e k = refused_here p (n h) i
misses {m} {r} p K (cut b) n e k = cuts_off p (mark m) r K (λ s. s) b e k refl

pub misses_mark : {K : List Sym} {U : List ℕ} {c : ℕ} {T : List Entry} {r : Refusal} (m : Symbol) (p : Parser) → Missed m p r → ((s : Listing) → step list (is m ∷ K) s (mark m) p.lookahead.place ≡ go K s) → marks K ≤ 32 → Stops (is m ∷ K) U c T (ahead p) r
misses_mark {K} m p x e k = misses p K x (λ h s. not_mark m (next p) (go K s) stuck h) e k

-- the next token by the parser's own
pub reads_as : (p q : Parser) (t : Tok) → meant p.lookahead.token ≡ other t → Read p (next p) q → Read p t q
reads_as p q t e r = subst (λ x. Read p x q) (ap (tok (known_of p.names)) e) r

pub is_else_lem : (t : Tok) → is_else t ≡ true → t ≡ else'
is_else_lem else' h = refl
is_else_lem (name x) h = absurd (cc)
is_else_lem (lit x) h = absurd (cc)
is_else_lem (op x) h = absurd (cc)
is_else_lem (pre x) h = absurd (cc)
is_else_lem (start x) h = absurd (cc)
is_else_lem unused h = absurd (cc)
is_else_lem (ty x) h = absurd (cc)
is_else_lem (mark x) h = absurd (cc)

pub plain_else : (k : Known) (t : Token) → is_else (tok k (meant t)) ≡ true → plain (meant t) ≡ true
plain_else k Else h = refl
plain_else k (Name w) h = absurd (cc)
plain_else k (Number w) h = refl
plain_else k (Truth b) h = refl
plain_else k (Operator o) h = refl
plain_else k (Prefix x) h = refl
plain_else k (Start x) h = refl
plain_else k (TypeName y) h = refl
plain_else k (Mark x) h = absurd (cc)
plain_else k Unused h = refl

pub no_name : (k : Known) (t : Token) → ((w : Bor (List ℕ)) → t ≡ Name w → ⊥) → is_name (tok k (meant t)) ≡ false
no_name k (Name w) h = absurd (h w refl)
no_name k (Number w) h = refl
no_name k (Truth b) h = refl
no_name k (Operator o) h = refl
no_name k (Prefix x) h = refl
no_name k (Start x) h = refl
no_name k Else h = refl
no_name k (TypeName y) h = refl
no_name k (Mark x) h = refl
no_name k Unused h = refl

pub no_command : (k : Known) (t : Token) → ((w : Bor (List ℕ)) → t ≡ Name w → ⊥) → ((x : Opener) → t ≡ Start x → ⊥) → is_cmd (tok k (meant t)) ≡ false
no_command k (Name w) h i = absurd (h w refl)
no_command k (Number w) h i = refl
no_command k (Truth b) h i = refl
no_command k (Operator o) h i = refl
no_command k (Prefix x) h i = refl
no_command k (Start x) h i = absurd (i x refl)
no_command k Else h i = refl
no_command k (TypeName y) h i = refl
no_command k (Mark x) h i = refl
no_command k Unused h i = refl
