-- What the parser's small steps do: reading one token, numbering a name, listing a node.
use Rattle.std.specs.Prelude.{◌≡◌, ℕ, suc, ◌+◌, ◌<◌, ◌≤◌, Bool, true, false, cond, List, [], Some, None, Ok, Err, Option, Result, slice_set}
use Rattle.tosca.specs.declared.table.Entry.{Entry}
use Rattle.tosca.specs.declared.table.Node.{Node}
use Rattle.tosca.specs.Table.{entry}
use Rattle.grammar.specs.declared.symbols.Mark.{Mark}
use Rattle.grammar.specs.declared.symbols.Operator.{Operator}
use Rattle.grammar.specs.declared.symbols.Operator.TheVariants.{Mul, Add, Rel}
use Rattle.grammar.specs.declared.symbols.Adding.TheVariants.{Plus, Minus, Or}
use Rattle.grammar.specs.declared.symbols.Prefix.TheVariants.{Open, Not, Round}
use Rattle.grammar.specs.Tokens.{Tok, name, lit, op, pre, start, else', unused, ty, mark, at, Seen, no, yes, same}
use Rattle.grammar.specs.Limits.{bad}
use Rattle.lexer.specs.declared.token.Question.{Question}
use Rattle.lexer.specs.declared.token.Question.TheVariants.{Grammar, Depth, NameCount}
use Rattle.lexer.specs.declared.token.Refusal.{Refusal}
use Rattle.lexer.specs.Lexemes.{Raw, number_of}
use Rattle.lexer.specs.Lexemes as raw
use Rattle.lexer.specs.Scan.{is_stop}
use Rattle.parser.specs.declared.depth.Depth.{Depth as Deep}
use Rattle.parser.specs.declared.parser.Parser.{Parser}
use Rattle.parser.specs.Feeds.{Feed, more, ahead, next, unread, Ready}

-- the token is this mark
abbrev pub is_mark : Mark → Tok → Bool
is_mark m (mark x) = same x m
is_mark m (name n) = false
is_mark m (lit l) = false
is_mark m (op o) = false
is_mark m (pre x) = false
is_mark m (start x) = false
is_mark m else' = false
is_mark m unused = false
is_mark m (ty y) = false

abbrev pub is_name : Tok → Bool
is_name (name n) = true
is_name (mark x) = false
is_name (lit l) = false
is_name (op o) = false
is_name (pre x) = false
is_name (start x) = false
is_name else' = false
is_name unused = false
is_name (ty y) = false

-- neither a name nor the end
abbrev pub plain : Raw → Bool
plain (raw.name w) = false
plain (raw.number ds) = true
plain (raw.other t) = cond (is_stop (raw.other t)) false true

abbrev pub seen : {A : Type 0} → Option A → Seen A
seen None = no
seen (Some a) = yes a

abbrev pub refuses : Question → ℕ → Refusal
refuses q p = record { question = q; place = p }

-- no token is left, for the refusal's reason
abbrev pub broken : Refusal → Feed
broken e = record { tokens = []; ending = bad (number_of e.question) e.place }

-- the token t was next in p, and q has the rest
pub record Read (p : Parser) (t : Tok) (q : Parser) : Type 0 where
  pub token : ahead p ≡ more (at t p.lookahead.place) (ahead q)
  pub one : unread p ≡ suc (unread q)
  pub ready : Ready q
  pub count : q.count ≡ p.count

-- the token t was next in p, and what follows it is refused
abbrev pub Broken : Parser → Tok → Refusal → Type 0
Broken p t e = ahead p ≡ more (at t p.lookahead.place) (broken e)

abbrev pub Advanced : {A : Type 0} → Parser → Tok → Parser → Result A Refusal → Type 0
Advanced p t q (Ok u) = Read p t q
Advanced p t q (Err e) = Broken p t e

-- a mark was expected
pub data Missed (m : Mark) (p : Parser) (e : Refusal) : Type 0 where
  another : is_mark m (next p) ≡ false → e ≡ refuses Grammar p.lookahead.place → Missed m p e
  cut : Broken p (mark m) e → Missed m p e

abbrev pub Expected : {A : Type 0} → Mark → Parser → Parser → Result A Refusal → Type 0
Expected m p q (Ok u) = Read p (mark m) q
Expected m p q (Err e) = Missed m p e

-- the token opens a bracket
abbrev pub is_open : Tok → Bool
is_open (pre Open) = true
is_open (pre Not) = false
is_open (pre Round) = false
is_open (name n) = false
is_open (mark x) = false
is_open (lit l) = false
is_open (op o) = false
is_open (start x) = false
is_open else' = false
is_open unused = false
is_open (ty y) = false

abbrev pub is_minus_op : Operator → Bool
is_minus_op (Add Minus) = true
is_minus_op (Add Plus) = false
is_minus_op (Add Or) = false
is_minus_op (Mul o) = false
is_minus_op (Rel o) = false

abbrev pub is_minus : Tok → Bool
is_minus (op o) = is_minus_op o
is_minus (pre x) = false
is_minus (name n) = false
is_minus (mark x) = false
is_minus (lit l) = false
is_minus (start x) = false
is_minus else' = false
is_minus unused = false
is_minus (ty y) = false

-- a bracket was expected
pub data Closed (p : Parser) (e : Refusal) : Type 0 where
  another : is_open (next p) ≡ false → e ≡ refuses Grammar p.lookahead.place → Closed p e
  cut : Broken p (pre Open) e → Closed p e

abbrev pub Opened : {A : Type 0} → Parser → Parser → Result A Refusal → Type 0
Opened p q (Ok u) = Read p (pre Open) q
Opened p q (Err e) = Closed p e

-- a name was expected
pub data Nameless (p : Parser) (e : Refusal) : Type 0 where
  another : is_name (next p) ≡ false → e ≡ refuses Grammar p.lookahead.place → Nameless p e
  many : (m : ℕ) → 64 ≤ m → (f : Feed) → ahead p ≡ more (at (name m) p.lookahead.place) f → e ≡ refuses NameCount p.lookahead.place → Nameless p e
  cut : (m : ℕ) → m < 64 → Broken p (name m) e → Nameless p e

abbrev pub Named : Parser → Parser → Result ℕ Refusal → Type 0
Named p q (Ok n) = (n < 64) × Read p (name n) q
Named p q (Err e) = Nameless p e

-- a node is listed, or only counted where the table is full
pub record Listed (p : Parser) (T : List Entry) (n : Node) (place r : ℕ) (q : Parser) (T' : List Entry) : Type 0 where
  pub number : r ≡ p.count
  pub count : q.count ≡ p.count + 1
  pub same : ahead q ≡ ahead p
  pub ready : Ready p → q.count + (unread q + unread q) ≤ 40000 → Ready q
  pub wrote : T' ≡ slice_set T p.count (entry n place)

-- one deeper, at most 32
abbrev pub Deepened : ℕ → Parser → Result Deep Refusal → Type 0
Deepened d p (Ok n) = (n.level ≡ d + 1) × (d < 32)
Deepened d p (Err e) = (32 ≤ d) × (e ≡ refuses Depth p.lookahead.place)
