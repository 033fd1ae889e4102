-- What reading declarations does.
use Rattle.std.specs.Prelude.{◌≡◌, ℕ, zero, suc, ◌+◌, ◌*◌, ◌≤◌, Bool, true, false, List, [], ◌∷◌, ◌++◌, Ok, Err, Result}
use Rattle.tosca.specs.declared.operators.SimpleType.{SimpleType}
use Rattle.tosca.specs.declared.operators.SimpleType.TheVariants.{Integer}
use Rattle.tosca.specs.declared.table.Entry.{Entry}
use Rattle.tosca.specs.declared.table.Node.TheVariants.{Decl}
use Rattle.tosca.specs.Table.{entry}
use Rattle.grammar.specs.declared.symbols.Start.TheVariants.{Begin, If, While, Read, Write}
use Rattle.grammar.specs.Tokens.{Tok, name, lit, op, pre, start, else', unused, ty, mark}
use Rattle.grammar.specs.Building.{Named}
use Rattle.grammar.specs.Automaton.{Sym, marks}
use Rattle.grammar.specs.Listing.{Listing}
use Rattle.lexer.specs.declared.token.Question.TheVariants.{Grammar}
use Rattle.lexer.specs.declared.token.Refusal.{Refusal}
use Rattle.parser.specs.declared.parser.Parser.{Parser}
use Rattle.parser.specs.Feeds.{ahead, next, unread, Ready}
use Rattle.parser.specs.Advancing as step
use Rattle.parser.specs.Advancing.{refuses, Broken}
use Rattle.parser.specs.Parsing.{Holds, reading, refusal, Goes, Stops}

-- tokens are used up, and at most two nodes come of each
abbrev pub Used : {A : Type 0} → Parser → Parser → Result A Refusal → Type 0
Used p q (Ok a) = Ready q × (unread q + 1 ≤ unread p) × (q.count + 2 * unread q ≤ p.count + 2 * unread p)
Used p q (Err e) = Unit {0}

-- the symbols J are taken, leaving K and no loose node, or the refusal is the automaton's
abbrev pub Passes : {A : Type 0} → (List Sym → List Sym) → (List Sym → List Sym) → Parser → List Entry → Parser → List Entry → Result A Refusal → Type 0
Passes J K p T q T' (Ok u) = (L : List Sym) → marks L ≡ 0 → Goes (J L) [] p.count T (ahead p) (K L) [] q.count T' (ahead q)
Passes J K p T q T' (Err e) = (L : List Sym) → marks L ≡ 0 → Stops (J L) [] p.count T (ahead p) e

-- the token names a type
abbrev pub is_type : Tok → Bool
is_type (ty y) = true
is_type (name n) = false
is_type (mark x) = false
is_type (lit l) = false
is_type (op o) = false
is_type (pre x) = false
is_type (start x) = false
is_type else' = false
is_type unused = false

-- a type was expected
pub data Untyped (p : Parser) (e : Refusal) : Type 0 where
  another : is_type (next p) ≡ false → e ≡ refuses Grammar p.lookahead.place → Untyped p e
  cut : (y : SimpleType) → Broken p (ty y) e → Untyped p e

abbrev pub Typed : Parser → Parser → Result SimpleType Refusal → Type 0
Typed p q (Ok y) = step.Read p (ty y) q
Typed p q (Err e) = Untyped p e

abbrev pub is_begin : Tok → Bool
is_begin (start Begin) = true
is_begin (start If) = false
is_begin (start While) = false
is_begin (start Read) = false
is_begin (start Write) = false
is_begin (ty y) = false
is_begin (name n) = false
is_begin (mark x) = false
is_begin (lit l) = false
is_begin (op o) = false
is_begin (pre x) = false
is_begin else' = false
is_begin unused = false

-- begin was expected
pub data Unbegun (p : Parser) (e : Refusal) : Type 0 where
  another : is_begin (next p) ≡ false → e ≡ refuses Grammar p.lookahead.place → Unbegun p e
  cut : Broken p (start Begin) e → Unbegun p e

abbrev pub Begun : {A : Type 0} → Parser → Parser → Result A Refusal → Type 0
Begun p q (Ok u) = step.Read p (start Begin) q
Begun p q (Err e) = Unbegun p e

-- the entries of declared names, all of one type
abbrev pub drafts : SimpleType → List Named → List Entry
drafts y [] = []
drafts y (n ∷ ns) = entry (Decl n.name y) n.place ∷ drafts y ns

-- names are read that the automaton lists only with their type; the table has them already, as integers
pub record Drafted (J K : List Named → Sym) (p : Parser) (T : List Entry) (ns : List Named) (q : Parser) (T' : List Entry) : Type 0 where
  pub reads : (ms : List Named) (L : List Sym) → marks L ≡ 0 → (s : Listing) → reading (J ms ∷ L) s (ahead p) ≡ reading (K (ms ++ ns) ∷ L) s (ahead q)
  pub holds : (was es : List Entry) → Holds was es p.count T → Holds was (es ++ drafts Integer ns) q.count T'

abbrev pub Drafts : {A : Type 0} → (List Named → Sym) → (List Named → Sym) → Parser → List Entry → Parser → List Entry → Result A Refusal → Type 0
Drafts J K p T q T' (Ok u) = (ns : List Named) × Drafted J K p T ns q T'
Drafts J K p T q T' (Err e) = (ms : List Named) (L : List Sym) → marks L ≡ 0 → (s : Listing) → reading (J ms ∷ L) s (ahead p) ≡ refusal e

-- the declaration of the same name at the same place, with a type
abbrev pub retyped_entry : SimpleType → Entry → Entry
retyped_entry y e = entry (Decl e.name y) e.place

-- n entries from number a on get a type, as far as the table goes
abbrev pub retyped : SimpleType → ℕ → ℕ → List Entry → List Entry
retyped y a n [] = []
retyped y zero zero (e ∷ t) = e ∷ t
retyped y zero (suc n) (e ∷ t) = retyped_entry y e ∷ retyped y zero n t
retyped y (suc a) n (e ∷ t) = e ∷ retyped y a n t
