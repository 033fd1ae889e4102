-- What a function of the parser does, in every context: it takes what one symbol of the automaton stands for.
use Rattle.std.specs.Prelude.{◌≡◌, ℕ, ◌+◌, ◌*◌, ◌<◌, ◌≤◌, List, [], ◌∷◌, ◌++◌, length, Ok, Err, Result}
use Rattle.tosca.specs.declared.table.Entry.{Entry}
use Rattle.grammar.specs.Automaton.{Sym, marks, run}
use Rattle.grammar.specs.Listing.{Listing, listing, list, laid}
use Rattle.grammar.specs.Limits.{Outcome, refused, limits}
use Rattle.lexer.specs.declared.token.Refusal.{Refusal}
use Rattle.lexer.specs.Lexemes.{number_of}
use Rattle.parser.specs.declared.parser.Parser.{Parser}
use Rattle.parser.specs.Feeds.{Feed, ahead, unread, Ready}

-- the entries es are listed so far, over the table as it was
abbrev pub Holds : List Entry → List Entry → ℕ → List Entry → Type 0
Holds was es c table = (length es ≡ c) × (table ≡ laid es was)

-- what the automaton makes of the feed, when it expects K and has listed s
abbrev pub reading : List Sym → Listing → Feed → Outcome Listing
reading K s f = run list (limits f.ending) K s f.tokens

abbrev pub refusal : Refusal → Outcome Listing
refusal e = refused (number_of e.question) e.place

-- with J expected, the loose entries U, c entries listed and the feed f ahead, the automaton comes to K, W, d and g; the table T becomes T'
pub record Goes (J : List Sym) (U : List ℕ) (c : ℕ) (T : List Entry) (f : Feed) (K : List Sym) (W : List ℕ) (d : ℕ) (T' : List Entry) (g : Feed) : Type 0 where
  pub goes : (V : List ℕ) (was es : List Entry) → Holds was es c T → (es' : List Entry) × Holds was es' d T' × (reading J (listing (U ++ V) es) f ≡ reading K (listing (W ++ V) es') g)

-- the automaton refuses there
pub record Stops (J : List Sym) (U : List ℕ) (c : ℕ) (T : List Entry) (f : Feed) (e : Refusal) : Type 0 where
  pub stops : (V : List ℕ) (was es : List Entry) → Holds was es c T → reading J (listing (U ++ V) es) f ≡ refusal e

-- the symbols J are taken, leaving K and one node, or the refusal is the automaton's
abbrev pub Takes : (List Sym → List Sym) → (List Sym → List Sym) → ℕ → Parser → List Entry → Parser → List Entry → Result ℕ Refusal → Type 0
Takes J K d p T q T' (Ok n) = (L : List Sym) → marks L ≡ d → Goes (J L) [] p.count T (ahead p) (K L) (n ∷ []) q.count T' (ahead q)
Takes J K d p T q T' (Err e) = (L : List Sym) → marks L ≡ d → Stops (J L) [] p.count T (ahead p) e

-- one symbol is taken
abbrev pub Parsed : Sym → ℕ → Parser → List Entry → Parser → List Entry → Result ℕ Refusal → Type 0
Parsed X d p T q T' r = Takes (λ L. X ∷ L) (λ L. L) d p T q T' r

-- tokens are used up, and a node or two for each; slack is 1 where a node may come of no token
abbrev pub Less : ℕ → Parser → Parser → Result ℕ Refusal → Type 0
Less slack p q (Ok n) = Ready q × (unread q + 1 ≤ unread p + slack) × (q.count + 2 * unread q ≤ p.count + 2 * unread p + slack)
Less slack p q (Err e) = Unit {0}

-- a node can be counted that comes of no token
abbrev pub Roomy : Parser → Type 0
Roomy p = p.count + 2 * unread p < 40000
