-- The limits that are asked of each token as it is read, and what becomes of a text: the grammar's question 5, then 6 for the depth, then 7 for the names.
use Rattle.std.specs.Prelude.{◌≡◌, ℕ, suc, ◌≤◌, Bool, true, false, cond, List, [], ◌∷◌, ◌++◌, pos, nat_le, nat_lt}
use Rattle.tosca.specs.declared.operators.SimpleType.TheVariants.{Integer, Boolean}
use Rattle.tosca.specs.declared.operators.Value.TheVariants.{Number, Truth}
use Rattle.tosca.specs.Trees as tree
use Rattle.grammar.specs.declared.symbols.Prefix.TheVariants.{Open, Not, Round}
use Rattle.grammar.specs.declared.symbols.Start.TheVariants.{Begin, If, While, Read, Write}
use Rattle.grammar.specs.declared.symbols.Mark.TheVariants.{Stop}
use Rattle.grammar.specs.Tokens.{same, Tok, name, lit, op, pre, start, else', unused, ty, mark, Item, at, Seen, no, yes}
use Rattle.grammar.specs.Grammar.{Deep, deep, Text, text_depths}
use Rattle.grammar.specs.Building.{Act, builds}
use Rattle.grammar.specs.Automaton.{Watch, run, text}

-- how the tokens of a text end: with its end, or before bytes that are refused with a number at a place
pub data Ending : Type 0 where
  over : Ending
  bad : ℕ → ℕ → Ending

-- what reading gives: something built, or a number and a place. `unended` is left for token lists that are cut short, which no text has
pub data Outcome (S : Type 0) : Type 0 where
  accepted : S → Outcome S
  refused : ℕ → ℕ → Outcome S
  unended : Outcome S

abbrev pub ending : {S : Type 0} → Ending → Seen S → Outcome S
ending over (yes s) = accepted s
ending over no = unended
ending (bad n p) v = refused n p

-- the name, if it is one, is one of the first 64
abbrev pub few : Tok → Bool
few (name n) = nat_lt n 64
few (lit l) = true
few (op o) = true
few (pre x) = true
few (start x) = true
few else' = true
few unused = true
few (ty x) = true
few (mark m) = true

abbrev pub stopping : {S : Type 0} → Item → Outcome S
stopping (at t p) = refused 5 p

abbrev pub asking : {S : Type 0} → Item → ℕ → Outcome S → Outcome S
asking (at t p) n a = cond (nat_le n 32) (cond (few t) a (refused 7 p)) (refused 6 p)

abbrev pub limits : {S : Type 0} → Ending → Watch S (Outcome S)
limits e = record { ends = λ v. ending e v; stops = λ x ts. stopping x; reads = λ x n a. asking x n a }

-- reading tokens that end so, whatever is built
abbrev pub reads : {S : Type 0} → (Act → S → S) → S → List Item → Ending → Outcome S
reads act s ts e = run act (limits e) (text ∷ []) s ts

-- every token keeps the limits
abbrev pub Within : List Deep → Type 0
Within [] = Unit {0}
Within (deep (at t p) n ∷ r) = (n ≤ 32) × (few t ≡ true) × Within r

-- the tokens begin with those of front, and these keep the limits
abbrev pub Front : List Item → List Deep → Type 0
Front [] ds = Unit {0}
Front (f ∷ fs) [] = ⊥
Front (f ∷ fs) (deep (at t p) n ∷ r) = (at t p ≡ f) × (n ≤ 32) × (few t ≡ true) × Front fs r

-- the same, and then comes x, at depth n
abbrev pub Then : List Item → Item → ℕ → List Deep → Type 0
Then [] x n [] = ⊥
Then [] x n (deep y m ∷ r) = (y ≡ x) × (m ≡ n)
Then (f ∷ fs) x n [] = ⊥
Then (f ∷ fs) x n (deep (at t p) m ∷ r) = (at t p ≡ f) × (m ≤ 32) × (few t ≡ true) × Then fs x n r

-- tokens at the places f 0, f 1, ..
abbrev pub placed_from : (ℕ → ℕ) → ℕ → List Tok → List Item
placed_from f k [] = []
placed_from f k (t ∷ ts) = at t (f k) ∷ placed_from f (suc k) ts

-- the tokens that suffice to complete a text: the name numbered n, 0, (, begin, integer and what is only ever expected, but for the end
abbrev pub Simple : ℕ → Tok → Type 0
Simple n (name m) = m ≡ n
Simple n (lit (Number z)) = z ≡ pos 0
Simple n (lit (Truth b)) = ⊥
Simple n (op o) = ⊥
Simple n (pre Open) = Unit {0}
Simple n (pre Not) = ⊥
Simple n (pre Round) = ⊥
Simple n (start Begin) = Unit {0}
Simple n (start If) = ⊥
Simple n (start While) = ⊥
Simple n (start Read) = ⊥
Simple n (start Write) = ⊥
Simple n else' = ⊥
Simple n unused = ⊥
Simple n (ty Integer) = Unit {0}
Simple n (ty Boolean) = ⊥
Simple n (mark m) = same m Stop ≡ false

abbrev pub AllSimple : ℕ → List Tok → Type 0
AllSimple n [] = Unit {0}
AllSimple n (t ∷ ts) = Simple n t × AllSimple n ts

-- some text of the grammar begins with these tokens; what completes it is simple up to the end, and may have any places
abbrev pub Completable : List Item → Type 0
Completable front = (n : ℕ) → (us : List Tok) × AllSimple n us × ((f : ℕ → ℕ) → (t : tree.Program ℕ) × Text (front ++ placed_from f 0 (us ++ (mark Stop ∷ []))) t)

abbrev pub is_stop : Tok → Bool
is_stop (mark m) = same m Stop
is_stop (name n) = false
is_stop (lit l) = false
is_stop (op o) = false
is_stop (pre x) = false
is_stop (start x) = false
is_stop else' = false
is_stop unused = false
is_stop (ty x) = false

-- the end of the text stands only last, and nothing is broken after it
abbrev pub Ends : List Item → Ending → Type 0
Ends [] e = Unit {0}
Ends (at t p ∷ ts) e = (is_stop t ≡ true → (ts ≡ []) × (e ≡ over)) × Ends ts e

-- in every text that begins with these tokens, they keep the limits
abbrev pub Kept : List Item → Type 0
Kept front = (us : List Item) (t : tree.Program ℕ) (d : Text (front ++ us) t) → Front front (text_depths d)

-- why a list of tokens is refused with a number at a place: everything before that place is in order, and then
pub data Refused (ts : List Item) (e : Ending) : ℕ → ℕ → Type 0 where
  -- no text goes on with this token
  five : {p : ℕ} (t : Tok) (front rest : List Item) → ts ≡ front ++ (at t p ∷ rest) → Kept front → Completable front → ((us : List Item) (u : tree.Program ℕ) → Text (front ++ (at t p ∷ us)) u → ⊥) → Refused ts e 5 p
  -- some text goes on with it, and in all of them it is 33 deep
  six : {p : ℕ} (t : Tok) (front rest : List Item) → ts ≡ front ++ (at t p ∷ rest) → is_stop t ≡ false → Completable (front ++ (at t p ∷ [])) → ((us : List Item) (u : tree.Program ℕ) (d : Text (front ++ (at t p ∷ us)) u) → Then front (at t p) 33 (text_depths d)) → Refused ts e 6 p
  -- some text goes on with it, in all of them it is at most 32 deep, and it is a name with a number above 63
  seven : {p : ℕ} (m : ℕ) (front rest : List Item) → ts ≡ front ++ (at (name m) p ∷ rest) → 64 ≤ m → Completable (front ++ (at (name m) p ∷ [])) → ((us : List Item) (u : tree.Program ℕ) (d : Text (front ++ (at (name m) p ∷ us)) u) → (n : ℕ) × (n ≤ 32) × Then front (at (name m) p) n (text_depths d)) → Refused ts e 7 p
  -- all tokens are in order, and the bytes after them are not
  broken : {n p : ℕ} → e ≡ bad n p → Kept ts → Completable ts → Refused ts e n p

-- the grammar's laws, whatever is built:
-- a text within the limits is read, and what is built is that of its tree
abbrev pub Complete : (S : Type 0) → (Act → S → S) → Type 0
Complete S act = (s : S) (ts : List Item) (t : tree.Program ℕ) (d : Text ts t) → Within (text_depths d) → reads act s ts over ≡ accepted (builds act t s)

-- only such texts are read
abbrev pub Sound : (S : Type 0) → (Act → S → S) → Type 0
Sound S act = (s r : S) (ts : List Item) (e : Ending) → reads act s ts e ≡ accepted r → (e ≡ over) × ((t : tree.Program ℕ) × (d : Text ts t) × Within (text_depths d) × (r ≡ builds act t s))

-- a refusal has its reason
abbrev pub Reasoned : (S : Type 0) → (Act → S → S) → Type 0
Reasoned S act = (s : S) (ts : List Item) (e : Ending) → Ends ts e → (n p : ℕ) → reads act s ts e ≡ refused n p → Refused ts e n p

-- no token list has two trees
abbrev pub OneTree : Type 0
OneTree = (ts : List Item) (t u : tree.Program ℕ) → Text ts t → Text ts u → t ≡ u
