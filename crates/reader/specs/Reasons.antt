-- The laws of reading, in the words of the grammar.
use Rattle.std.specs.Prelude.{◌≡◌, ℕ, ◌<◌, ◌≤◌, ◌⊎◌, List, [], ◌∷◌, ◌++◌, length, take, replicate, Ok, Err, Result}
use Rattle.tosca.specs.declared.table.Entry.{Entry}
use Rattle.tosca.specs.Table.{blank}
use Rattle.tosca.specs.Decode.{program_of}
use Rattle.tosca.specs.Opens.{opening, opened}
use Rattle.tosca.specs.Trees as tree
use Rattle.grammar.specs.Tokens.{Tok, name, Item, at}
use Rattle.grammar.specs.Grammar.{Text, text_depths}
use Rattle.grammar.specs.Listing.{laid, entries_of}
use Rattle.grammar.specs.Numbered.{numbered}
use Rattle.grammar.specs.Limits.{Kept, Then}
use Rattle.lexer.specs.declared.token.Question.{Question}
use Rattle.lexer.specs.declared.token.Question.TheVariants.{TextLength, NameLength, NumberSize, Grammar, Depth, NameCount, NodeCount}
use Rattle.lexer.specs.declared.token.Question.TheVariants as q
use Rattle.lexer.specs.declared.token.Refusal.{Refusal}
use Rattle.lexer.specs.Scan.{scan, limited, Fails}
use Rattle.lexer.specs.Names.{nothing, items}
use Rattle.lexer.specs.NameLaws.{OneTooMany}
use Rattle.reader.specs.Reading.{Derived, Limited, Held}

-- the tokens of the text that are read
abbrev pub tokens : List ℕ → List Item
tokens bs = items nothing (limited (scan 0 bs))

-- some text of the grammar begins with these bytes, and its tokens with front
pub record Begins (bs : List ℕ) (front : List Item) : Type 0 where
  pub more : List ℕ
  pub tree : tree.Program ℕ
  pub derived : Derived (bs ++ more) tree
  pub rest : List Item
  pub tokens : items nothing (scan 0 (bs ++ more)) ≡ front ++ rest

-- the tokens up to p are front; they begin some text, as bytes too, and in every text that begins so they keep the limits
pub record Before (bs : List ℕ) (front : List Item) (p : ℕ) : Type 0 where
  pub begins : Begins (take p bs) front
  pub kept : Kept front

-- so do the tokens up to and with t at p, whose bytes end at some place after p
pub record With (bs : List ℕ) (front : List Item) (t : Tok) (p : ℕ) : Type 0 where
  pub after : ℕ
  pub within : (p < after) × (after ≤ length bs)
  pub begins : Begins (take after bs) (front ++ (at t p ∷ []))

-- why a text is refused, for a table with room for cap entries: the first question with a no, and its place
pub data Reason (cap : ℕ) (bs : List ℕ) : Question → ℕ → Type 0 where
  -- 1: more than 16,384 bytes
  text_length : 16384 < length bs → Reason cap bs TextLength 0
  -- 2: no token begins at p
  no_token : {p : ℕ} → length bs ≤ 16384 → Fails (scan 0 bs) 2 p → Before bs (tokens bs) p → Reason cap bs q.Token p
  -- 3: the token at p is a name of more than 16 bytes
  name_length : {p : ℕ} → length bs ≤ 16384 → Fails (scan 0 bs) 3 p → Before bs (tokens bs) p → Reason cap bs NameLength p
  -- 4: the token at p is a number above 2,147,483,647
  number_size : {p : ℕ} → length bs ≤ 16384 → Fails (scan 0 bs) 4 p → Before bs (tokens bs) p → Reason cap bs NumberSize p
  -- 5: what stands before the token at p begins some text, and with the token none
  grammar : {p : ℕ} (t : Tok) (front rest : List Item) → length bs ≤ 16384 → tokens bs ≡ front ++ (at t p ∷ rest) → Before bs front p → ((us : List Item) (u : tree.Program ℕ) → Text (front ++ (at t p ∷ us)) u → ⊥) → Reason cap bs Grammar p
  -- 6: in every text that begins so the token at p is 33 deep, and those before it at most 32
  depth : {p : ℕ} (t : Tok) (front rest : List Item) → length bs ≤ 16384 → tokens bs ≡ front ++ (at t p ∷ rest) → With bs front t p → ((us : List Item) (u : tree.Program ℕ) (d : Text (front ++ (at t p ∷ us)) u) → Then front (at t p) 33 (text_depths d)) → Reason cap bs Depth p
  -- 7: the token at p is the 65th different name after the program's, and is at most 32 deep
  name_count : {p : ℕ} (m : ℕ) (front rest : List Item) → length bs ≤ 16384 → tokens bs ≡ front ++ (at (name m) p ∷ rest) → OneTooMany (scan 0 bs) p → With bs front (name m) p → ((us : List Item) (u : tree.Program ℕ) (d : Text (front ++ (at (name m) p ∷ us)) u) → (n : ℕ) × (n ≤ 32) × Then front (at (name m) p) n (text_depths d)) → Reason cap bs NameCount p
  -- 8: a text within all other limits has more than 1,024 nodes, or more than the table holds
  node_count : (t : tree.Program ℕ) → Limited bs t → (1024 < length (entries_of t)) ⊎ (cap < length (entries_of t)) → Reason cap bs NodeCount (length bs)

-- accepted: the text has a derivation within the limits, the table is the listing of its tree, opens, and decodes to that tree
pub record Accepted (cap : ℕ) (bs : List ℕ) (n : ℕ) (T : List Entry) : Type 0 where
  pub t : tree.Program ℕ
  pub limited : Limited bs t
  pub held : Held cap t
  pub counted : n ≡ length (entries_of t)
  pub table : T ≡ laid (entries_of t) (replicate cap blank)
  pub opens : opening T n ≡ opened
  pub decodes : program_of (take n T) ≡ numbered t

-- which of the two
abbrev pub Explained : ℕ → List ℕ → List Entry → Result ℕ Refusal → Type 0
Explained cap bs T (Ok n) = Accepted cap bs n T
Explained cap bs T (Err e) = (T ≡ replicate cap blank) × Reason cap bs e.question e.place

-- every text within the limits whose nodes the table holds is accepted
abbrev pub Complete : ℕ → List ℕ → Result ℕ Refusal → Type 0
Complete cap bs r = (t : tree.Program ℕ) → Limited bs t → Held cap t → r ≡ Ok (length (entries_of t))

-- no text has two trees
abbrev pub OneTree : List ℕ → Type 0
OneTree bs = (t u : tree.Program ℕ) → Derived bs t → Derived bs u → t ≡ u
