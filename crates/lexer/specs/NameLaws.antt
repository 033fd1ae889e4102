-- What the numbers of names say: which names have the same one, and which name is the first that is one too many.
use Rattle.std.specs.Prelude.{◌≡◌, ℕ, ◌≤◌, true, ◌⊎◌, ◌↔◌, List, [], ◌∷◌, ◌++◌, length, drop}
use Rattle.grammar.specs.Tokens.{Item, at}
use Rattle.grammar.specs.Tokens as g
use Rattle.grammar.specs.Limits.{few}
use Rattle.lexer.specs.Spelling.{lowered}
use Rattle.lexer.specs.Lexemes.{Raw, name, number, other}
use Rattle.lexer.specs.Scan.{Scan, more, scan, limited}
use Rattle.lexer.specs.Names.{Known, nothing, numbered, after, tok, learns, items}

-- a token as it is written, and its place
pub data Piece : Type 0 where
  piece : Raw → ℕ → Piece

-- these tokens, and then a scan
abbrev pub onto : List Piece → Scan → Scan
onto [] s = s
onto (piece r p ∷ rs) s = more r p (onto rs s)

-- their tokens of the grammar
abbrev pub placed : Known → List Piece → List Item
placed k [] = []
placed k (piece r p ∷ rs) = at (tok k r) p ∷ placed (learns k r) rs

-- what is known after them
abbrev pub taught : Known → List Piece → Known
taught k [] = k
taught k (piece r p ∷ rs) = taught (learns k r) rs

-- the names among them, in small letters
abbrev pub called : List Piece → List (List ℕ)
called [] = []
called (piece (name w) p ∷ rs) = lowered w ∷ called rs
called (piece (number w) p ∷ rs) = called rs
called (piece (other t) p ∷ rs) = called rs

abbrev pub In : List ℕ → List (List ℕ) → Type 0
In w [] = ⊥
In w (x ∷ xs) = (w ≡ x) ⊎ In w xs

abbrev pub Distinct : List (List ℕ) → Type 0
Distinct [] = Unit {0}
Distinct (x ∷ xs) = (In x xs → ⊥) × Distinct xs

-- after the program's name, a name and a later one have the same number just if they are the same word
abbrev pub SameNumber : Type 0
SameNumber =
    (front between : List Piece) (v w : List ℕ) → (taught nothing front).titled ≡ true →
    (numbered (taught nothing front) v ≡ numbered (taught (after (taught nothing front) v) between) w) ↔ (lowered v ≡ lowered w)

-- at p stands a name after exactly 64 others that are all different; the program's, which is the first, does not count
pub record OneTooMany (s : Scan) (p : ℕ) : Type 0 where
  pub before : List Piece
  pub word : List ℕ
  pub rest : Scan
  pub stands : s ≡ onto before (more (name word) p rest)
  pub others : List (List ℕ)
  pub count : length others ≡ 64
  pub different : Distinct others
  pub each : (w : List ℕ) → In w (drop 1 (called before)) ↔ In w others
  pub another : In (lowered word) others → ⊥

-- names among these tokens have numbers below 64
abbrev pub Few : List Item → Type 0
Few [] = Unit {0}
Few (at t p ∷ ts) = (few t ≡ true) × Few ts

-- the first name with a number above 63 is the first that is one too many
abbrev pub NameLaw : Type 0
NameLaw = (bs : List ℕ) (front rest : List Item) (m p : ℕ) → items nothing (limited (scan 0 bs)) ≡ front ++ (at (g.name m) p ∷ rest) → Few front → 64 ≤ m → OneTooMany (scan 0 bs) p
