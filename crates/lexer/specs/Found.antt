-- What the program's functions find: perhaps a token, perhaps the end of a gap.
use Rattle.std.specs.Prelude.{◌≡◌, ℕ, ◌≤◌, cond, List, [], ◌∷◌, length, Some, None, Ok, Err, Option, Result}
use Rattle.grammar.specs.Tokens.{Tok}
use Rattle.lexer.specs.declared.token.Token.{Token}
use Rattle.lexer.specs.declared.token.Refusal.{Refusal}
use Rattle.lexer.specs.declared.cursor.Cursor.{Cursor}
use Rattle.lexer.specs.declared.words.ReservedWord.{ReservedWord}
use Rattle.lexer.specs.Spelling.{lowered, same}
use Rattle.lexer.specs.Lexemes.{Raw, other, meant, Gap, gap, unclosed, inside, skip_in, skip, number_of}

-- what the program finds, if anything
abbrev pub meant_some : Option Token → Option Raw
meant_some (Some t) = Some (meant t)
meant_some None = None

-- the program's table of reserved words
pub record Row : Type 0 where
  pub spelled : List ℕ
  pub token : Raw

abbrev pub rows : List ReservedWord → List Row
rows [] = []
rows (x ∷ xs) = record { spelled = lowered x.0.now; token = meant x.1 } ∷ rows xs

-- the first of the rows that is spelled so
abbrev pub find_row : List ℕ → List Row → Option Raw
find_row w [] = None
find_row w (x ∷ xs) = cond (same w x.spelled) (Some x.token) (find_row w xs)

-- a token of the grammar, as it is written
abbrev pub others : Option Tok → Option Raw
others (Some t) = Some (other t)
others None = None

abbrev pub gap_meant : Result Cursor Refusal → Gap
gap_meant (Ok c) = gap c.place c.rest.now
gap_meant (Err e) = unclosed e.place

-- a refusal has this number
abbrev pub Refuses : ℕ → Result Cursor Refusal → Type 0
Refuses n (Ok c) = Unit {0}
Refuses n (Err e) = number_of e.question ≡ n

-- the comment that p and bs are inside of ends, and skipping goes on after it; or it never ends
abbrev pub Closes : ℕ → List ℕ → Option Cursor → Type 0
Closes p bs (Some c) = ((o : ℕ) → skip_in (inside o) p bs ≡ skip c.place c.rest.now) × (length c.rest.now ≤ length bs)
Closes p bs None = (o : ℕ) → skip_in (inside o) p bs ≡ unclosed o
