-- Words that are the same, and the program's table of words, which holds the reserved ones.
use Rattle.std.proofs.Common.{◌≡◌, ℕ, Bool, true, false, cond, List, [], ◌∷◌, Some, None, Option, ◌↔◌, IsTrue, refl, ap, ◌∙◌, find as find_by}
use Rattle.std.specs.Option.{option_map, unwrap_or}
use Rattle.std.proofs.lemmas.Bool.Decides.{same_from_decides}
use Rattle.std.proofs.lemmas.Slice.Eq.{bytes_eq-Decides}
use Rattle.grammar.specs.Tokens.{Tok}
use Rattle.lexer.specs.declared.token.Token.{Token}
use Rattle.lexer.specs.declared.words.ReservedWord.{ReservedWord}
use Rattle.lexer.specs.Spelling.{lowered, same}
use Rattle.lexer.specs.Words.{Word, find, reserved}
use Rattle.lexer.specs.Lexemes.{Raw, name, other, meant, word_or}
use Rattle.lexer.specs.Found.{meant_some, others, Row, rows, find_row}

-- two words are the same where their bytes are
pub same_from_equal : (v w : List ℕ) (b : Bool) → IsTrue b ↔ (v ≡ w) → b ≡ same v w
same_from_equal v w b h = same_from_decides b (same v w) h (bytes_eq-Decides v w)

-- the first of the program's words that is spelled so
row_found : (w : List ℕ) (xs : List ReservedWord) → meant_some (option_map (λ r. r.1) (find_by (λ r. same w (lowered r.0.now)) xs)) ≡ find_row w (rows xs)
row_found w [] = refl
row_found w (x ∷ xs) = go (same w (lowered x.0.now)) (row_found w xs)
  where
    go : (b : Bool) → meant_some (option_map (λ r. r.1) (find_by (λ r. same w (lowered r.0.now)) xs)) ≡ find_row w (rows xs) → meant_some (option_map (λ r. r.1) (cond b (Some x) (find_by (λ r. same w (lowered r.0.now)) xs))) ≡ cond b (Some (meant x.1)) (find_row w (rows xs))
    go true e = refl
    go false e = e

pub found : (w : List ℕ) (t : Option Token) (xs : List ReservedWord) → t ≡ option_map (λ r. r.1) (find_by (λ r. same w (lowered r.0.now)) xs) → meant_some t ≡ find_row w (rows xs)
found w t xs h = ap meant_some h ∙ row_found w xs

-- the table that would hold these words
abbrev pub table : List Word → List Row
table [] = []
table (x ∷ xs) = record { spelled = x.spelled; token = other x.token } ∷ table xs

find_table : (w : List ℕ) (xs : List Word) → find_row w (table xs) ≡ others (find w xs)
find_table w [] = refl
find_table w (x ∷ xs) = go (same w x.spelled) (find_table w xs)
  where
    go : (b : Bool) → find_row w (table xs) ≡ others (find w xs) → cond b (Some (other x.token)) (find_row w (table xs)) ≡ others (cond b (Some x.token) (find w xs))
    go true e = refl
    go false e = e

pub found_reserved : (w : List ℕ) (o : Option Raw) → o ≡ find_row w (table reserved) → o ≡ others (find w reserved)
found_reserved w o h = h ∙ find_table w reserved

pub word_or_name : (w : List ℕ) (t : Option Token) (d : Token) (o : Option Tok) → meant_some t ≡ others o → meant d ≡ name w → meant (unwrap_or t d) ≡ word_or w o
word_or_name w (Some t) d (Some o) h e = cc
word_or_name w (Some t) d None h e = absurd cc
word_or_name w None d (Some o) h e = absurd cc
word_or_name w None d None h e = e
