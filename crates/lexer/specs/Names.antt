-- Names get numbers: those after the program's, from 0, by first appearance, capitals counting as small letters.
use Rattle.std.specs.Prelude.{ℕ, suc, Bool, true, false, cond, List, [], ◌∷◌, ◌++◌, length, pos, nat_lt}
use Rattle.tosca.specs.declared.operators.Value.TheVariants as v
use Rattle.grammar.specs.Tokens.{Tok, Item, at}
use Rattle.grammar.specs.Tokens as g
use Rattle.grammar.specs.Limits.{Ending}
use Rattle.grammar.specs.Limits as e
use Rattle.lexer.specs.Spelling.{lowered, same, value}
use Rattle.lexer.specs.Lexemes.{Raw, name, number, other}
use Rattle.lexer.specs.Scan.{Scan, more, broken, over}

-- where a word stands first in a list, or the list's length
abbrev pub index : List ℕ → List (List ℕ) → ℕ
index w [] = 0
index w (x ∷ xs) = cond (same w x) 0 (suc (index w xs))

-- the list with the word in it
abbrev pub noted : List ℕ → List (List ℕ) → List (List ℕ)
noted w xs = cond (nat_lt (index w xs) (length xs)) xs (xs ++ (w ∷ []))

-- the program's name is read or not; the names after it, in small letters, in the order of their numbers
pub record Known : Type 0 where
  pub titled : Bool
  pub names : List (List ℕ)

abbrev pub known : Bool → List (List ℕ) → Known
known t ws = record { titled = t; names = ws }

-- before any token
abbrev pub nothing : Known
nothing = known false []

-- the number of a name; the program's own is not counted, and written as 0
abbrev pub numbered : Known → List ℕ → ℕ
numbered k w = cond k.titled (index (lowered w) k.names) 0

-- what is known after a name
abbrev pub after : Known → List ℕ → Known
after k w = cond k.titled (known true (noted (lowered w) k.names)) (known true k.names)

abbrev pub tok : Known → Raw → Tok
tok k (name w) = g.name (numbered k w)
tok k (number ds) = g.lit (v.Number (pos (value ds)))
tok k (other t) = t

abbrev pub learns : Known → Raw → Known
learns k (name w) = after k w
learns k (number ds) = k
learns k (other t) = k

-- the tokens of the grammar
abbrev pub items : Known → Scan → List Item
items k (more r p s) = at (tok k r) p ∷ items (learns k r) s
items k (broken n p) = []
items k over = []

abbrev pub ends : Scan → Ending
ends (more r p s) = ends s
ends (broken n p) = e.bad n p
ends over = e.over

-- what is known after all tokens
abbrev pub learned : Known → Scan → Known
learned k (more r p s) = learned (learns k r) s
learned k (broken n p) = k
learned k over = k
