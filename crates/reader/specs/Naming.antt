-- The names of a text after the program's, in the order of their numbers.
use Rattle.std.specs.Prelude.{◌≡◌, ℕ, ◌≤◌, Bool, true, false, cond, List, length, Some, nat_le, nat_lt}
use Rattle.std.specs.List.{slice_get}
use Rattle.lexer.specs.declared.token.Token.{Token}
use Rattle.lexer.specs.Spelling.{lowered}
use Rattle.lexer.specs.Lexemes.{name, number, other, meant}
use Rattle.lexer.specs.Scan.{Scan, more, broken, over, is_stop, follow, scan, limited}
use Rattle.lexer.specs.Names.{Known, nothing, numbered, after, items}
use Rattle.lexer.specs.NameLaws.{Piece, onto, taught, Few}
use Rattle.parser.specs.declared.names.Names.{Names}
use Rattle.parser.specs.Feeds.{known_of}

-- what is known after the tokens, up to a name with a number above 63
abbrev pub gathered : Known → Scan → Known
gathered k (more (name w) p s) = cond (nat_lt (numbered k w) 64) (gathered (after k w) s) k
gathered k (more (number ds) p s) = gathered k s
gathered k (more (other t) p s) = gathered k s
gathered k (broken n p) = k
gathered k over = k

-- the names of a text, which has at most 16,384 bytes
abbrev pub named : List ℕ → Known
named bs = cond (nat_le (length bs) 16384) (gathered nothing (limited (scan 0 bs))) nothing

-- the names m become n by the token t, and there may be more tokens; or n is all that is gathered
abbrev pub Noted : Names → Token → Names → Bool → Type 0
Noted m t n true = (n.count ≤ 64) × (is_stop (meant t) ≡ false) × ((p : ℕ) (s : Scan) → gathered (known_of m) (more (meant t) p s) ≡ gathered (known_of n) s)
Noted m t n false = (n.count ≤ 64) × ((p : ℕ) (s : Scan) → gathered (known_of m) (follow (meant t) p s) ≡ known_of n)

-- where all names have numbers below 64, the number of each after the program's is its word's place in the list
abbrev pub Spelled : List ℕ → List (List ℕ) → Type 0
Spelled bs words =
    length bs ≤ 16384 → Few (items nothing (limited (scan 0 bs))) → (front : List Piece) (w : List ℕ) (p : ℕ) (rest : Scan) →
    limited (scan 0 bs) ≡ onto front (more (name w) p rest) → (taught nothing front).titled ≡ true → slice_get words (numbered (taught nothing front) w) ≡ Some (lowered w)
