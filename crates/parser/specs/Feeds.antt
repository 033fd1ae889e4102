-- What the parser's state means: the tokens that are unread, the next one first, and how they end.
use Rattle.std.specs.Prelude.{◌≡◌, ℕ, ◌+◌, ◌*◌, ◌≤◌, List, [], ◌∷◌, length, take}
use Rattle.std.specs.Borrow.{Bor}
use Rattle.grammar.specs.Tokens.{Tok, Item}
use Rattle.grammar.specs.Limits.{Ending}
use Rattle.lexer.specs.declared.token.Lexeme.{Lexeme}
use Rattle.lexer.specs.Spelling.{lowered}
use Rattle.lexer.specs.Lexemes.{meant}
use Rattle.lexer.specs.Scan.{Scan, follow, scan, limit, limited}
use Rattle.lexer.specs.Names.{Known, known, tok, items, ends}
use Rattle.parser.specs.declared.names.Names.{Names}
use Rattle.parser.specs.declared.parser.Parser.{Parser}

-- tokens with their places, and how they end
pub record Feed : Type 0 where
  pub tokens : List Item
  pub ending : Ending

-- one token before the others
abbrev pub more : Item → Feed → Feed
more x f = record { tokens = x ∷ f.tokens; ending = f.ending }

abbrev pub spellings : List (Bor (List ℕ)) → List (List ℕ)
spellings [] = []
spellings (w ∷ ws) = lowered w.now ∷ spellings ws

abbrev pub known_of : Names → Known
known_of n = known n.titled (take n.count (spellings n.words))

-- a token that has kept its limits, and those after it, as they are written
abbrev pub from : Lexeme → Scan
from l = follow (meant l.token) l.place (limited (scan l.end.place l.end.rest.now))

-- the unread tokens as they are written
abbrev pub written : Parser → Scan
written p = from p.lookahead

abbrev pub feed : Known → Scan → Feed
feed k s = record { tokens = items k s; ending = ends s }

abbrev pub ahead : Parser → Feed
ahead p = feed (known_of p.names) (written p)

-- the next token
abbrev pub next : Parser → Tok
next p = tok (known_of p.names) (meant p.lookahead.token)

abbrev pub unread : Parser → ℕ
unread p = length (ahead p).tokens

-- places stay small, at most 64 names are known, the next token has kept the limits of its length, and two nodes for each unread token can be counted: 40,000 is above twice the tokens of a text of 16,384 bytes
-- no part is a ghost field of the parser: `emit` lists a node where there may be no room, so every function would ask for Ready still
pub record Ready (p : Parser) : Type 0 where
  pub near : p.lookahead.place ≤ 16384
  pub within : p.lookahead.end.place + length p.lookahead.end.rest.now ≤ 16384
  pub few : p.names.count ≤ 64
  pub kept : limit (meant p.lookahead.token) ≡ 0
  pub room : p.count + 2 * unread p ≤ 40000
