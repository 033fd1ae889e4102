-- What the parser does at the front of the text that is left: it reads the next token.
use Rattle.std.specs.Prelude.{◌≡◌, ℕ, ◌+◌, ◌≤◌, List, length, Ok, Err, Result}
use Rattle.lexer.specs.declared.token.Lexeme.{Lexeme}
use Rattle.lexer.specs.declared.token.Refusal.{Refusal}
use Rattle.lexer.specs.Lexemes.{meant, number_of}
use Rattle.lexer.specs.Scan.{scan, limit, limited}
use Rattle.lexer.specs.Scan as s
use Rattle.lexer.specs.Names.{nothing}
use Rattle.parser.specs.declared.names.Names.{Names}
use Rattle.parser.specs.declared.parser.Parser.{Parser}
use Rattle.parser.specs.Feeds.{feed, known_of, written, ahead, Ready}
use Rattle.parser.specs.Advancing.{broken}

-- the parser with the lexeme as its next token
abbrev pub onto : Lexeme → Names → ℕ → Parser
onto l m c = record { lookahead = l; names = m; count = c }

-- the parser with another count
abbrev pub counting : Parser → ℕ → Parser
counting p c = record { lookahead = p.lookahead; names = p.names; count = c }

-- the token after the next one of p is the next of q
pub record Fetched (p q : Parser) : Type 0 where
  pub tokens : written p ≡ s.more (meant p.lookahead.token) p.lookahead.place (written q)
  pub near : q.lookahead.place ≤ 16384
  pub within : q.lookahead.end.place + length q.lookahead.end.rest.now ≤ 16384
  pub kept : limit (meant q.lookahead.token) ≡ 0
  pub names : q.names ≡ p.names
  pub count : q.count ≡ p.count

abbrev pub Fetches : {A : Type 0} → Parser → Parser → Result A Refusal → Type 0
Fetches p q (Ok u) = Fetched p q
Fetches p q (Err e) = written p ≡ s.more (meant p.lookahead.token) p.lookahead.place (s.broken (number_of e.question) e.place)

-- nothing of the text is read
pub record Fresh (text : List ℕ) (p : Parser) : Type 0 where
  pub tokens : ahead p ≡ feed nothing (limited (scan 0 text))
  pub ready : Ready p
  pub count : p.count ≡ 0
  pub names : known_of p.names ≡ nothing

abbrev pub Begun : List ℕ → Result Parser Refusal → Type 0
Begun text (Ok p) = Fresh text p
Begun text (Err e) = feed nothing (limited (scan 0 text)) ≡ broken e
