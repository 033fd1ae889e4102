-- Questions 3 and 4, asked of one token.
use Rattle.std.specs.Prelude.{ℕ, zero, suc, cond, List, ℤ, pos, Some, None, Option, nat_le}
use Rattle.lexer.specs.Spelling.{value}
use Rattle.lexer.specs.Lexemes.{Lexed, lexeme, none}
use Rattle.lexer.specs.Scan.{limit}

-- the number that digits spell, where it is at most this
abbrev pub number_within : ℕ → List ℕ → Option ℕ
number_within most ds = cond (nat_le (value ds) most) (Some (value ds)) None

-- the number that digits spell, where it is at most 2,147,483,647
abbrev pub decimal : List ℕ → Option ℤ
decimal ds = cond (nat_le (value ds) 2147483647) (Some (pos (value ds))) None

-- a token, or the number of the question that it fails
abbrev pub asked_by : ℕ → Lexed → ℕ → Lexed
asked_by zero l p = l
asked_by (suc n) l p = none (suc n) p

abbrev pub asked : Lexed → Lexed
asked (lexeme r p a cs) = asked_by (limit r) (lexeme r p a cs) p
asked (none n p) = none n p
