-- The token at the front of a text, after blanks and comments.
use Rattle.std.specs.Prelude.{ℕ, ◌+◌, Bool, false, cond, ◌&&◌, List, [], ◌∷◌, take, drop, Some, None, Ok, Err, Option, Result, ◌==◌}
use Rattle.grammar.specs.declared.symbols.Mark.TheVariants as m
use Rattle.grammar.specs.Tokens.{Tok, op, pre, start, else', unused, ty, mark}
use Rattle.grammar.specs.Tokens as g
use Rattle.tosca.specs.declared.operators.Value.TheVariants as v
use Rattle.lexer.specs.declared.token.Token.{Token}
use Rattle.lexer.specs.declared.token.Token.TheVariants.{Name, Number, Truth, Operator, Prefix, Start, Else, TypeName, Mark, Unused}
use Rattle.lexer.specs.declared.token.Lexeme.{Lexeme}
use Rattle.lexer.specs.declared.token.Question.{Question}
use Rattle.lexer.specs.declared.token.Question.TheVariants.{TextLength, NameLength, NumberSize, Grammar, Depth, NameCount, NodeCount}
use Rattle.lexer.specs.declared.token.Question.TheVariants as q
use Rattle.lexer.specs.declared.token.Refusal.{Refusal}
use Rattle.lexer.specs.Spelling.{letter, digit, alphanumeric, blank, lowered, run}
use Rattle.lexer.specs.Words.{reserved, find, symbol}

-- a token as it is written: a name, digits, or any other
pub data Raw : Type 0 where
  name : List ℕ → Raw
  number : List ℕ → Raw
  other : Tok → Raw

-- what the program's tokens mean
abbrev pub meant : Token → Raw
meant (Name w) = name w.now
meant (Number w) = number w.now
meant (Truth b) = other (g.lit (v.Truth b))
meant (Operator o) = other (op o)
meant (Prefix x) = other (pre x)
meant (Start x) = other (start x)
meant Else = other else'
meant (TypeName y) = other (ty y)
meant (Mark x) = other (mark x)
meant Unused = other unused

-- the numbers of the questions
abbrev pub number_of : Question → ℕ
number_of TextLength = 1
number_of q.Token = 2
number_of NameLength = 3
number_of NumberSize = 4
number_of Grammar = 5
number_of Depth = 6
number_of NameCount = 7
number_of NodeCount = 8

-- where blanks and comments end, or the place of a comment that is not closed
pub data Gap : Type 0 where
  gap : ℕ → List ℕ → Gap
  unclosed : ℕ → Gap

-- outside every comment, or in the comment that opened at a place
pub data Mode : Type 0 where
  outside : Mode
  inside : ℕ → Mode

-- a comment goes from { to the first }
abbrev pub skip_in : Mode → ℕ → List ℕ → Gap
skip_in outside p [] = gap p []
skip_in (inside o) p [] = unclosed o
skip_in outside p (b ∷ bs) = cond (blank b) (skip_in outside (p + 1) bs) (cond (b == 123) (skip_in (inside p) (p + 1) bs) (gap p (b ∷ bs)))
skip_in (inside o) p (b ∷ bs) = cond (b == 125) (skip_in outside (p + 1) bs) (skip_in (inside o) (p + 1) bs)

abbrev pub skip : ℕ → List ℕ → Gap
skip p bs = skip_in outside p bs

-- a token, its place, the place after it and what stands there; or the number and place of a refusal
pub data Lexed : Type 0 where
  lexeme : Raw → ℕ → ℕ → List ℕ → Lexed
  none : ℕ → ℕ → Lexed

abbrev pub lex_meant : Result Lexeme Refusal → Lexed
lex_meant (Ok l) = lexeme (meant l.token) l.place l.end.place l.end.rest.now
lex_meant (Err e) = none (number_of e.question) e.place

abbrev pub symbol_or : ℕ → List ℕ → Option Tok → Lexed
symbol_or p bs (Some t) = lexeme (other t) p (p + 1) bs
symbol_or p bs None = none 2 p

-- `:=` is one token where the two touch; no byte is left at the end
abbrev pub symbol_at : ℕ → List ℕ → Lexed
symbol_at p [] = lexeme (other (mark m.Stop)) p p []
symbol_at p (b ∷ []) = symbol_or p [] (symbol b)
symbol_at p (b ∷ c ∷ bs) = cond (b == 58 && c == 61) (lexeme (other (mark m.Becomes)) p (p + 2) bs) (symbol_or p (c ∷ bs) (symbol b))

-- a word is reserved, capitals counting as small letters, or a name
abbrev pub word_or : List ℕ → Option Tok → Raw
word_or w (Some t) = other t
word_or w None = name w

abbrev pub keyword : List ℕ → Raw
keyword w = word_or w (find (lowered w) reserved)

-- a word is a letter and all letters and digits after it
abbrev pub word_at : ℕ → List ℕ → Lexed
word_at p bs = lexeme (keyword (take (run alphanumeric bs) bs)) p (p + run alphanumeric bs) (drop (run alphanumeric bs) bs)

-- a letter stands at the front
abbrev pub touched : List ℕ → Bool
touched [] = false
touched (b ∷ bs) = letter b

-- a number is digits that no letter touches
abbrev pub number_at : ℕ → List ℕ → Lexed
number_at p bs = cond (touched (drop (run digit bs) bs)) (none 2 p) (lexeme (number (take (run digit bs) bs)) p (p + run digit bs) (drop (run digit bs) bs))

abbrev pub token_at : ℕ → List ℕ → Lexed
token_at p [] = symbol_at p []
token_at p (b ∷ bs) = cond (letter b) (word_at p (b ∷ bs)) (cond (digit b) (number_at p (b ∷ bs)) (symbol_at p (b ∷ bs)))

abbrev pub lex_from : Gap → Lexed
lex_from (gap p bs) = token_at p bs
lex_from (unclosed p) = none 2 p

-- question 2: the token at the front of bs, which begin at place p
abbrev pub lex : ℕ → List ℕ → Lexed
lex p bs = lex_from (skip p bs)
