-- The words that are never names: the 35 word symbols of ISO 7185, and integer, boolean, true, false, read, write, round.
use Rattle.std.specs.Prelude.{ℕ, true, false, cond, List, [], ◌∷◌, Some, None, codes, Option, ◌==◌}
use Rattle.tosca.specs.declared.operators.SimpleType.TheVariants.{Integer, Boolean}
use Rattle.tosca.specs.declared.operators.Value.TheVariants.{Truth}
use Rattle.grammar.specs.declared.symbols.Multiplying.TheVariants.{Times, Div, And}
use Rattle.grammar.specs.declared.symbols.Adding.TheVariants.{Plus, Minus, Or}
use Rattle.grammar.specs.declared.symbols.Relation.TheVariants.{Equal, Less, Greater}
use Rattle.grammar.specs.declared.symbols.Operator.TheVariants.{Mul, Add, Rel}
use Rattle.grammar.specs.declared.symbols.Prefix.TheVariants.{Open, Not, Round}
use Rattle.grammar.specs.declared.symbols.Start.TheVariants.{Begin, If, While, Read, Write}
use Rattle.grammar.specs.declared.symbols.Mark.TheVariants.{Program, Var, Semicolon, Comma, Colon, Close, Slash, Then, Do, End, Period}
use Rattle.grammar.specs.Tokens.{Tok, lit, op, pre, start, else', unused, ty, mark}
use Rattle.lexer.specs.Spelling.{same}

-- a reserved word and its token
pub record Word : Type 0 where
  pub spelled : List ℕ
  pub token : Tok

abbrev pub word : List ℕ → Tok → Word
word w t = record { spelled = w; token = t }

abbrev pub reserved : List Word
reserved =
    word (codes "and") (op (Mul And)) ∷
    word (codes "array") (unused) ∷
    word (codes "begin") (start Begin) ∷
    word (codes "case") (unused) ∷
    word (codes "const") (unused) ∷
    word (codes "div") (op (Mul Div)) ∷
    word (codes "do") (mark Do) ∷
    word (codes "downto") (unused) ∷
    word (codes "else") (else') ∷
    word (codes "end") (mark End) ∷
    word (codes "file") (unused) ∷
    word (codes "for") (unused) ∷
    word (codes "function") (unused) ∷
    word (codes "goto") (unused) ∷
    word (codes "if") (start If) ∷
    word (codes "in") (unused) ∷
    word (codes "label") (unused) ∷
    word (codes "mod") (unused) ∷
    word (codes "nil") (unused) ∷
    word (codes "not") (pre Not) ∷
    word (codes "of") (unused) ∷
    word (codes "or") (op (Add Or)) ∷
    word (codes "packed") (unused) ∷
    word (codes "procedure") (unused) ∷
    word (codes "program") (mark Program) ∷
    word (codes "record") (unused) ∷
    word (codes "repeat") (unused) ∷
    word (codes "set") (unused) ∷
    word (codes "then") (mark Then) ∷
    word (codes "to") (unused) ∷
    word (codes "type") (unused) ∷
    word (codes "until") (unused) ∷
    word (codes "var") (mark Var) ∷
    word (codes "while") (start While) ∷
    word (codes "with") (unused) ∷
    word (codes "integer") (ty Integer) ∷
    word (codes "boolean") (ty Boolean) ∷
    word (codes "true") (lit (Truth true)) ∷
    word (codes "false") (lit (Truth false)) ∷
    word (codes "read") (start Read) ∷
    word (codes "write") (start Write) ∷
    word (codes "round") (pre Round) ∷ []

-- the first of the words that is spelled so
abbrev pub find : List ℕ → List Word → Option Tok
find w [] = None
find w (x ∷ xs) = cond (same w x.spelled) (Some x.token) (find w xs)

-- the token that a character is by itself
abbrev pub symbol : ℕ → Option Tok
symbol b =
    (cond (b == 43) (Some (op (Add Plus)))
    (cond (b == 45) (Some (op (Add Minus)))
    (cond (b == 42) (Some (op (Mul Times)))
    (cond (b == 47) (Some (mark Slash))
    (cond (b == 40) (Some (pre Open))
    (cond (b == 41) (Some (mark Close))
    (cond (b == 61) (Some (op (Rel Equal)))
    (cond (b == 60) (Some (op (Rel Less)))
    (cond (b == 62) (Some (op (Rel Greater)))
    (cond (b == 58) (Some (mark Colon))
    (cond (b == 59) (Some (mark Semicolon))
    (cond (b == 44) (Some (mark Comma))
    (cond (b == 46) (Some (mark Period))
    None)))))))))))))
