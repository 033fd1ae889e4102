-- Tokens, grouped by their part in the grammar, and what the next token is.
use Rattle.std.specs.Prelude.{ℕ, Bool, true, false, List, [], ◌∷◌, ◌==◌}
use Rattle.tosca.specs.declared.operators.SimpleType.{SimpleType}
use Rattle.tosca.specs.declared.operators.Value.{Value}
use Rattle.grammar.specs.declared.symbols.Multiplying.{Multiplying}
use Rattle.grammar.specs.declared.symbols.Adding.{Adding}
use Rattle.grammar.specs.declared.symbols.Relation.{Relation}
use Rattle.grammar.specs.declared.symbols.Operator.{Operator}
use Rattle.grammar.specs.declared.symbols.Operator.TheVariants.{Mul, Add, Rel}
use Rattle.grammar.specs.declared.symbols.Prefix.{Prefix}
use Rattle.grammar.specs.declared.symbols.Start.{Start}
use Rattle.grammar.specs.declared.symbols.Mark.{Mark}
use Rattle.grammar.specs.declared.symbols.Mark.TheVariants.{Program, Var, Semicolon, Comma, Colon, Becomes, Close, Slash, Then, Do, End, Period, Stop}

-- a name has its number; the words that the grammar uses nowhere are all one token
pub data Tok : Type 0 where
  name : ℕ → Tok
  lit : Value → Tok
  op : Operator → Tok
  pre : Prefix → Tok
  start : Start → Tok
  else' : Tok
  unused : Tok
  ty : SimpleType → Tok
  mark : Mark → Tok

-- a token and its place, the offset of its first byte
pub data Item : Type 0 where
  at : Tok → ℕ → Item

abbrev pub code : Mark → ℕ
code Program = 0
code Var = 1
code Semicolon = 2
code Comma = 3
code Colon = 4
code Becomes = 5
code Close = 6
code Slash = 7
code Then = 8
code Do = 9
code End = 10
code Period = 11
code Stop = 12

abbrev pub same : Mark → Mark → Bool
same a b = code a == code b

-- something seen, or not
pub data Seen (A : Type 0) : Type 0 where
  no : Seen A
  yes : A → Seen A

abbrev pub pick : {A B : Type 0} → Seen A → B → (A → B) → B
pick no b f = b
pick (yes a) b f = f a

abbrev pub as_mul : Tok → Seen Multiplying
as_mul (op (Mul o)) = yes o
as_mul (op (Add o)) = no
as_mul (op (Rel o)) = no
as_mul (name n) = no
as_mul (lit l) = no
as_mul (pre x) = no
as_mul (start x) = no
as_mul else' = no
as_mul unused = no
as_mul (ty x) = no
as_mul (mark m) = no

abbrev pub as_add : Tok → Seen Adding
as_add (op (Mul o)) = no
as_add (op (Add o)) = yes o
as_add (op (Rel o)) = no
as_add (name n) = no
as_add (lit l) = no
as_add (pre x) = no
as_add (start x) = no
as_add else' = no
as_add unused = no
as_add (ty x) = no
as_add (mark m) = no

abbrev pub as_rel : Tok → Seen Relation
as_rel (op (Mul o)) = no
as_rel (op (Add o)) = no
as_rel (op (Rel o)) = yes o
as_rel (name n) = no
as_rel (lit l) = no
as_rel (pre x) = no
as_rel (start x) = no
as_rel else' = no
as_rel unused = no
as_rel (ty x) = no
as_rel (mark m) = no

abbrev pub is_else : Tok → Bool
is_else (op o) = false
is_else (name n) = false
is_else (lit l) = false
is_else (pre x) = false
is_else (start x) = false
is_else else' = true
is_else unused = false
is_else (ty x) = false
is_else (mark m) = false

-- the token begins a command
abbrev pub is_cmd : Tok → Bool
is_cmd (op o) = false
is_cmd (name n) = true
is_cmd (lit l) = false
is_cmd (pre x) = false
is_cmd (start x) = true
is_cmd else' = false
is_cmd unused = false
is_cmd (ty x) = false
is_cmd (mark m) = false

-- the same of the next token
abbrev pub next_mul : List Item → Seen Multiplying
next_mul [] = no
next_mul (at t p ∷ ts) = as_mul t

abbrev pub next_add : List Item → Seen Adding
next_add [] = no
next_add (at t p ∷ ts) = as_add t

abbrev pub next_rel : List Item → Seen Relation
next_rel [] = no
next_rel (at t p ∷ ts) = as_rel t

abbrev pub next_else : List Item → Bool
next_else [] = false
next_else (at t p ∷ ts) = is_else t

abbrev pub next_cmd : List Item → Bool
next_cmd [] = false
next_cmd (at t p ∷ ts) = is_cmd t

-- the place of the next token
abbrev pub next_place : List Item → ℕ
next_place [] = 0
next_place (at t p ∷ ts) = p
