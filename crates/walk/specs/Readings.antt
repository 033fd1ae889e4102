-- The readings of this crate, and sets of variables as numbers.
use Rattle.std.specs.Prelude.{◌≡◌, ℕ, ◌+◌, ◌/◌, ◌%◌, ◌^◌, ◌<◌, min, max, Bool, true, List, length, None, Option, ◌==◌, bit_or, slice_index, slice_index_or}
use Rattle.tosca.specs.declared.operators.SimpleType.{SimpleType}
use Rattle.tosca.specs.declared.table.Entry.{Entry}
use Rattle.tosca.specs.Trees.{Expr, var}
use Rattle.tosca.specs.Decode.{expr_at}
use Rattle.draft.specs.Subtrees.{InExpr}
use Rattle.statics.specs.Folding.{Algebra}
use Rattle.walk.specs.declared.types.Typing.{Typing}
use Rattle.walk.specs.Walking.{IsExpr}

-- the type of each name
abbrev pub types_of : Typing → ℕ → Option SimpleType
types_of s x = slice_index_or s.types x None

-- temporaries needed, where no count passes 65,535
abbrev pub needing : Algebra ℕ
needing = record { constant = λ v. 0; variable = λ x. 0; unary = λ o a. a; binary = λ o a b. max b (min (a + 1) 65535) }

-- the set s has x: bit x of the number s is 1
abbrev pub holds : ℕ → ℕ → Bool
holds s x = s / 2 ^ x % 2 == 1

-- variables read, as a set
abbrev pub variables : Algebra ℕ
variables = record { constant = λ v. 0; variable = λ x. 2 ^ x; unary = λ o a. a; binary = λ o a b. bit_or a b }

-- some node of the expression reads x
abbrev pub Reads : Expr ℕ → ℕ → Type 0
Reads e x = (n : ℕ) × InExpr (var n x) e

-- the set has what the expression reads, and nothing else
pub record SetRead (s : ℕ) (e : Expr ℕ) : Type 0 where
  pub all : (x : ℕ) → Reads e x → holds s x ≡ true
  pub only : (x : ℕ) → holds s x ≡ true → Reads e x

-- at each expression of the table stands the set of what it reads
abbrev pub EachReads : List Entry → List ℕ → Type 0
EachReads t sets = (n : ℕ) → n < length sets → IsExpr t n → SetRead (slice_index sets n) (expr_at t n)
