-- Small routines, and what the check says of them.
use Rattle.std.specs.Prelude.{◌≡◌, ℕ, zero, suc, ◌+◌, ◌*◌, [], ◌∷◌, pos, Ok, Err}
use Rattle.tosca.specs.declared.operators.SimpleType.{SimpleType}
use Rattle.tosca.specs.declared.operators.SimpleType.TheVariants.{Integer, Boolean}
use Rattle.tosca.specs.declared.operators.Value.TheVariants.{Number}
use Rattle.tosca.specs.declared.operators.Binary.TheVariants.{Add}
use Rattle.tosca.specs.Trees.{Expr, const, var, bin, Cmd, skip, assign, seq, choice, input, output, Decl, Program}
use Rattle.statics.specs.declared.rules.Rule.TheVariants.{DeclaredOnce, Declared, Typed, Set, Temporaries}
use Rattle.statics.specs.Temporaries.{need}
use Rattle.statics.specs.Checking.{violation, checking}

abbrev pub decl : ℕ → ℕ → SimpleType → Decl ℕ
decl n x y = record { label = n; name = x; type = y }

-- the variable 0 added to itself n times, as x + x + x, which groups to the left; its nodes are numbered from m on
abbrev pub sum : ℕ → ℕ → Expr ℕ
sum m zero = var m 0
sum m (suc n) = bin (m + 2 * suc n) (sum m n) Add (var (m + (2 * n + 1)) 0)

-- read(x); write(x + .. + x), with n + 1 variables
abbrev pub sums : ℕ → Program ℕ
sums n =
    record {
      label = 5 + 2 * n;
      decls = decl 0 0 Integer ∷ [];
      body = seq (4 + 2 * n) (input 1 0) (output (3 + 2 * n) (sum 2 n));
    }

-- read(b); if b then x := 1 else c; write(x), where b is the variable 0 and x the variable 1
abbrev pub branch : Cmd ℕ → Program ℕ
branch c =
    record {
      label = 13;
      decls = decl 0 0 Boolean ∷ decl 1 1 Integer ∷ [];
      body = seq 12 (input 2 0) (seq 11 (choice 8 (var 3 0) (assign 5 1 (const 4 (Number (pos 1)))) c) (output 10 (var 9 1)));
    }

-- b := e, where only b is declared, as a Boolean
abbrev pub assigned : Expr ℕ → Program ℕ
assigned e = record { label = 4; decls = decl 0 0 Boolean ∷ []; body = assign 3 0 e }

pub record Worked : Type 0 where
  -- 33 variables need 32 temporaries, and that is the most
  pub most : need (sum 0 32) ≡ 32
  pub fits : checking (sums 32) ≡ Ok tt
  pub large : checking (sums 33) ≡ Err (violation Temporaries 68)
  -- without an `else`, one path reads x unset
  pub one_branch : checking (branch (skip 7)) ≡ Err (violation Set 9)
  pub both_branches : checking (branch (assign 7 1 (const 6 (Number (pos 2))))) ≡ Ok tt
  pub undeclared : checking (assigned (var 2 1)) ≡ Err (violation Declared 2)
  pub mistyped : checking (assigned (const 2 (Number (pos 1)))) ≡ Err (violation Typed 3)
  pub twice : checking (record { label = 3; decls = decl 0 0 Boolean ∷ decl 1 0 Integer ∷ []; body = skip 2 }) ≡ Err (violation DeclaredOnce 1)
