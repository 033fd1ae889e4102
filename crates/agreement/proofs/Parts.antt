-- What holds of every name in a command holds in its parts.
use Rattle.std.proofs.Common.{◌≡◌, ℕ, true, List, Some, None, Option, refl, inl, inr}
use Rattle.tosca.specs.declared.operators.SimpleType.{SimpleType}
use Rattle.tosca.specs.Trees.{Expr, var, Cmd, assign, seq, choice, loop, input, Decl}
use Rattle.tosca.specs.Types.{decl_of, declared_type, type_in}
use Rattle.draft.specs.Subtrees.{ExprIn, CmdIn}
use Rattle.statics.specs.Typing.{is_declared}
use Rattle.statics.specs.StaticLaws.{Declares, Names}
use Rattle.statics.proofs.Declared.{has_declared}

names_in : (x : ℕ) (c d : Cmd ℕ) → ((e : Expr ℕ) → ExprIn e c → ExprIn e d) → ((b : Cmd ℕ) → CmdIn b c → CmdIn b d) → Names x c → Names x d
names_in x c d f g (k, inl h) = (k, inl (f (var k x) h))
names_in x c d f g (k, inr (inl h)) = (k, inr (inl (h.0, g (assign k x h.0) h.1)))
names_in x c d f g (k, inr (inr h)) = (k, inr (inr (g (input k x) h)))

-- whatever is so of every name and every expression in a command is so in its parts
module _ (P : ℕ → Type 0) where
  abbrev pub Each : Cmd ℕ → Type 0
  Each c = (x : ℕ) → Names x c → P x

  part : (c d : Cmd ℕ) → ((e : Expr ℕ) → ExprIn e c → ExprIn e d) → ((b : Cmd ℕ) → CmdIn b c → CmdIn b d) → Each d → Each c
  part c d f g h = λ x n. h x (names_in x c d f g n)

  pub first_of : (n : ℕ) (a b : Cmd ℕ) → Each (seq n a b) → Each a
  first_of n a b h = part a (seq n a b) (λ e i. inl i) (λ c i. inr (inl i)) h

  pub second_of : (n : ℕ) (a b : Cmd ℕ) → Each (seq n a b) → Each b
  second_of n a b h = part b (seq n a b) (λ e i. inr i) (λ c i. inr (inr i)) h

  pub then_of : (n : ℕ) (e : Expr ℕ) (a b : Cmd ℕ) → Each (choice n e a b) → Each a
  then_of n e a b h = part a (choice n e a b) (λ s i. inr (inl i)) (λ c i. inr (inl i)) h

  pub else_of : (n : ℕ) (e : Expr ℕ) (a b : Cmd ℕ) → Each (choice n e a b) → Each b
  else_of n e a b h = part b (choice n e a b) (λ s i. inr (inr i)) (λ c i. inr (inr i)) h

  pub body_of : (n : ℕ) (e : Expr ℕ) (b : Cmd ℕ) → Each (loop n e b) → Each b
  body_of n e b h = part b (loop n e b) (λ s i. inr i) (λ c i. inr i) h

-- a declared name has a type
has_type : (o : Option (Decl ℕ)) → is_declared o ≡ true → (y : SimpleType) × (declared_type o ≡ Some y)
has_type (Some d) e = (d.type, refl)
has_type None e = cc

pub declared_type_lem : (ds : List (Decl ℕ)) (x : ℕ) → Declares ds x → (y : SimpleType) × (type_in ds x ≡ Some y)
declared_type_lem ds x d = has_type (decl_of ds x) (has_declared ds x d)
