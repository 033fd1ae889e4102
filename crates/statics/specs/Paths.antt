-- Paths through a routine: a path goes to the end as though nothing faulted or stopped,
-- takes either branch of a choice and any number of turns of a loop, or none.
use Rattle.std.specs.Prelude.{◌≡◌, ℕ, List, [], ◌∷◌, ◌++◌, ◌≢◌}
use Rattle.tosca.specs.Trees.{Expr, const, var, uny, bin, Cmd, skip, assign, seq, choice, loop, input, output}

-- the var node k reads the variable x, or x is set
pub data Event : Type 0 where
  reads : ℕ → ℕ → Event
  sets : ℕ → Event

-- what an expression reads, the right operand first
unfoldable pub reads_of : Expr ℕ → List Event
reads_of (const n v) = []
reads_of (var n x) = reads n x ∷ []
reads_of (uny n o e) = reads_of e
reads_of (bin n a o b) = reads_of b ++ reads_of a

pub data Path : Cmd ℕ → List Event → Type 0 where
  skips : {n : ℕ} → Path (skip n) []
  assigns : {n x : ℕ} {e : Expr ℕ} → Path (assign n x e) (reads_of e ++ sets x ∷ [])
  both : {n : ℕ} {a b : Cmd ℕ} {p q : List Event} → Path a p → Path b q → Path (seq n a b) (p ++ q)
  thens : {n : ℕ} {e : Expr ℕ} {a b : Cmd ℕ} {p : List Event} → Path a p → Path (choice n e a b) (reads_of e ++ p)
  elses : {n : ℕ} {e : Expr ℕ} {a b : Cmd ℕ} {p : List Event} → Path b p → Path (choice n e a b) (reads_of e ++ p)
  leaves : {n : ℕ} {e : Expr ℕ} {b : Cmd ℕ} → Path (loop n e b) (reads_of e)
  turns : {n : ℕ} {e : Expr ℕ} {b : Cmd ℕ} {p q : List Event} → Path b p → Path (loop n e b) q → Path (loop n e b) (reads_of e ++ (p ++ q))
  inputs : {n x : ℕ} → Path (input n x) (sets x ∷ [])
  outputs : {n : ℕ} {e : Expr ℕ} → Path (output n e) (reads_of e)

-- x is set nowhere among the events
abbrev pub NotSet : ℕ → List Event → Type 0
NotSet x [] = Unit {0}
NotSet x (reads k y ∷ p) = NotSet x p
NotSet x (sets y ∷ p) = (y ≢ x) × NotSet x p

-- the var node k reads its variable before any event sets it
pub record ReadsUnset (k : ℕ) (p : List Event) : Type 0 where
  pub name : ℕ
  pub before : List Event
  pub rest : List Event
  pub splits : p ≡ before ++ (reads k name ∷ rest)
  pub unset : NotSet name before

-- some path of the command reads the var node k while its variable is unset
abbrev pub UnsetOn : Cmd ℕ → ℕ → Type 0
UnsetOn c k = (p : List Event) × Path c p × ReadsUnset k p
