-- Which variables of a draft are set.
use Rattle.std.specs.Prelude.{◌≡◌, ℕ, ◌<◌, true, List, length, Option, slice_index, slice_index_or}
use Rattle.tosca.specs.declared.table.Entry.{Entry}
use Rattle.tosca.specs.Table.{blank, node}
use Rattle.tosca.specs.Trees.{Cmd}
use Rattle.tosca.specs.Decode.{expr_at}
use Rattle.tosca.specs.Opens.{Sort, sort}
use Rattle.statics.specs.Choosing.{lowest}
use Rattle.statics.specs.Setting.{Vars, after, unset}
use Rattle.walk.specs.Walking.{IsExpr}
use Rattle.walk.specs.Readings.{holds, Reads}

-- the node n of the table is of the sort
pub record IsNode (t : List Entry) (n : ℕ) (s : Sort) : Type 0 where
  pub below : n < length t
  pub is : sort (node (slice_index_or t n blank)) ≡ s

-- at each expression of the table stands a set that has what it reads
abbrev pub HasReads : List Entry → List ℕ → Type 0
HasReads t sets = (n x : ℕ) → n < length sets → IsExpr t n → Reads (expr_at t n) x → holds (slice_index sets n) x ≡ true

-- what a command comes to where the variables of s are set before it: the set m after it, and the lowest node f at fault in it
pub record Comes (c : Cmd ℕ) (s : Vars) (m : ℕ) (f : Option ℕ) : Type 0 where
  pub set : holds m ≡ after c s
  pub fault : f ≡ lowest (unset s c)
