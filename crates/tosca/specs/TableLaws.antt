-- The table's format loses nothing.
use Rattle.std.specs.Prelude.{◌≡◌, ℕ, true, pos, Some, None, codes}
use Rattle.tosca.specs.declared.operators.Value.TheVariants.{Number, Truth}
use Rattle.tosca.specs.declared.operators.Binary.TheVariants.{Add}
use Rattle.tosca.specs.declared.table.Node.{Node}
use Rattle.tosca.specs.declared.table.Node.TheVariants.{Const, Bin, Skip}
use Rattle.tosca.specs.Table.{blank, entry, node}
use Rattle.tosca.specs.Text.{entry_text}

-- what is written as an entry is read again, with its place
pub record Faithful : Type 0 where
  pub said : (n : Node) (p : ℕ) → node (entry n p) ≡ Some n
  pub placed : (n : Node) (p : ℕ) → (entry n p).place ≡ p
  pub nothing : node blank ≡ None

pub record Written : Type 0 where
  pub number : entry_text (entry (Const (Number (pos 1))) 23) ≡ codes "const(1,integer)@23"
  pub truth : entry_text (entry (Const (Truth true)) 23) ≡ codes "const(1,boolean)@23"
  pub sum : entry_text (entry (Bin 0 Add 1) 7) ≡ codes "bin(0,+,1)@7"
  pub empty : entry_text (entry Skip 5) ≡ codes "skip()@5"
  pub none : entry_text blank ≡ codes "?()@0"
