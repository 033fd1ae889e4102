-- What emitting a node needs, and what it leaves.
use Rattle.std.specs.Prelude.{◌≡◌, ℕ, ◌+◌, ◌<◌, ◌≤◌, List, map, length, slice_index_or}
use Rattle.std.proofs.lemmas.List.Edits.{sets}
use Rattle.tosca.specs.declared.table.Entry.{Entry}
use Rattle.tosca.specs.Table.{blank, node}
use Rattle.tosca.specs.Decode.{expr_at, cmd_at}
use Rattle.tosca.specs.Opens.{sort, is_expr, is_cmd}
use Rattle.statics.specs.Temporaries.{need}
use Rattle.aida.specs.declared.instructions.Coded.{Coded}
use Rattle.aida.specs.Templates.{expr_length, cmd_length}
use Rattle.code.specs.CodeTable.{code_entry}
use Rattle.agreement.specs.Premises.{ExprNames, CmdFits}
use Rattle.translator.specs.declared.emitter.Emitter.{Emitter}

-- the instructions were written from a number on, as far as there is room in the lent table, and the next number is so many further
pub record Stores (before : Emitter) (at : ℕ) (is : List Coded) (further : ℕ) (after : Emitter) : Type 0 where
  pub table : after.table.now ≡ sets before.table.now at (map code_entry is)
  pub next : after.next ≡ before.next + further
  pub lent : after.table.ghost_name ≡ before.table.ghost_name

-- they were written as the next instructions
abbrev pub Emitted : Emitter → List Coded → Emitter → Type 0
Emitted before is after = Stores before before.next is (length is) after

-- the node n is an expression; its names, its temporaries from the cell c on, and its code from the number p on are within the limits
pub record ExprReady (t : List Entry) (n c p : ℕ) : Type 0 where
  pub below : n < length t
  pub is : sort (node (slice_index_or t n blank)) ≡ is_expr
  pub names : ExprNames (expr_at t n)
  pub cells : c + need (expr_at t n) ≤ 96
  pub short : p + expr_length (expr_at t n) ≤ 2048

-- the same of a command
pub record CmdReady (t : List Entry) (n p : ℕ) : Type 0 where
  pub below : n < length t
  pub is : sort (node (slice_index_or t n blank)) ≡ is_cmd
  pub fitting : CmdFits (cmd_at t n)
  pub short : p + cmd_length (cmd_at t n) ≤ 2048
