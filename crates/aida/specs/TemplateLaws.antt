-- How long the code is, at most two instructions a node; and that its targets and cells exist.
use Rattle.std.specs.Prelude.{◌≡◌, ℕ, suc, ◌+◌, ◌*◌, ◌≤◌, Bool, true, List, length, nat_le}
use Rattle.std.specs.List.{list_all}
use Rattle.tosca.specs.Trees.{Expr, const, var, uny, bin, Cmd, skip, assign, seq, choice, loop, input, output, Program}
use Rattle.aida.specs.declared.instructions.Instruction.{Instruction}
use Rattle.aida.specs.declared.instructions.Instruction.TheVariants.{LoadConst, LoadVar, Store, UnaryOp, BinaryOp, Input, InputBit, Output, Jump, Goto}
use Rattle.aida.specs.declared.instructions.Coded.{Coded}
use Rattle.tosca.specs.Types.{Types}
use Rattle.aida.specs.Templates.{expr_length, expr_code, cmd_length, cmd_code, code}

unfoldable pub expr_nodes : Expr ℕ → ℕ
expr_nodes (const n v) = 1
expr_nodes (var n x) = 1
expr_nodes (uny n o e) = suc (expr_nodes e)
expr_nodes (bin n a o b) = suc (expr_nodes a + expr_nodes b)

unfoldable pub cmd_nodes : Cmd ℕ → ℕ
cmd_nodes (skip n) = 1
cmd_nodes (assign n x e) = suc (expr_nodes e)
cmd_nodes (seq n a b) = suc (cmd_nodes a + cmd_nodes b)
cmd_nodes (choice n e a b) = suc (expr_nodes e + (cmd_nodes a + cmd_nodes b))
cmd_nodes (loop n e b) = suc (expr_nodes e + cmd_nodes b)
cmd_nodes (input n x) = 1
cmd_nodes (output n e) = suc (expr_nodes e)

-- each declaration is a node, and so is the program
abbrev pub program_nodes : Program ℕ → ℕ
program_nodes p = length p.decls + suc (cmd_nodes p.body)

pub record Lengths : Type 0 where
  pub expr : (c : ℕ) (e : Expr ℕ) → length (expr_code c e) ≡ expr_length e
  pub cmd : (ty : Types) (p : ℕ) (b : Cmd ℕ) → length (cmd_code ty p b) ≡ cmd_length b
  pub few : (p : Program ℕ) → length (code p) ≤ 2 * program_nodes p

-- a target is at most the count of the instructions, a cell at most 95
abbrev pub addressed : ℕ → Instruction → Bool
addressed count (LoadConst v) = true
addressed count (LoadVar c) = nat_le c 95
addressed count (Store c) = nat_le c 95
addressed count (UnaryOp o) = true
addressed count (BinaryOp o c) = nat_le c 95
addressed count Input = true
addressed count InputBit = true
addressed count Output = true
addressed count (Jump t) = nat_le t count
addressed count (Goto t) = nat_le t count

unfoldable pub all_addressed : ℕ → List Coded → Bool
all_addressed count = list_all (λ i. addressed count i.instruction)
