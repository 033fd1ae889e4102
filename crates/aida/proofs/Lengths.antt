-- At most two instructions a node.
use Rattle.std.proofs.Common.{ℕ, ◌*◌, ◌≤◌, length, arith}
use Rattle.tosca.specs.Trees.{Expr, const, var, uny, bin, Cmd, skip, assign, seq, choice, loop, input, output, Program}
use Rattle.tosca.specs.Types.{type_in}
use Rattle.aida.specs.Templates.{expr_length, cmd_length, code}
use Rattle.aida.specs.TemplateLaws.{expr_nodes, cmd_nodes, program_nodes, Lengths}
use Rattle.aida.proofs.Codes.{length_expr_code, length_cmd_code}

expr_few : (e : Expr ℕ) → expr_length e ≤ 2 * expr_nodes e
unfolding expr_length expr_nodes
expr_few (const n v) = omega arith
expr_few (var n x) = omega arith
expr_few (uny n o e) = omega (arith, expr_few e)
expr_few (bin n a o b) = omega (arith, expr_few a, expr_few b)

cmd_few : (b : Cmd ℕ) → cmd_length b ≤ 2 * cmd_nodes b
unfolding cmd_length cmd_nodes
cmd_few (skip n) = omega arith
cmd_few (assign n x e) = omega (arith, expr_few e)
cmd_few (seq n a b) = omega (arith, cmd_few a, cmd_few b)
cmd_few (choice n e a b) = omega (arith, expr_few e, cmd_few a, cmd_few b)
cmd_few (loop n e b) = omega (arith, expr_few e, cmd_few b)
cmd_few (input n x) = omega arith
cmd_few (output n e) = omega (arith, expr_few e)

few : (p : Program ℕ) → length (code p) ≤ 2 * program_nodes p
few p = omega (arith, length_cmd_code (type_in p.decls) 0 p.body, cmd_few p.body)

pub lengths : Lengths
lengths = record { expr = length_expr_code; cmd = length_cmd_code; few = few }
