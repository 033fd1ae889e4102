-- One step at an instruction, and the lengths of code.
use Rattle.std.proofs.Common.{◌≡◌, ℕ, suc, ◌+◌, List, [], ◌∷◌, ◌++◌, length, refl, ap, ◌∙◌, arith, length-append}
use mathlib.Core.Option.{none, some}
use lib.ListN.{get_elem?}
use Rattle.aida.specs.declared.instructions.Instruction.TheVariants.{Store, UnaryOp, BinaryOp, Output, Jump, Goto}
use Rattle.aida.specs.declared.instructions.Coded.{Coded}
use Rattle.aida.specs.declared.status.Status.TheVariants.{Ready, Finished}
use Rattle.tosca.specs.Trees.{Expr, const, var, uny, bin, Cmd, skip, assign, seq, choice, loop, input, output}
use Rattle.tosca.specs.Types.{Types}
use Rattle.aida.specs.Machine.{Machine, with_status, perform, act, step}
use Rattle.aida.specs.Templates.{coded, expr_length, expr_code, cmd_length, cmd_code}
use Rattle.aida.proofs.Steps.{ready_step}

get_end : (code : List Coded) → get_elem? code (length code) ≡ none
get_end [] = refl
get_end (x ∷ xs) = get_end xs

module _ (code : List Coded) (limit allowed : ℕ) where
  pub step_at : (m : Machine) (i : Coded) → m.status ≡ Ready → get_elem? code m.counter ≡ some i → step code limit allowed m ≡ perform limit allowed m i.instruction i.node
  unfolding act
  step_at m i e h = ready_step code limit allowed m e ∙ ap (act limit allowed m Ready) h

  pub step_end : (m : Machine) → m.status ≡ Ready → m.counter ≡ length code → step code limit allowed m ≡ with_status Finished m
  unfolding act
  step_end m e h = ready_step code limit allowed m e ∙ ap (act limit allowed m Ready) (ap (get_elem? code) h ∙ get_end code)

pub length_expr_code : (c : ℕ) (e : Expr ℕ) → length (expr_code c e) ≡ expr_length e
unfolding expr_code expr_length
length_expr_code c (const n v) = refl
length_expr_code c (var n x) = refl
length_expr_code c (uny n o e) = omega (arith, length-append (expr_code c e) (coded n (UnaryOp o) ∷ []), length_expr_code c e)
length_expr_code c (bin n l o r) =
    omega (arith, length-append (expr_code c r) (coded n (Store c) ∷ (expr_code (suc c) l ++ coded n (BinaryOp o c) ∷ [])), length-append (expr_code (suc c) l) (coded n (BinaryOp o c) ∷ []), length_expr_code c r, length_expr_code (suc c) l)

pub length_cmd_code : (ty : Types) (p : ℕ) (b : Cmd ℕ) → length (cmd_code ty p b) ≡ cmd_length b
unfolding cmd_code cmd_length
length_cmd_code ty p (skip n) = refl
length_cmd_code ty p (assign n x e) = omega (arith, length-append (expr_code 64 e) (coded n (Store x) ∷ []), length_expr_code 64 e)
length_cmd_code ty p (seq n u v) =
    omega (arith, length-append (cmd_code ty p u) (cmd_code ty (p + cmd_length u) v), length_cmd_code ty p u, length_cmd_code ty (p + cmd_length u) v)
length_cmd_code ty p (choice n e u v) =
    let other = suc (suc (p + expr_length e) + cmd_length u) in
    let cu = cmd_code ty (suc (p + expr_length e)) u in
    let cv = coded n (Goto (other + cmd_length v)) ∷ cmd_code ty other v in
    omega (arith, length-append (expr_code 64 e) (coded n (Jump other) ∷ (cu ++ cv)), length-append cu cv, length_expr_code 64 e, length_cmd_code ty (suc (p + expr_length e)) u, length_cmd_code ty other v)
length_cmd_code ty p (loop n e u) =
    let body = suc (p + expr_length e) in
    let cu = cmd_code ty body u in
    omega (arith, length-append (expr_code 64 e) (coded n (Jump (suc (body + cmd_length u))) ∷ (cu ++ coded n (Goto p) ∷ [])), length-append cu (coded n (Goto p) ∷ []), length_expr_code 64 e, length_cmd_code ty body u)
length_cmd_code ty p (input n x) = refl
length_cmd_code ty p (output n e) = omega (arith, length-append (expr_code 64 e) (coded n Output ∷ []), length_expr_code 64 e)
