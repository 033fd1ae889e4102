-- Every target and cell of the code of a routine that fits exists.
use Rattle.std.proofs.Common.{◌≡◌, ℕ, suc, ◌+◌, ◌≤◌, true, leb, List, [], ◌∷◌, ◌++◌, length, Some, None, Option, refl, arith, le-leb}
use Rattle.tosca.specs.declared.operators.SimpleType.{SimpleType}
use Rattle.tosca.specs.declared.operators.SimpleType.TheVariants.{Integer, Boolean}
use Rattle.aida.specs.declared.instructions.Coded.{Coded}
use Rattle.tosca.specs.Trees.{Expr, const, var, uny, bin, Cmd, skip, assign, seq, choice, loop, input, output}
use Rattle.tosca.specs.Types.{Types, type_in}
use Rattle.aida.specs.Templates.{expr_length, expr_code, cmd_length, input_by, cmd_code, code}
use Rattle.statics.specs.Temporaries.{need}
use Rattle.agreement.specs.Premises.{ExprNames, ExprFits, CmdFits}
use Rattle.aida.specs.TemplateLaws.{addressed, all_addressed}
use Rattle.agreement.specs.NeverStuck.{Addressed}
use Rattle.aida.proofs.Codes.{length_cmd_code}
use Rattle.statics.proofs.Booleans.{both_true}
use Rattle.agreement.proofs.Truths.{both as and_true}

module _ (count : ℕ) where
  both : (xs ys : List Coded) → all_addressed count xs ≡ true → all_addressed count ys ≡ true → all_addressed count (xs ++ ys) ≡ true
  unfolding all_addressed
  both [] ys e f = f
  both (x ∷ xs) ys e f =
      and_true (addressed count x.instruction) (all_addressed count (xs ++ ys)) (both_true (addressed count x.instruction) (all_addressed count xs) e).0
      (both xs ys (both_true (addressed count x.instruction) (all_addressed count xs) e).1 f)

  more : (i : Coded) (is : List Coded) → addressed count i.instruction ≡ true → all_addressed count is ≡ true → all_addressed count (i ∷ is) ≡ true
  unfolding all_addressed
  more i is e f = and_true (addressed count i.instruction) (all_addressed count is) e f

  none : all_addressed count [] ≡ true
  unfolding all_addressed
  none = refl

  expr_addressed : (c : ℕ) (e : Expr ℕ) → ExprNames e → c + need e ≤ 96 → all_addressed count (expr_code c e) ≡ true
  unfolding expr_code need
  expr_addressed c (const n v) nm hi = more _ [] refl none
  expr_addressed c (var n x) nm hi = more _ [] (le-leb x 95 (omega arith)) none
  expr_addressed c (uny n o e) nm hi = both (expr_code c e) _ (expr_addressed c e nm hi) (more _ [] refl none)
  expr_addressed c (bin n a o b) nm hi =
      let cell : leb c 95 ≡ true = le-leb c 95 (omega arith) in
      both (expr_code c b) _ (expr_addressed c b nm.1 (omega arith))
      (more _ _ cell (both (expr_code (suc c) a) _ (expr_addressed (suc c) a nm.0 (omega arith)) (more _ [] cell none)))

  fitting : (e : Expr ℕ) → ExprFits e → all_addressed count (expr_code 64 e) ≡ true
  fitting e f = expr_addressed 64 e f.0 (omega arith)

  input_addressed : (o : Option SimpleType) → addressed count (input_by o) ≡ true
  input_addressed (Some Integer) = refl
  input_addressed (Some Boolean) = refl
  input_addressed None = refl

  cmd_addressed : (ty : Types) (p : ℕ) (b : Cmd ℕ) → CmdFits b → p + cmd_length b ≤ count → all_addressed count (cmd_code ty p b) ≡ true
  unfolding cmd_code cmd_length
  cmd_addressed ty p (skip n) f le = none
  cmd_addressed ty p (assign n x e) f le = both (expr_code 64 e) _ (fitting e f.1) (more _ [] (le-leb x 95 (omega (arith, f.0))) none)
  cmd_addressed ty p (seq n u v) f le =
      both (cmd_code ty p u) _ (cmd_addressed ty p u f.0 (omega arith)) (cmd_addressed ty (p + cmd_length u) v f.1 (omega arith))
  cmd_addressed ty p (choice n e u v) f le =
      let other = suc (suc (p + expr_length e) + cmd_length u) in
      both (expr_code 64 e) _ (fitting e f.0)
      (more _ _ (le-leb other count (omega arith))
      (both (cmd_code ty (suc (p + expr_length e)) u) _ (cmd_addressed ty (suc (p + expr_length e)) u f.1 (omega arith))
      (more _ _ (le-leb (other + cmd_length v) count (omega arith)) (cmd_addressed ty other v f.2 (omega arith)))))
  cmd_addressed ty p (loop n e u) f le =
      let body = suc (p + expr_length e) in
      both (expr_code 64 e) _ (fitting e f.0)
      (more _ _ (le-leb (suc (body + cmd_length u)) count (omega arith))
      (both (cmd_code ty body u) _ (cmd_addressed ty body u f.1 (omega arith)) (more _ [] (le-leb p count (omega arith)) none)))
  cmd_addressed ty p (input n x) f le = more _ _ (input_addressed (ty x)) (more _ [] (le-leb x 95 (omega (arith, f))) none)
  cmd_addressed ty p (output n e) f le = both (expr_code 64 e) _ (fitting e f) (more _ [] refl none)

pub all_addressed_lem : Addressed
all_addressed_lem p f = cmd_addressed (length (code p)) (type_in p.decls) 0 p.body f (omega (arith, length_cmd_code (type_in p.decls) 0 p.body))
