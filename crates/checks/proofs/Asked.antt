-- What the passes ask is what the rules choose. Assumes nothing.
use Rattle.std.proofs.Common.{◌≡◌, ℕ, ◌+◌, ◌<◌, ◌≤◌, Bool, true, not, ltb, List, length, get_or, replicate, take, Some, None, Ok, Err, Option, sym, refl, ap, ◌∙◌, ap₂, zero-add, arith}
use Rattle.std.specs.List.{position_from}
use Rattle.std.proofs.lemmas.List.{get_or-replicate, length-replicate, get_or-take, length-take-le}
use Rattle.tosca.specs.declared.operators.SimpleType.{SimpleType}
use Rattle.tosca.specs.declared.table.Entry.{Entry}
use Rattle.tosca.specs.declared.table.Node.{Node}
use Rattle.tosca.specs.declared.table.Node.TheVariants.{Const, Var, Uny, Bin, Skip, Assign, Seq, Choice, Loop, Input, Output}
use Rattle.tosca.specs.Table.{blank, node}
use Rattle.tosca.specs.Opens.{Sort, is_expr, sort}
use Rattle.tosca.specs.Trees.{Expr, Cmd}
use Rattle.tosca.specs.Trees as tree
use Rattle.tosca.specs.Decode.{expr_of, expr_at, cmd_of, cmd_at, program_of}
use Rattle.tosca.proofs.Decoding.{expr_step, cmd_step}
use Rattle.draft.specs.Forming.{is_formed}
use Rattle.draft.proofs.Facts.{assign_fact, choice_fact, loop_fact, cmd_at_assign, cmd_at_choice, cmd_at_loop}
use Rattle.statics.specs.declared.rules.Rule.TheVariants.{Declared, Typed, Temporaries}
use Rattle.statics.specs.declared.verdict.TypeError.TheVariants.{Wrong}
use Rattle.statics.specs.Choosing.{lowest}
use Rattle.statics.specs.Typing.{Verdict, decl_of, declared_type, type_in, is_declared, variable_verdict, typing, verdict, is_at_fault, mismatched, is_no_test, ill_typed, undeclared_var, undeclared_target}
use Rattle.statics.specs.Temporaries.{need}
use Rattle.statics.specs.Checking.{is_too_large, no_cmd, faults}
use Rattle.statics.specs.Scanning.{first_of, chooses_as, chooses}
use Rattle.statics.proofs.Scanned.{scanned}
use Rattle.walk.specs.Walking.{IsExpr, if_expr, answer_at, filled_by, filled}
use Rattle.walk.proofs.Filling.{length_filled, filled_get_d, filled_expr, expr_within}
use Rattle.walk.proofs.Meanings.{verdicts_filled}
use Rattle.checks.specs.Asking.{is_wrong, differ, names_undeclared, is_ill_typed, of_node}
use Rattle.checks.proofs.Firsts.{first_same, first_scanned}

-- the first node that a test finds is the lowest chosen, where the test says what the choice says
first_chosen : (t : List Entry) (f : Expr ℕ → Bool) (g : Cmd ℕ → Bool) (h : ℕ → Bool) → ((k : ℕ) → k < length t → chooses f g t k ≡ h k) → first_of h 0 (length t) ≡ first_of (chooses f g t) 0 (length t)
first_chosen t f g h same = sym (first_same (chooses f g t) h 0 (length t) (λ k low lt. same k (omega arith)))

-- names without a declaration
module _ (ds : List (tree.Decl ℕ)) (ty : ℕ → Option SimpleType) (same : (x : ℕ) → ty x ≡ type_in ds x) where
  lacks_same : (x : ℕ) → not (is_declared (decl_of ds x)) ≡ is_wrong (variable_verdict (ty x))
  lacks_same x = by (decl_of ds x) ∙ ap (λ (o : Option SimpleType). is_wrong (variable_verdict o)) (sym (same x))
    where
      by : (o : Option (tree.Decl ℕ)) → not (is_declared o) ≡ is_wrong (variable_verdict (declared_type o))
      by (Some d) = refl
      by None = refl

  names_at : (t : List Entry) (k : ℕ) (o : Option Node) → expr_at t k ≡ expr_of k (expr_at t) o → cmd_at t k ≡ cmd_of k (expr_at t) (cmd_at t) o → chooses_as (undeclared_var ds) (undeclared_target ds) t k (sort o) ≡ of_node (names_undeclared (λ x. variable_verdict (ty x))) o
  names_at t k (Some (Const v)) e c = ap (undeclared_var ds) e
  names_at t k (Some (Var x)) e c = ap (undeclared_var ds) e ∙ lacks_same x
  names_at t k (Some (Uny o a)) e c = ap (undeclared_var ds) e
  names_at t k (Some (Bin a o b)) e c = ap (undeclared_var ds) e
  names_at t k (Some Skip) e c = ap (undeclared_target ds) c
  names_at t k (Some (Assign x a)) e c = ap (undeclared_target ds) c ∙ lacks_same x
  names_at t k (Some (Seq a b)) e c = ap (undeclared_target ds) c
  names_at t k (Some (Choice a b d)) e c = ap (undeclared_target ds) c
  names_at t k (Some (Loop a b)) e c = ap (undeclared_target ds) c
  names_at t k (Some (Input x)) e c = ap (undeclared_target ds) c ∙ lacks_same x
  names_at t k (Some (Output a)) e c = ap (undeclared_target ds) c
  names_at t k _ e c = refl

pub declared_asked : (t : List Entry) (formed : is_formed t ≡ true) (ty : ℕ → Option SimpleType) → ((x : ℕ) → ty x ≡ type_in (program_of t).decls x) → {r : Option ℕ} → r ≡ first_of (λ n. of_node (names_undeclared (λ x. variable_verdict (ty x))) (node (get_or t n blank))) 0 (length t) → r ≡ lowest (faults Declared (program_of t))
declared_asked t formed ty same {r} h =
    let ds = (program_of t).decls in
    h ∙ first_chosen t (undeclared_var ds) (undeclared_target ds) (λ n. of_node (names_undeclared (λ x. variable_verdict (ty x))) (node (get_or t n blank))) (λ k lt. names_at ds ty same t k (node (get_or t k blank)) (expr_step t k) (cmd_step t k))
    ∙ sym (scanned (undeclared_var ds) (undeclared_target ds) t formed)

-- types
mismatch_same : (o : Option SimpleType) (v : Verdict) → mismatched o v ≡ differ (variable_verdict o) v
mismatch_same (Some y) (Ok z) = refl
mismatch_same (Some y) (Err w) = refl
mismatch_same None v = refl

module _ (t : List Entry) (formed : is_formed t ≡ true) (ds : List (tree.Decl ℕ)) (ty : ℕ → Option SimpleType) (same : (x : ℕ) → ty x ≡ type_in ds x)
    (on : ℕ → Verdict) (told : (k : ℕ) → IsExpr t k → on k ≡ verdict ds (expr_at t k)) (k : ℕ) (below : k < length t) where
  types_at : (o : Option Node) → node (get_or t k blank) ≡ o → chooses_as (λ e. is_at_fault (verdict ds e)) (ill_typed ds) t k (sort o) ≡ of_node (is_ill_typed (λ x. variable_verdict (ty x)) on k) o
  types_at (Some (Const v)) e = ap is_at_fault (sym (told k (ap sort e)))
  types_at (Some (Var x)) e = ap is_at_fault (sym (told k (ap sort e)))
  types_at (Some (Uny o a)) e = ap is_at_fault (sym (told k (ap sort e)))
  types_at (Some (Bin a o b)) e = ap is_at_fault (sym (told k (ap sort e)))
  types_at (Some Skip) e = ap (ill_typed ds) (cmd_step t k ∙ ap (cmd_of k (expr_at t) (cmd_at t)) e)
  types_at (Some (Assign x a)) e =
      ap (ill_typed ds) (cmd_at_assign t formed k below e) ∙ mismatch_same (type_in ds x) (verdict ds (expr_at t a))
      ∙ ap₂ differ (ap variable_verdict (sym (same x))) (sym (told a (assign_fact t formed k below e).2))
  types_at (Some (Seq a b)) e = ap (ill_typed ds) (cmd_step t k ∙ ap (cmd_of k (expr_at t) (cmd_at t)) e)
  types_at (Some (Choice a b c)) e = ap (ill_typed ds) (cmd_at_choice t formed k below e) ∙ ap is_no_test (sym (told a (choice_fact t formed k below e).1))
  types_at (Some (Loop a b)) e = ap (ill_typed ds) (cmd_at_loop t formed k below e) ∙ ap is_no_test (sym (told a (loop_fact t formed k below e).1))
  types_at (Some (Input x)) e = ap (ill_typed ds) (cmd_step t k ∙ ap (cmd_of k (expr_at t) (cmd_at t)) e)
  types_at (Some (Output a)) e = ap (ill_typed ds) (cmd_step t k ∙ ap (cmd_of k (expr_at t) (cmd_at t)) e)
  types_at _ e = refl

pub typed_asked : (t : List Entry) (formed : is_formed t ≡ true) (ty : ℕ → Option SimpleType) → ((x : ℕ) → ty x ≡ type_in (program_of t).decls x) → (on xs : List Verdict) → on ≡ filled (typing ty) t 0 xs → length t ≤ length xs → {r : Option ℕ} → r ≡ first_of (λ n. of_node (is_ill_typed (λ x. variable_verdict (ty x)) (λ k. get_or on k (Err Wrong)) n) (node (get_or t n blank))) 0 (length t) → r ≡ lowest (faults Typed (program_of t))
typed_asked t formed ty same on xs is room {r} h =
    let ds = (program_of t).decls in
    let told : (k : ℕ) → IsExpr t k → get_or on k (Err Wrong) ≡ verdict ds (expr_at t k) =
    λ k ex. ap (λ (ys : List Verdict). get_or ys k (Err Wrong)) (is ∙ verdicts_filled ty ds same t 0 xs) ∙ filled_expr (verdict ds) t xs k (Err Wrong) (omega (arith, expr_within t k ex, room)) ex in
    h ∙ first_chosen t (λ e. is_at_fault (verdict ds e)) (ill_typed ds) (λ n. of_node (is_ill_typed (λ x. variable_verdict (ty x)) (λ k. get_or on k (Err Wrong)) n) (node (get_or t n blank))) (λ k lt. types_at t formed ds ty same (λ j. get_or on j (Err Wrong)) told k lt (node (get_or t k blank)) refl)
    ∙ sym (scanned (λ e. is_at_fault (verdict ds e)) (ill_typed ds) t formed)

-- temporaries
needs_at : (t : List Entry) (k : ℕ) (s : Sort) → ltb 32 (if_expr s (need (expr_at t k)) 0) ≡ chooses_as is_too_large no_cmd t k s
needs_at t k is_expr = refl
needs_at t k _ = refl

pub temporaries_asked : (t : List Entry) (formed : is_formed t ≡ true) (on : List ℕ) → on ≡ filled_by need t 0 (replicate 1024 0) → length t ≤ 1024 → position_from (ltb 32) 0 (take (length t) on) ≡ lowest (faults Temporaries (program_of t))
temporaries_asked t formed on is few =
    let all : length on ≡ 1024 = ap length is ∙ length_filled need t 0 (replicate 1024 0) ∙ length-replicate {A = ℕ} 1024 0 in
    let long : length (take (length t) on) ≡ length t = length-take-le (length t) on (omega (arith, all, few)) in
    let at : (k : ℕ) → k < length (take (length t) on) → ltb 32 (get_or (take (length t) on) k 0) ≡ chooses is_too_large no_cmd t (0 + k) =
    λ k lt.
    let inside : k < length {A = ℕ} (replicate 1024 0) = omega (arith, length-replicate {A = ℕ} 1024 0, long, few) in
    ap (ltb 32) (get_or-take (length t) on k 0 (omega (arith, long)))
    ∙ ap (λ (ys : List ℕ). ltb 32 (get_or ys k 0)) is
    ∙ ap (ltb 32) (filled_get_d need t (replicate 1024 0) k 0 inside ∙ ap (λ (a : ℕ). answer_at need t k a) (get_or-replicate {A = ℕ} 1024 k 0 0 (omega (arith, long, few))))
    ∙ needs_at t k (sort (node (get_or t k blank)))
    ∙ ap (chooses is_too_large no_cmd t) (sym (zero-add k))
    in
    first_scanned (ltb 32) (chooses is_too_large no_cmd t) 0 (take (length t) on) 0 at
    ∙ ap (first_of (chooses is_too_large no_cmd t) 0) long
    ∙ sym (scanned is_too_large no_cmd t formed)
