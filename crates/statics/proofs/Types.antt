-- The reading of types, and what has none at fault. Assumes nothing.
use Rattle.std.proofs.Common.{◌≡◌, ℕ, Bool, true, false, cond, not, ◌&&◌, List, Some, None, Ok, Err, Option, is_ok, sym, refl, ap, ◌∙◌, subst, inl, inr}
use Rattle.std.proofs.lemmas.Bool.{and_parts, cond-false, false_from_ne_true}
use borrow.Author.Tests.{both_ways, not-true, not-false}
use Rattle.tosca.specs.declared.operators.SimpleType.{SimpleType}
use Rattle.tosca.specs.declared.operators.SimpleType.TheVariants.{Integer, Boolean}
use Rattle.tosca.specs.declared.operators.Unary.{Unary}
use Rattle.tosca.specs.declared.operators.Binary.{Binary}
use Rattle.tosca.specs.Trees.{Expr, const, var, uny, bin, Cmd, skip, assign, seq, choice, loop, input, output, Decl}
use Rattle.draft.specs.Subtrees.{InExpr, ExprIn, CmdIn}
use Rattle.statics.specs.declared.verdict.TypeError.TheVariants.{Wrong, AtFault}
use Rattle.statics.specs.Folding.{fold}
use Rattle.statics.specs.Typing.{Verdict, decl_of, declared_type, type_in, is_declared, value_type, unary_type, binary_takes, binary_gives, HasType, WellTyped, same_type, variable_verdict, unary_verdict, binary_verdict, verdict, is_at_fault, mismatched, is_no_test, ill_typed, undeclared_var, undeclared_target}
use Rattle.statics.specs.StaticLaws.{Misapplied, Mistyped, VerdictMeans}
use Rattle.statics.proofs.Booleans.{false_true, true_false}

same_true : (y z : SimpleType) → same_type y z ≡ true → y ≡ z
same_true Integer Integer e = refl
same_true Integer Boolean e = false_true e
same_true Boolean Integer e = false_true e
same_true Boolean Boolean e = refl

same_refl : (y : SimpleType) → same_type y y ≡ true
same_refl Integer = refl
same_refl Boolean = refl

same_false : (y z : SimpleType) → same_type y z ≡ false → y ≡ z → ⊥
same_false y z e q = both_ways (same_type y z) e (subst (λ (t : SimpleType). same_type y t ≡ true) q (same_refl y))

other : (y z : SimpleType) → (y ≡ z → ⊥) → same_type y z ≡ false
other Integer Integer h = absurd (h refl)
other Integer Boolean h = refl
other Boolean Integer h = refl
other Boolean Boolean h = absurd (h refl)

-- what an operator gives, where the test says whether it takes its operands
given : (b : Bool) (t y : SimpleType) → cond b (Ok t) (Err AtFault) ≡ Ok y → (b ≡ true) × (t ≡ y)
given true t y e = (refl, cc)
given false t y e = false_true (ap is_ok e)

refused : (b : Bool) (t : SimpleType) → cond b (Ok t) (Err AtFault) ≡ Err AtFault → b ≡ false
refused true t e = true_false (ap is_ok e)
refused false t e = refl

taken : (b : Bool) (t : SimpleType) → is_at_fault (cond b (Ok t) (Err AtFault)) ≡ false → b ≡ true
taken true t e = refl
taken false t e = true_false e

-- an operator of one operand
unary_typed : (o : Unary) (v : Verdict) (y : SimpleType) → unary_verdict o v ≡ Ok y → (unary_type o ≡ y) × (v ≡ Ok (unary_type o))
unary_typed o (Ok z) y e = let r = given (same_type z (unary_type o)) (unary_type o) y e in (r.1, ap Ok (same_true z (unary_type o) r.0))
unary_typed o (Err w) y e = false_true (ap is_ok e)

unary_fault : (o : Unary) (v : Verdict) → unary_verdict o v ≡ Err AtFault → (y : SimpleType) × (v ≡ Ok y) × (y ≡ unary_type o → ⊥)
unary_fault o (Ok z) e = (z, refl, same_false z (unary_type o) (refused (same_type z (unary_type o)) (unary_type o) e))
unary_fault o (Err w) e = false_true (ap is_at_fault e)

unary_not_at : (o : Unary) (y : SimpleType) → is_at_fault (unary_verdict o (Ok y)) ≡ false → y ≡ unary_type o
unary_not_at o y h = same_true y (unary_type o) (taken (same_type y (unary_type o)) (unary_type o) h)

-- an operator of two
abbrev Both : Binary → SimpleType → SimpleType → Bool
Both o y z = same_type y (binary_takes o) && same_type z (binary_takes o)

takes_both : (o : Binary) (y z : SimpleType) → Both o y z ≡ true → (y ≡ binary_takes o) × (z ≡ binary_takes o)
takes_both o y z e =
    let r = and_parts (same_type y (binary_takes o)) (same_type z (binary_takes o)) e in
    (same_true y (binary_takes o) r.0, same_true z (binary_takes o) r.1)

not_both : (o : Binary) (y z : SimpleType) → Both o y z ≡ false → (y ≡ binary_takes o) × (z ≡ binary_takes o) → ⊥
not_both o y z e r = both_ways (Both o y z) e (rw (r.0, r.1) (rw (same_refl (binary_takes o)) refl))

binary_typed : (o : Binary) (v w : Verdict) (y : SimpleType) → binary_verdict o v w ≡ Ok y → (binary_gives o ≡ y) × (v ≡ Ok (binary_takes o)) × (w ≡ Ok (binary_takes o))
binary_typed o (Ok s) (Ok t) y e =
    let g = given (Both o s t) (binary_gives o) y e in
    let r = takes_both o s t g.0 in
    (g.1, ap Ok r.0, ap Ok r.1)
binary_typed o (Ok s) (Err w) y e = false_true (ap is_ok e)
binary_typed o (Err v) w y e = false_true (ap is_ok e)

abbrev Refused : Binary → Verdict → Verdict → Type 0
Refused o v w = (y : SimpleType) × (z : SimpleType) × (v ≡ Ok y) × (w ≡ Ok z) × ((y ≡ binary_takes o) × (z ≡ binary_takes o) → ⊥)

binary_fault : (o : Binary) (v w : Verdict) → binary_verdict o v w ≡ Err AtFault → Refused o v w
binary_fault o (Ok s) (Ok t) e = (s, t, refl, refl, not_both o s t (refused (Both o s t) (binary_gives o) e))
binary_fault o (Ok s) (Err w) e = false_true (ap is_at_fault e)
binary_fault o (Err v) w e = false_true (ap is_at_fault e)

binary_not_at : (o : Binary) (y z : SimpleType) → is_at_fault (binary_verdict o (Ok y) (Ok z)) ≡ false → (y ≡ binary_takes o) × (z ≡ binary_takes o)
binary_not_at o y z h = takes_both o y z (taken (Both o y z) (binary_gives o) h)

variable_typed : (t : Option SimpleType) (y : SimpleType) → variable_verdict t ≡ Ok y → t ≡ Some y
variable_typed (Some z) y e = cc
variable_typed None y e = false_true (ap is_ok e)

pub at_fault : (v : Verdict) → is_at_fault v ≡ true → v ≡ Err AtFault
at_fault (Ok y) e = false_true e
at_fault (Err Wrong) e = false_true e
at_fault (Err AtFault) e = refl

module _ (ds : List (Decl ℕ)) where
  pub typed_has : (e : Expr ℕ) (y : SimpleType) → verdict ds e ≡ Ok y → HasType ds e y
  unfolding fold HasType
  typed_has (const n v) y h = cc
  typed_has (var n x) y h = variable_typed (type_in ds x) y h
  typed_has (uny n o e) y h = let r = unary_typed o (verdict ds e) y h in (r.0, typed_has e (unary_type o) r.1)
  typed_has (bin n a o b) y h =
      let r = binary_typed o (verdict ds a) (verdict ds b) y h in
      (r.0, typed_has a (binary_takes o) r.1, typed_has b (binary_takes o) r.2)

  pub has_typed : (e : Expr ℕ) (y : SimpleType) → HasType ds e y → verdict ds e ≡ Ok y
  unfolding fold HasType
  has_typed (const n v) y h = ap Ok h
  has_typed (var n x) y h = ap variable_verdict h
  has_typed (uny n o e) y h =
      ap (unary_verdict o) (has_typed e (unary_type o) h.1) ∙ rw (same_refl (unary_type o)) (ap Ok h.0)
  has_typed (bin n a o b) y h =
      ap (λ (v : Verdict). binary_verdict o v (verdict ds b)) (has_typed a (binary_takes o) h.1)
      ∙ ap (binary_verdict o (Ok (binary_takes o))) (has_typed b (binary_takes o) h.2)
      ∙ rw (same_refl (binary_takes o)) (ap Ok h.0)

  pub fault_misapplied : (e : Expr ℕ) → verdict ds e ≡ Err AtFault → Misapplied ds e
  unfolding fold
  fault_misapplied (const n v) h = true_false (ap is_ok h)
  fault_misapplied (var n x) h = no_variable (type_in ds x) h
    where
      no_variable : (t : Option SimpleType) → variable_verdict t ≡ Err AtFault → ⊥
      no_variable (Some y) h = true_false (ap is_ok h)
      no_variable None h = false_true (ap is_at_fault h)
  fault_misapplied (uny n o e) h = let r = unary_fault o (verdict ds e) h in (r.0, typed_has e r.0 r.1, r.2)
  fault_misapplied (bin n a o b) h =
      let r = binary_fault o (verdict ds a) (verdict ds b) h in
      (r.0, r.1, typed_has a r.0 r.2, typed_has b r.1 r.3, r.4)

  pub misapplied_fault : (e : Expr ℕ) → Misapplied ds e → verdict ds e ≡ Err AtFault
  unfolding fold
  misapplied_fault (const n v) h = absurd h
  misapplied_fault (var n x) h = absurd h
  misapplied_fault (uny n o e) h =
      ap (unary_verdict o) (has_typed e h.0 h.1) ∙ rw (other h.0 (unary_type o) h.2)
  misapplied_fault (bin n a o b) h =
      ap (λ (v : Verdict). binary_verdict o v (verdict ds b)) (has_typed a h.0 h.2)
      ∙ ap (binary_verdict o (Ok h.0)) (has_typed b h.1 h.3)
      ∙ cond-false (Both o h.0 h.1) _ _ (false_from_ne_true (Both o h.0 h.1) (λ q. h.4 (takes_both o h.0 h.1 q)))

  -- a type for an expression none of whose nodes is at fault, where its names are declared
  pub has_some : (e : Expr ℕ) → ((s : Expr ℕ) → InExpr s e → is_at_fault (verdict ds s) ≡ false) → ((s : Expr ℕ) → InExpr s e → undeclared_var ds s ≡ false) → (y : SimpleType) × HasType ds e y
  unfolding fold HasType
  has_some (const n v) h k = (value_type v, refl)
  has_some (var n x) h k = known (decl_of ds x) (k (var n x) refl)
    where
      known : (o : Option (Decl ℕ)) → not (is_declared o) ≡ false → (y : SimpleType) × (declared_type o ≡ Some y)
      known (Some d) e = (d.type, refl)
      known None e = true_false e
  has_some (uny n o e) h k =
      let r = has_some e (λ s i. h s (inr i)) (λ s i. k s (inr i)) in
      let v = has_typed e r.0 r.1 in
      let q = unary_not_at o r.0 (subst (λ (w : Verdict). is_at_fault (unary_verdict o w) ≡ false) v (h (uny n o e) (inl refl))) in
      (unary_type o, (refl, subst (HasType ds e) q r.1))
  has_some (bin n a o b) h k =
      let r = has_some a (λ s i. h s (inr (inl i))) (λ s i. k s (inr (inl i))) in
      let t = has_some b (λ s i. h s (inr (inr i))) (λ s i. k s (inr (inr i))) in
      let v = has_typed a r.0 r.1 in
      let w = has_typed b t.0 t.1 in
      let g = subst (λ (u : Verdict). is_at_fault (binary_verdict o u (verdict ds b)) ≡ false) v (h (bin n a o b) (inl refl)) in
      let q = binary_not_at o r.0 t.0 (subst (λ (u : Verdict). is_at_fault (binary_verdict o (Ok r.0) u) ≡ false) w g) in
      (binary_gives o, (refl, subst (HasType ds a) q.0 r.1, subst (HasType ds b) q.1 t.1))

  -- each part of what has a type has one
  pub part_has : (e s : Expr ℕ) (y : SimpleType) → HasType ds e y → InExpr s e → (z : SimpleType) × HasType ds s z
  unfolding HasType
  part_has (const n v) s y h q = (y, subst (λ (t : Expr ℕ). HasType ds t y) (sym q) h)
  part_has (var n x) s y h q = (y, subst (λ (t : Expr ℕ). HasType ds t y) (sym q) h)
  part_has (uny n o e) s y h (inl q) = (y, subst (λ (t : Expr ℕ). HasType ds t y) (sym q) h)
  part_has (uny n o e) s y h (inr i) = part_has e s (unary_type o) h.1 i
  part_has (bin n a o b) s y h (inl q) = (y, subst (λ (t : Expr ℕ). HasType ds t y) (sym q) h)
  part_has (bin n a o b) s y h (inr (inl i)) = part_has a s (binary_takes o) h.1 i
  part_has (bin n a o b) s y h (inr (inr i)) = part_has b s (binary_takes o) h.2 i

  has_not_at : (e : Expr ℕ) (y : SimpleType) → HasType ds e y → is_at_fault (verdict ds e) ≡ false
  has_not_at e y h = ap is_at_fault (has_typed e y h)

  -- commands
  pub well_exprs : (c : Cmd ℕ) (s : Expr ℕ) → WellTyped ds c → ExprIn s c → (z : SimpleType) × HasType ds s z
  unfolding WellTyped
  well_exprs (skip n) s h i = absurd i
  well_exprs (assign n x e) s h i = part_has e s h.0 h.2 i
  well_exprs (seq n a b) s h (inl i) = well_exprs a s h.0 i
  well_exprs (seq n a b) s h (inr i) = well_exprs b s h.1 i
  well_exprs (choice n e a b) s h (inl i) = part_has e s Boolean h.0 i
  well_exprs (choice n e a b) s h (inr (inl i)) = well_exprs a s h.1 i
  well_exprs (choice n e a b) s h (inr (inr i)) = well_exprs b s h.2 i
  well_exprs (loop n e b) s h (inl i) = part_has e s Boolean h.0 i
  well_exprs (loop n e b) s h (inr i) = well_exprs b s h.1 i
  well_exprs (input n x) s h i = absurd i
  well_exprs (output n e) s h i = part_has e s h.0 h.1 i

  pub well_not_at : (c : Cmd ℕ) (s : Expr ℕ) → WellTyped ds c → ExprIn s c → is_at_fault (verdict ds s) ≡ false
  well_not_at c s h i = let r = well_exprs c s h i in has_not_at s r.0 r.1

  like : (s c : Cmd ℕ) → s ≡ c → ill_typed ds c ≡ false → ill_typed ds s ≡ false
  like s c q h = ap (ill_typed ds) q ∙ h

  pub well_cmds : (c s : Cmd ℕ) → WellTyped ds c → CmdIn s c → ill_typed ds s ≡ false
  unfolding WellTyped
  well_cmds (skip n) s h q = like s (skip n) q refl
  well_cmds (assign n x e) s h q =
      like s (assign n x e) q
      (ap (λ (t : Option SimpleType). mismatched t (verdict ds e)) h.1
      ∙ ap (mismatched (Some h.0)) (has_typed e h.0 h.2)
      ∙ ap not (same_refl h.0))
  well_cmds (seq n a b) s h (inl q) = like s (seq n a b) q refl
  well_cmds (seq n a b) s h (inr (inl i)) = well_cmds a s h.0 i
  well_cmds (seq n a b) s h (inr (inr i)) = well_cmds b s h.1 i
  well_cmds (choice n e a b) s h (inl q) = like s (choice n e a b) q (ap is_no_test (has_typed e Boolean h.0))
  well_cmds (choice n e a b) s h (inr (inl i)) = well_cmds a s h.1 i
  well_cmds (choice n e a b) s h (inr (inr i)) = well_cmds b s h.2 i
  well_cmds (loop n e b) s h (inl q) = like s (loop n e b) q (ap is_no_test (has_typed e Boolean h.0))
  well_cmds (loop n e b) s h (inr i) = well_cmds b s h.1 i
  well_cmds (input n x) s h q = like s (input n x) q refl
  well_cmds (output n e) s h q = like s (output n e) q refl

  test_type : (y : SimpleType) → is_no_test (Ok y) ≡ false → y ≡ Boolean
  test_type Integer e = true_false e
  test_type Boolean e = refl

  -- a test that is no fault of its command
  is_test : (e : Expr ℕ) (y : SimpleType) → HasType ds e y → is_no_test (verdict ds e) ≡ false → HasType ds e Boolean
  is_test e y h k = subst (HasType ds e) (test_type y (subst (λ (v : Verdict). is_no_test v ≡ false) (has_typed e y h) k)) h

  -- the two sides of an assignment that is not at fault
  is_assigned : (o : Option (Decl ℕ)) (e : Expr ℕ) (y : SimpleType) → HasType ds e y → not (is_declared o) ≡ false → mismatched (declared_type o) (verdict ds e) ≡ false → declared_type o ≡ Some y
  is_assigned (Some d) e y h k m =
      ap Some (same_true d.type y (not-false (same_type d.type y) (subst (λ (v : Verdict). mismatched (Some d.type) v ≡ false) (has_typed e y h) m)))
  is_assigned None e y h k m = true_false k

  -- the command has no node at fault, where its names are declared
  pub record Faultless (c : Cmd ℕ) : Type 0 where
    pub exprs : (s : Expr ℕ) → ExprIn s c → is_at_fault (verdict ds s) ≡ false
    pub cmds : (s : Cmd ℕ) → CmdIn s c → ill_typed ds s ≡ false
    pub vars : (s : Expr ℕ) → ExprIn s c → undeclared_var ds s ≡ false
    pub targets : (s : Cmd ℕ) → CmdIn s c → undeclared_target ds s ≡ false

  part : (a c : Cmd ℕ) → ((s : Expr ℕ) → ExprIn s a → ExprIn s c) → ((s : Cmd ℕ) → CmdIn s a → CmdIn s c) → Faultless c → Faultless a
  part a c u v h = record { exprs = λ s i. h.exprs s (u s i); cmds = λ s i. h.cmds s (v s i); vars = λ s i. h.vars s (u s i); targets = λ s i. h.targets s (v s i) }

  some : (e : Expr ℕ) (c : Cmd ℕ) → ((s : Expr ℕ) → InExpr s e → ExprIn s c) → Faultless c → (y : SimpleType) × HasType ds e y
  some e c u h = has_some e (λ s i. h.exprs s (u s i)) (λ s i. h.vars s (u s i))

  pub faultless_well : (c : Cmd ℕ) → Faultless c → WellTyped ds c
  unfolding WellTyped
  faultless_well (skip n) h = tt
  faultless_well (assign n x e) h =
      let r = some e (assign n x e) (λ s i. i) h in
      (r.0, is_assigned (decl_of ds x) e r.0 r.1 (h.targets (assign n x e) refl) (h.cmds (assign n x e) refl), r.1)
  faultless_well (seq n a b) h = (
    faultless_well a (part a (seq n a b) (λ s i. inl i) (λ s i. inr (inl i)) h),
    faultless_well b (part b (seq n a b) (λ s i. inr i) (λ s i. inr (inr i)) h),
  )
  faultless_well (choice n e a b) h =
      let c = choice n e a b in
      let r = some e c (λ s i. inl i) h in (
        is_test e r.0 r.1 (h.cmds c (inl refl)),
        faultless_well a (part a c (λ s i. inr (inl i)) (λ s i. inr (inl i)) h),
        faultless_well b (part b c (λ s i. inr (inr i)) (λ s i. inr (inr i)) h),
      )
  faultless_well (loop n e b) h =
      let c = loop n e b in
      let r = some e c (λ s i. inl i) h in
      (is_test e r.0 r.1 (h.cmds c (inl refl)), faultless_well b (part b c (λ s i. inr i) (λ s i. inr i) h))
  faultless_well (input n x) h = tt
  faultless_well (output n e) h = some e (output n e) (λ s i. i) h

  mismatch : (t : Option SimpleType) (v : Verdict) → mismatched t v ≡ true → (y : SimpleType) × (z : SimpleType) × (t ≡ Some y) × (v ≡ Ok z) × (y ≡ z → ⊥)
  mismatch (Some y) (Ok z) e = (y, z, refl, refl, same_false y z (not-true (same_type y z) e))
  mismatch (Some y) (Err w) e = false_true e
  mismatch None v e = false_true e

  no_test : (v : Verdict) → is_no_test v ≡ true → v ≡ Ok Integer
  no_test (Ok Integer) e = refl
  no_test (Ok Boolean) e = false_true e
  no_test (Err w) e = false_true e

  pub ill_mistyped : (c : Cmd ℕ) → ill_typed ds c ≡ true → Mistyped ds c
  ill_mistyped (skip n) h = false_true h
  ill_mistyped (assign n x e) h = let r = mismatch (type_in ds x) (verdict ds e) h in (r.0, r.1, r.2, typed_has e r.1 r.3, r.4)
  ill_mistyped (seq n a b) h = false_true h
  ill_mistyped (choice n e a b) h = typed_has e Integer (no_test (verdict ds e) h)
  ill_mistyped (loop n e b) h = typed_has e Integer (no_test (verdict ds e) h)
  ill_mistyped (input n x) h = false_true h
  ill_mistyped (output n e) h = false_true h

  pub mistyped_ill : (c : Cmd ℕ) → Mistyped ds c → ill_typed ds c ≡ true
  mistyped_ill (skip n) h = absurd h
  mistyped_ill (assign n x e) h =
      ap (λ (t : Option SimpleType). mismatched t (verdict ds e)) h.2
      ∙ ap (mismatched (Some h.0)) (has_typed e h.1 h.3)
      ∙ ap not (other h.0 h.1 h.4)
  mistyped_ill (seq n a b) h = absurd h
  mistyped_ill (choice n e a b) h = ap is_no_test (has_typed e Integer h)
  mistyped_ill (loop n e b) h = ap is_no_test (has_typed e Integer h)
  mistyped_ill (input n x) h = absurd h
  mistyped_ill (output n e) h = absurd h

pub verdict_means : VerdictMeans
verdict_means =
    record {
      typed = λ ds e y. record { to = typed_has ds e y; from = has_typed ds e y };
      at_fault = λ ds e. record { to = fault_misapplied ds e; from = misapplied_fault ds e };
      command = λ ds c. record { to = ill_mistyped ds c; from = mistyped_ill ds c };
    }
