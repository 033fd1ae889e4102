-- The laws of the check. Assumes nothing.
use Rattle.std.proofs.Common.{◌≡◌, ℕ, Bool, ◌⊎◌, List, [], ◌∷◌, Some, None, Ok, Err, Option, Result, sym, refl, ap, ◌∙◌, subst, inl, inr, ltb-false, ltb-true, le-ltb, lt-ltb}
use Rattle.tosca.specs.Trees.{Expr, Program}
use Rattle.statics.specs.declared.rules.Rule.{Rule}
use Rattle.statics.specs.declared.rules.Rule.TheVariants.{DeclaredOnce, Declared, Typed, Set, Temporaries}
use Rattle.statics.specs.declared.rules.Violation.{Violation}
use Rattle.statics.specs.Choosing.{Among, lowest, Least}
use Rattle.statics.specs.Typing.{verdict, is_at_fault, ill_typed, undeclared_var, undeclared_target}
use Rattle.statics.specs.Temporaries.{need}
use Rattle.statics.specs.Setting.{no_vars, unset}
use Rattle.statics.specs.Checking.{is_too_large, no_cmd, faults, violation, asked, first_no, checking}
use Rattle.statics.specs.StaticLaws.{Sound, Passing, Clear, earlier_rules, First, PathRule, StaticLaws, Breaks, FaultsMean}
use Rattle.statics.proofs.Booleans.{false_true}
use Rattle.statics.proofs.Lists.{none_among, among_none, lowest_none, lowest_some}
use Rattle.statics.proofs.Chosen.{Chosen, chosen_to, chosen_from, none_to, none_from}
use Rattle.statics.proofs.Types.{at_fault, fault_misapplied, misapplied_fault, ill_mistyped, mistyped_ill, well_not_at, well_cmds, faultless_well}
use Rattle.statics.proofs.Declared.{again_none, none_again, names_declared, declared_names, chosen_undeclared, undeclared_chosen, found_repeated, repeated_found}
use Rattle.statics.proofs.Paths.{found_unset, unset_found}

abbrev Answer : Type 0
Answer = Result (Unit {0}) Violation

abbrev rule_of : Answer → Rule
rule_of (Ok u) = DeclaredOnce
rule_of (Err v) = v.rule

abbrev node_of : Answer → ℕ
node_of (Ok u) = 0
node_of (Err v) = v.node

abbrev IsOk : Answer → Type 0
IsOk (Ok u) = Unit {0}
IsOk (Err v) = ⊥

-- the rules in their order
abbrev pub rules : List Rule
rules = DeclaredOnce ∷ Declared ∷ Typed ∷ Set ∷ Temporaries ∷ []

module _ (p : Program ℕ) where
  -- all is clear exactly if the answer is yes
  pub ok_clear : (qs : List Rule) → first_no qs p ≡ Ok tt → Clear qs p
  ok_clear [] e = tt
  ok_clear (q ∷ qs) e = by (lowest (faults q p)) refl e (λ h. ok_clear qs h)
    where
      by : (o : Option ℕ) → lowest (faults q p) ≡ o → asked q o (first_no qs p) ≡ Ok tt → (first_no qs p ≡ Ok tt → Clear qs p) → Clear (q ∷ qs) p
      by None h e ih = (lowest_none (faults q p) h, ih e)
      by (Some k) h e ih = absurd (subst IsOk (sym e) tt)

  skipped : (q : Rule) (qs : List Rule) → faults q p ≡ [] → first_no (q ∷ qs) p ≡ first_no qs p
  skipped q qs e = ap (λ (ks : List ℕ). asked q (lowest ks) (first_no qs p)) e

  pub clear_ok : (qs : List Rule) → Clear qs p → first_no qs p ≡ Ok tt
  clear_ok [] h = refl
  clear_ok (q ∷ qs) h = skipped q qs h.0 ∙ clear_ok qs h.1

  -- where a refusal comes from
  abbrev From : List Rule → Rule → ℕ → Type 0
  From [] q k = ⊥
  From (r ∷ qs) q k = ((r ≡ q) × Least k (faults r p)) ⊎ ((faults r p ≡ []) × From qs q k)

  refusal : (qs : List Rule) (q : Rule) (k : ℕ) → first_no qs p ≡ Err (violation q k) → From qs q k
  refusal [] q k e = subst IsOk e tt
  refusal (r ∷ qs) q k e = by (lowest (faults r p)) refl e (λ h. refusal qs q k h)
    where
      by : (o : Option ℕ) → lowest (faults r p) ≡ o → asked r o (first_no qs p) ≡ Err (violation q k) → (first_no qs p ≡ Err (violation q k) → From qs q k) → From (r ∷ qs) q k
      by None h e ih = inr (lowest_none (faults r p) h, ih e)
      by (Some j) h e ih = inl (ap rule_of e, lowest_some (faults r p) k (h ∙ ap Some (ap node_of e)))

  abbrev Origin : Rule → ℕ → Type 0
  Origin q k = Clear (earlier_rules q) p × Least k (faults q p)

  origin : (q : Rule) (k : ℕ) → From rules q k → Origin q k
  origin q k (inl h) = subst (λ (r : Rule). Origin r k) h.0 (tt, h.1)
  origin q k (inr a) = second a.1
    where
      fifth : (faults Declared p ≡ []) → (faults Typed p ≡ []) → (faults Set p ≡ []) → From (Temporaries ∷ []) q k → Origin q k
      fifth b c d (inl h) = subst (λ (r : Rule). Origin r k) h.0 ((a.0, (b, (c, (d, tt)))), h.1)
      fifth b c d (inr e) = absurd e.1

      fourth : (faults Declared p ≡ []) → (faults Typed p ≡ []) → From (Set ∷ Temporaries ∷ []) q k → Origin q k
      fourth b c (inl h) = subst (λ (r : Rule). Origin r k) h.0 ((a.0, (b, (c, tt))), h.1)
      fourth b c (inr d) = fifth b c d.0 d.1

      third : (faults Declared p ≡ []) → From (Typed ∷ Set ∷ Temporaries ∷ []) q k → Origin q k
      third b (inl h) = subst (λ (r : Rule). Origin r k) h.0 ((a.0, (b, tt)), h.1)
      third b (inr c) = fourth b c.0 c.1

      second : From (Declared ∷ Typed ∷ Set ∷ Temporaries ∷ []) q k → Origin q k
      second (inl h) = subst (λ (r : Rule). Origin r k) h.0 ((a.0, tt), h.1)
      second (inr b) = third b.0 b.1

  pub first : First p (checking p)
  unfolding checking
  first q k e = origin q k (refusal rules q k e)

  -- what is clear is sound
  pub clear_sound : Clear rules p → Sound p
  clear_sound h =
      let d = none_to (undeclared_var p.decls) (undeclared_target p.decls) p.body h.1.0 in
      let t = none_to (λ e. is_at_fault (verdict p.decls e)) (ill_typed p.decls) p.body h.1.1.0 in
      let w = none_to is_too_large no_cmd p.body h.1.1.1.1.0 in
      record {
        once = (again_none [] p.decls h.0).1;
        declared = names_declared p.decls p.body d;
        typed = faultless_well p.decls p.body (record { exprs = t.0; cmds = t.1; vars = d.0; targets = d.1 });
        set = λ k u. among_none (unset no_vars p.body) k h.1.1.1.0 (unset_found p.body k u);
        few = λ e i. ltb-false 32 (need e) (w.0 e i);
      }

  pub sound_clear : Sound p → Clear rules p
  sound_clear h = (
    none_again [] p.decls (λ e i. refl) h.once,
    (
      none_from (undeclared_var p.decls) (undeclared_target p.decls) p.body (declared_names p.decls p.body h.declared),
      (
        none_from (λ e. is_at_fault (verdict p.decls e)) (ill_typed p.decls) p.body
            ((λ s i. well_not_at p.decls p.body s h.typed i), (λ s i. well_cmds p.decls p.body s h.typed i)),
        (
          none_among (unset no_vars p.body) (λ k i. h.set k (found_unset p.body k i)),
          (
            none_from is_too_large no_cmd p.body ((λ s i. le-ltb 32 (need s) (h.few s i)), (λ s i. refl)),
            tt,
          ),
        ),
      ),
    ),
  )

  pub passing : Passing p (checking p)
  unfolding checking
  passing = record { to = λ e. clear_sound (ok_clear rules e); from = λ h. clear_ok rules (sound_clear h) }

  -- where the first three rules are kept, the fourth is asked
  asks_set : Clear (earlier_rules Set) p → checking p ≡ first_no (Set ∷ Temporaries ∷ []) p
  unfolding checking
  asks_set h =
      skipped DeclaredOnce (Declared ∷ Typed ∷ Set ∷ Temporaries ∷ []) h.0
      ∙ skipped Declared (Typed ∷ Set ∷ Temporaries ∷ []) h.1.0
      ∙ skipped Typed (Set ∷ Temporaries ∷ []) h.1.1.0

  refuses : (k : ℕ) → Clear (earlier_rules Set) p → Among k (faults Set p) → (j : ℕ) × (checking p ≡ Err (violation Set j))
  refuses k h i = by (lowest (faults Set p)) refl
    where
      by : (o : Option ℕ) → lowest (faults Set p) ≡ o → (j : ℕ) × (checking p ≡ Err (violation Set j))
      by None e = absurd (among_none (faults Set p) k (lowest_none (faults Set p) e) i)
      by (Some j) e = (j, asks_set h ∙ ap (λ (o : Option ℕ). asked Set o (first_no (Temporaries ∷ []) p)) e)

  pub path_rule : Clear (earlier_rules Set) p → PathRule p (checking p)
  path_rule h =
      record {
        refused = record {
          to = λ r. (r.0, found_unset p.body r.0 (first Set r.0 r.1).1.0);
          from = λ r. refuses r.0 h (unset_found p.body r.0 r.1);
        };
        lowest = λ k e. let l = (first Set k e).1 in (found_unset p.body k l.0, λ j u. l.1 j (unset_found p.body j u));
      }

pub static_laws : StaticLaws
static_laws p = record { passing = passing p; first = first p; paths = path_rule p }

-- the nodes at fault, rule by rule
types_to : (p : Program ℕ) (k : ℕ) → Chosen (λ e. is_at_fault (verdict p.decls e)) (ill_typed p.decls) p.body k → Breaks Typed p k
types_to p k (inl r) = inl (r.0, r.1, fault_misapplied p.decls r.0 (at_fault (verdict p.decls r.0) r.2), r.3)
types_to p k (inr r) = inr (r.0, r.1, ill_mistyped p.decls r.0 r.2, r.3)

types_from : (p : Program ℕ) (k : ℕ) → Breaks Typed p k → Chosen (λ e. is_at_fault (verdict p.decls e)) (ill_typed p.decls) p.body k
types_from p k (inl r) = inl (r.0, r.1, ap is_at_fault (misapplied_fault p.decls r.0 r.2), r.3)
types_from p k (inr r) = inr (r.0, r.1, mistyped_ill p.decls r.0 r.2, r.3)

large_to : (p : Program ℕ) (k : ℕ) → Chosen is_too_large no_cmd p.body k → Breaks Temporaries p k
large_to p k (inl r) = (r.0, r.1, ltb-true 32 (need r.0) r.2, r.3)
large_to p k (inr r) = false_true r.2

pub faults_mean : FaultsMean
faults_mean DeclaredOnce p k = record { to = found_repeated p.decls k; from = repeated_found p.decls k }
faults_mean Declared p k =
    let f = undeclared_var p.decls in
    let g = undeclared_target p.decls in
    record {
      to = λ h. chosen_undeclared p.decls p.body k (chosen_to f g p.body k h);
      from = λ r. chosen_from f g p.body k (undeclared_chosen p.decls p.body k r);
    }
faults_mean Typed p k =
    let f : Expr ℕ → Bool = λ e. is_at_fault (verdict p.decls e) in
    let g = ill_typed p.decls in
    record { to = λ h. types_to p k (chosen_to f g p.body k h); from = λ r. chosen_from f g p.body k (types_from p k r) }
faults_mean Set p k = record { to = found_unset p.body k; from = unset_found p.body k }
faults_mean Temporaries p k =
    record {
      to = λ h. large_to p k (chosen_to is_too_large no_cmd p.body k h);
      from = λ r. chosen_from is_too_large no_cmd p.body k (inl (r.0, r.1, lt-ltb 32 (need r.0) r.2, r.3));
    }
