-- Declarations: each name once, and each name used. Assumes nothing.
use Rattle.std.proofs.Common.{◌≡◌, ℕ, Bool, true, false, cond, not, eqb, ◌⊎◌, List, [], ◌∷◌, ◌++◌, Some, sym, refl, ap, ◌∙◌, subst, inl, inr, eq-eqb, ne_eqb, eqb-true}
use Rattle.std.proofs.lemmas.Bool.{false_from_ne_true, or_parts, or_cases, or_from, or_left, or_right, cond_both}
use borrow.Author.Tests.{eqb-false, not-true, not-false, both_ways}
use Rattle.tosca.specs.Trees.{Expr, const, var, uny, bin, Cmd, skip, assign, seq, choice, loop, input, output, Decl}
use Rattle.draft.specs.Subtrees.{expr_label, cmd_label, ExprIn, CmdIn}
use Rattle.statics.specs.Choosing.{Among}
use Rattle.statics.specs.Typing.{decl_of, is_declared, undeclared_var, undeclared_target}
use Rattle.statics.specs.Checking.{is_name, again}
use Rattle.statics.specs.StaticLaws.{Distinct, Declares, NamesAt, Names, Repeated}
use Rattle.statics.proofs.Booleans.{false_true}
use Rattle.statics.proofs.Chosen.{Chosen, NoneChosen}

-- none of the declarations has one of the names
abbrev Apart : List ℕ → List (Decl ℕ) → Type 0
Apart xs ds = (e : Decl ℕ) → Among e ds → is_name e.name xs ≡ false

pub again_none : (xs : List ℕ) (ds : List (Decl ℕ)) → again xs ds ≡ [] → Apart xs ds × Distinct ds
again_none xs [] h = (λ e i. absurd i, tt)
again_none xs (d ∷ ds) h =
    cond_both (is_name d.name xs) (d.label ∷ again (d.name ∷ xs) ds) (again (d.name ∷ xs) ds) (λ ks. ks ≡ [] → Apart xs (d ∷ ds) × Distinct (d ∷ ds))
    (λ q h. cc)
    (λ q h.
    let r = again_none (d.name ∷ xs) ds h in (
      λ e i. elim i [
        | inl p ↦ ap (λ (c : Decl ℕ). is_name c.name xs) (sym p) ∙ q
        | inr j ↦ (or_parts (eqb e.name d.name) (is_name e.name xs) (r.0 e j)).1
      ],
      (λ e j p. eqb-false e.name d.name (or_parts (eqb e.name d.name) (is_name e.name xs) (r.0 e j)).0 p, r.1),
    ))
    h

pub none_again : (xs : List ℕ) (ds : List (Decl ℕ)) → Apart xs ds → Distinct ds → again xs ds ≡ []
none_again xs [] h k = refl
none_again xs (d ∷ ds) h k =
    ap (λ (b : Bool). cond b (d.label ∷ again (d.name ∷ xs) ds) (again (d.name ∷ xs) ds)) (h d (inl refl))
    ∙ none_again (d.name ∷ xs) ds
    (λ e i. or_from (eqb e.name d.name) (is_name e.name xs) (ne_eqb e.name d.name (k.0 e i)) (h e (inr i)))
    k.1

pub declared_has : (ds : List (Decl ℕ)) (x : ℕ) → is_declared (decl_of ds x) ≡ true → Declares ds x
declared_has [] x h = false_true h
declared_has (d ∷ ds) x h =
    cond_both (eqb d.name x) (Some d) (decl_of ds x) (λ o. is_declared o ≡ true → Declares (d ∷ ds) x)
    (λ q h. (d, inl refl, eqb-true d.name x q))
    (λ q h. let r = declared_has ds x h in (r.0, inr r.1, r.2))
    h

pub has_declared : (ds : List (Decl ℕ)) (x : ℕ) → Declares ds x → is_declared (decl_of ds x) ≡ true
has_declared [] x r = absurd r.1
has_declared (d ∷ ds) x r =
    cond_both (eqb d.name x) (Some d) (decl_of ds x) (λ o. is_declared o ≡ true)
    (λ q. refl)
    (λ q. elim r.1 [
      | inl p ↦ absurd (eqb-false d.name x q (ap (λ (c : Decl ℕ). c.name) p ∙ r.2))
      | inr i ↦ has_declared ds x (r.0, i, r.2)
    ])

module _ (ds : List (Decl ℕ)) (c : Cmd ℕ) where
  pub names_declared : NoneChosen (undeclared_var ds) (undeclared_target ds) c → (x : ℕ) → Names x c → Declares ds x
  names_declared h x r = declared_has ds x (not-false (is_declared (decl_of ds x)) (by r.1))
    where
      by : NamesAt r.0 x c → not (is_declared (decl_of ds x)) ≡ false
      by (inl i) = h.0 (var r.0 x) i
      by (inr (inl i)) = h.1 (assign r.0 x i.0) i.1
      by (inr (inr i)) = h.1 (input r.0 x) i

  vars : ((x : ℕ) → Names x c → Declares ds x) → (s : Expr ℕ) → ExprIn s c → undeclared_var ds s ≡ false
  vars h (const n v) i = refl
  vars h (var n x) i = ap not (has_declared ds x (h x (n, inl i)))
  vars h (uny n o e) i = refl
  vars h (bin n a o b) i = refl

  targets : ((x : ℕ) → Names x c → Declares ds x) → (s : Cmd ℕ) → CmdIn s c → undeclared_target ds s ≡ false
  targets h (skip n) i = refl
  targets h (assign n x e) i = ap not (has_declared ds x (h x (n, inr (inl (e, i)))))
  targets h (seq n a b) i = refl
  targets h (choice n e a b) i = refl
  targets h (loop n e b) i = refl
  targets h (input n x) i = ap not (has_declared ds x (h x (n, inr (inr i))))
  targets h (output n e) i = refl

  pub declared_names : ((x : ℕ) → Names x c → Declares ds x) → NoneChosen (undeclared_var ds) (undeclared_target ds) c
  declared_names h = (vars h, targets h)

  -- one node: it is chosen exactly if it has a name without a declaration
  abbrev pub Undeclared : ℕ → Type 0
  Undeclared k = (x : ℕ) × NamesAt k x c × (Declares ds x → ⊥)

  not_declared : (x : ℕ) → not (is_declared (decl_of ds x)) ≡ true → Declares ds x → ⊥
  not_declared x h d = both_ways (is_declared (decl_of ds x)) (not-true (is_declared (decl_of ds x)) h) (has_declared ds x d)

  undeclared : (x : ℕ) → (Declares ds x → ⊥) → not (is_declared (decl_of ds x)) ≡ true
  undeclared x h = ap not (false_from_ne_true (is_declared (decl_of ds x)) (λ e. h (declared_has ds x e)))

  var_undeclared : (s : Expr ℕ) (k : ℕ) → ExprIn s c → undeclared_var ds s ≡ true → expr_label s ≡ k → Undeclared k
  var_undeclared (const n v) k i h e = false_true h
  var_undeclared (var n x) k i h e = (x, inl (subst (λ (j : ℕ). ExprIn (var j x) c) e i), not_declared x h)
  var_undeclared (uny n o s) k i h e = false_true h
  var_undeclared (bin n a o b) k i h e = false_true h

  target_undeclared : (s : Cmd ℕ) (k : ℕ) → CmdIn s c → undeclared_target ds s ≡ true → cmd_label s ≡ k → Undeclared k
  target_undeclared (skip n) k i h e = false_true h
  target_undeclared (assign n x s) k i h e = (x, inr (inl (s, subst (λ (j : ℕ). CmdIn (assign j x s) c) e i)), not_declared x h)
  target_undeclared (seq n a b) k i h e = false_true h
  target_undeclared (choice n s a b) k i h e = false_true h
  target_undeclared (loop n s b) k i h e = false_true h
  target_undeclared (input n x) k i h e = (x, inr (inr (subst (λ (j : ℕ). CmdIn (input j x) c) e i)), not_declared x h)
  target_undeclared (output n s) k i h e = false_true h

  pub chosen_undeclared : (k : ℕ) → Chosen (undeclared_var ds) (undeclared_target ds) c k → Undeclared k
  chosen_undeclared k (inl r) = var_undeclared r.0 k r.1 r.2 r.3
  chosen_undeclared k (inr r) = target_undeclared r.0 k r.1 r.2 r.3

  pub undeclared_chosen : (k : ℕ) → Undeclared k → Chosen (undeclared_var ds) (undeclared_target ds) c k
  undeclared_chosen k r = by r.1
    where
      by : NamesAt k r.0 c → Chosen (undeclared_var ds) (undeclared_target ds) c k
      by (inl i) = inl (var k r.0, i, undeclared r.0 r.2, refl)
      by (inr (inl i)) = inr (assign k r.0 i.0, i.1, undeclared r.0 r.2, refl)
      by (inr (inr i)) = inr (input k r.0, i, undeclared r.0 r.2, refl)

-- a declaration of a name that stands before it, among xs or among the declarations
pub record RepeatedIn (xs : List ℕ) (ds : List (Decl ℕ)) (k : ℕ) : Type 0 where
  pub before : List (Decl ℕ)
  pub decl : Decl ℕ
  pub rest : List (Decl ℕ)
  pub splits : ds ≡ before ++ (decl ∷ rest)
  pub earlier : (is_name decl.name xs ≡ true) ⊎ Declares before decl.name
  pub node : decl.label ≡ k

pub again_repeated : (xs : List ℕ) (ds : List (Decl ℕ)) (k : ℕ) → Among k (again xs ds) → RepeatedIn xs ds k
again_repeated xs [] k h = absurd h
again_repeated xs (d ∷ ds) k h =
    cond_both (is_name d.name xs) (d.label ∷ again (d.name ∷ xs) ds) (again (d.name ∷ xs) ds) (λ ks. Among k ks → RepeatedIn xs (d ∷ ds) k)
    (λ q i. elim i [
      | inl e ↦ record { before = []; decl = d; rest = ds; splits = refl; earlier = inl q; node = e }
      | inr j ↦ later (again_repeated (d.name ∷ xs) ds k j)
    ])
    (λ q j. later (again_repeated (d.name ∷ xs) ds k j))
    h
  where
    later : RepeatedIn (d.name ∷ xs) ds k → RepeatedIn xs (d ∷ ds) k
    later r =
        record { before = d ∷ r.before; decl = r.decl; rest = r.rest; splits = ap (λ (t : List (Decl ℕ)). d ∷ t) r.splits; earlier = here r.earlier; node = r.node }
      where
        here : (is_name r.decl.name (d.name ∷ xs) ≡ true) ⊎ Declares r.before r.decl.name → (is_name r.decl.name xs ≡ true) ⊎ Declares (d ∷ r.before) r.decl.name
        here (inl e) =
            elim (or_cases (eqb r.decl.name d.name) (is_name r.decl.name xs) e) [
              | inl q ↦ inr (d, inl refl, sym (eqb-true r.decl.name d.name q))
              | inr q ↦ inl q
            ]
        here (inr e) = inr (e.0, inr e.1, e.2)

-- more of the list is found whatever the test of its head
passed : (xs : List ℕ) (d : Decl ℕ) (ds : List (Decl ℕ)) (k : ℕ) → Among k (again (d.name ∷ xs) ds) → Among k (again xs (d ∷ ds))
passed xs d ds k h = cond_both (is_name d.name xs) (d.label ∷ again (d.name ∷ xs) ds) (again (d.name ∷ xs) ds) (Among k) (λ q. inr h) (λ q. h)

pub repeated_again : (xs : List ℕ) (before : List (Decl ℕ)) (d : Decl ℕ) (rest : List (Decl ℕ))
    → (is_name d.name xs ≡ true) ⊎ Declares before d.name → Among d.label (again xs (before ++ (d ∷ rest)))
repeated_again xs [] d rest (inl h) =
    subst (λ (b : Bool). Among d.label (cond b (d.label ∷ again (d.name ∷ xs) rest) (again (d.name ∷ xs) rest))) (sym h) (inl refl)
repeated_again xs [] d rest (inr r) = absurd r.1
repeated_again xs (c ∷ before) d rest h = passed xs c (before ++ (d ∷ rest)) d.label (repeated_again (c.name ∷ xs) before d rest (by h))
  where
    by : (is_name d.name xs ≡ true) ⊎ Declares (c ∷ before) d.name → (is_name d.name (c.name ∷ xs) ≡ true) ⊎ Declares before d.name
    by (inl e) = inl (or_right (eqb d.name c.name) (is_name d.name xs) e)
    by (inr r) =
        elim r.1 [
          | inl q ↦ inl (or_left (eqb d.name c.name) (is_name d.name xs) (eq-eqb d.name c.name (sym (ap (λ (t : Decl ℕ). t.name) q ∙ r.2))))
          | inr i ↦ inr (r.0, i, r.2)
        ]

pub found_repeated : (ds : List (Decl ℕ)) (k : ℕ) → Among k (again [] ds) → Repeated ds k
found_repeated ds k h =
    let r = again_repeated [] ds k h in
    record { before = r.before; decl = r.decl; rest = r.rest; splits = r.splits; earlier = elim r.earlier [ inl e ↦ false_true e | inr d ↦ d ]; node = r.node }

pub repeated_found : (ds : List (Decl ℕ)) (k : ℕ) → Repeated ds k → Among k (again [] ds)
repeated_found ds k r =
    let h = repeated_again [] r.before r.decl r.rest (inr r.earlier) in
    let g = subst (λ (t : List (Decl ℕ)). Among r.decl.label (again [] t)) (sym r.splits) h in
    subst (λ (j : ℕ). Among j (again [] ds)) r.node g
