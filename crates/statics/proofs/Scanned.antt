-- One pass over a formed table from its first entry finds the lowest node that tests choose. Assumes nothing.
use Rattle.std.proofs.Common.{◌≡◌, ℕ, zero, suc, ◌+◌, ◌<◌, ◌≤◌, Bool, true, false, cond, ◌⊎◌, List, [], ◌∷◌, length, get_or, Some, None, Option, sym, refl, ap, ◌∙◌, subst, inl, inr, arith}
use Rattle.std.proofs.lemmas.Bool.{both_ways, false≢true, cond_both}
use Rattle.tosca.specs.declared.table.Entry.{Entry}
use Rattle.tosca.specs.declared.table.Node.{Node}
use Rattle.tosca.specs.declared.table.Node.TheVariants.{Decl, Const, Var, Uny, Bin, Skip, Assign, Seq, Choice, Loop, Input, Output, Program}
use Rattle.tosca.specs.Table.{blank, node}
use Rattle.tosca.specs.Trees.{Expr, Cmd}
use Rattle.tosca.specs.Trees as tree
use Rattle.tosca.specs.Decode.{expr_at, cmd_at, declared, decls_from, program_of}
use Rattle.tosca.specs.Opens.{Sort, is_decl, is_expr, is_cmd, is_program, is_none, sort}
use Rattle.draft.specs.Forming.{is_formed}
use Rattle.draft.specs.Subtrees.{expr_label, cmd_label, ExprIn, CmdIn}
use Rattle.draft.proofs.Tree.{expr_label_lem, cmd_label_lem, expr_reached, cmd_reached, expr_listed, cmd_listed}
use Rattle.statics.specs.Choosing.{Among, lowest, Least, chosen}
use Rattle.statics.specs.Checking.{is_name, again}
use Rattle.statics.specs.Scanning.{first_of, chooses_as, chooses}
use Rattle.statics.proofs.Lists.{none_among, lowest_none, lowest_some}
use Rattle.statics.proofs.Chosen.{chosen_to, chosen_expr, chosen_cmd}

-- the least of a list is its lowest
pub least_is_lowest : (ks : List ℕ) (m : ℕ) → Least m ks → lowest ks ≡ Some m
least_is_lowest ks m l = by (lowest ks) refl
  where
    by : (o : Option ℕ) → lowest ks ≡ o → o ≡ Some m
    by None e = absurd (subst (Among m) (lowest_none ks e) l.0)
    by (Some j) e =
        let h = lowest_some ks j e in
        ap (λ (i : ℕ). Some i) (omega (arith, h.1 m l.0, l.1 j h.0))

-- the numbers from i on, n of them, that the test chooses are those of a list
pub first_is_lowest : (h : ℕ → Bool) (ks : List ℕ) (i n : ℕ) → ((k : ℕ) → Among k ks → (i ≤ k) × (k < i + n) × (h k ≡ true)) → ((k : ℕ) → i ≤ k → k < i + n → h k ≡ true → Among k ks) → lowest ks ≡ first_of h i n
first_is_lowest h ks i zero to from = ap lowest (none_among ks (λ k a. omega (arith, (to k a).0, (to k a).1)))
first_is_lowest h ks i (suc n) to from =
    by (h i) refl (λ e. first_is_lowest h ks (suc i) n (λ k a. (later e k a, omega (arith, (to k a).1), (to k a).2)) (λ k l u c. from k (omega arith) (omega arith) c))
  where
    later : h i ≡ false → (k : ℕ) → Among k ks → suc i ≤ k
    later e k a =
        let apart : i ≡ k → ⊥ = λ q. both_ways (h i) e (subst (λ j. h j ≡ true) (sym q) (to k a).2) in
        omega (arith, (to k a).0)

    by : (b : Bool) → h i ≡ b → (h i ≡ false → lowest ks ≡ first_of h (suc i) n) → lowest ks ≡ cond b (Some i) (first_of h (suc i) n)
    by true e r = least_is_lowest ks i (from i (omega arith) (omega arith) e, λ k a. (to k a).0)
    by false e r = r e

module _ (f : Expr ℕ → Bool) (g : Cmd ℕ → Bool) (t : List Entry) (formed : is_formed t ≡ true) where
  chosen_scanned : (k : ℕ) → Among k (chosen f g (program_of t).body) → (k < length t) × (chooses f g t k ≡ true)
  chosen_scanned k a = by (chosen_to f g (program_of t).body k a)
    where
      by : ((s : Expr ℕ) × ExprIn s (program_of t).body × (f s ≡ true) × (expr_label s ≡ k)) ⊎ ((s : Cmd ℕ) × CmdIn s (program_of t).body × (g s ≡ true) × (cmd_label s ≡ k)) → (k < length t) × (chooses f g t k ≡ true)
      by (inl c) =
          let l = expr_listed t formed c.0 c.1 in
          subst (λ (j : ℕ). (j < length t) × (chooses f g t j ≡ true)) c.3 (l.0, ap (chooses_as f g t (expr_label c.0)) l.1 ∙ sym (ap f l.2) ∙ c.2)
      by (inr c) =
          let l = cmd_listed t formed c.0 c.1 in
          subst (λ (j : ℕ). (j < length t) × (chooses f g t j ≡ true)) c.3 (l.0, ap (chooses_as f g t (cmd_label c.0)) l.1 ∙ sym (ap g l.2) ∙ c.2)

  scanned_chosen : (k : ℕ) → k < length t → chooses f g t k ≡ true → Among k (chosen f g (program_of t).body)
  scanned_chosen k lt c = by (sort (node (get_or t k blank))) refl c
    where
      by : (s : Sort) → sort (node (get_or t k blank)) ≡ s → chooses_as f g t k s ≡ true → Among k (chosen f g (program_of t).body)
      by is_expr e c = subst (λ (j : ℕ). Among j (chosen f g (program_of t).body)) (expr_label_lem t k) (chosen_expr f g (program_of t).body (expr_at t k) (expr_reached t formed k lt e) c)
      by is_cmd e c = subst (λ (j : ℕ). Among j (chosen f g (program_of t).body)) (cmd_label_lem t k) (chosen_cmd f g (program_of t).body (cmd_at t k) (cmd_reached t formed k lt e) c)
      by is_decl e c = absurd (false≢true c)
      by is_program e c = absurd (false≢true c)
      by is_none e c = absurd (false≢true c)

-- the lowest chosen node of the tree is the first that the pass meets
pub scanned : (f : Expr ℕ → Bool) (g : Cmd ℕ → Bool) (t : List Entry) → is_formed t ≡ true → lowest (chosen f g (program_of t).body) ≡ first_of (chooses f g t) 0 (length t)
scanned f g t formed =
    first_is_lowest (chooses f g t) (chosen f g (program_of t).body) 0 (length t)
    (λ k a. let c = chosen_scanned f g t formed k a in (omega arith, omega (arith, c.0), c.1))
    (λ k l u c. scanned_chosen f g t formed k (omega arith) c)

-- numbers from n on, each above the one before
abbrev pub Rising : ℕ → List ℕ → Type 0
Rising n [] = Unit {0}
Rising n (k ∷ ks) = (n ≤ k) × Rising (suc k) ks

rising_from : (m n : ℕ) (ks : List ℕ) → m ≤ n → Rising n ks → Rising m ks
rising_from m n [] l r = tt
rising_from m n (k ∷ ks) l r = (omega (arith, r.0), r.1)

rising_low : (n : ℕ) (ks : List ℕ) → Rising n ks → (k : ℕ) → Among k ks → n ≤ k
rising_low n [] r k a = absurd a
rising_low n (j ∷ ks) r k (inl e) = omega (arith, r.0)
rising_low n (j ∷ ks) r k (inr a) = omega (arith, r.0, rising_low (suc j) ks r.1 k a)

abbrev pub head_of : List ℕ → Option ℕ
head_of [] = None
head_of (k ∷ ks) = Some k

pub rising_lowest : (n : ℕ) (ks : List ℕ) → Rising n ks → lowest ks ≡ head_of ks
rising_lowest n [] r = refl
rising_lowest n (j ∷ ks) r = least_is_lowest (j ∷ ks) j (inl refl, λ k a. rising_low j (j ∷ ks) (omega arith, r.1) k a)

abbrev pub labels : List (tree.Decl ℕ) → List ℕ
labels [] = []
labels (d ∷ ds) = d.label ∷ labels ds

-- the declarations of a table stand in its order
pub decls_rise : (n : ℕ) (t : List Entry) → Rising n (labels (decls_from n t))
unfolding decls_from
decls_rise n [] = tt
decls_rise n (e ∷ t) = by (node e) (decls_rise (suc n) t)
  where
    by : (o : Option Node) → Rising (suc n) (labels (decls_from (suc n) t)) → Rising n (labels (declared n o (decls_from (suc n) t)))
    by (Some (Decl x y)) r = (omega arith, r)
    by (Some (Const v)) r = rising_from n (suc n) _ (omega arith) r
    by (Some (Var x)) r = rising_from n (suc n) _ (omega arith) r
    by (Some (Uny o a)) r = rising_from n (suc n) _ (omega arith) r
    by (Some (Bin a o b)) r = rising_from n (suc n) _ (omega arith) r
    by (Some Skip) r = rising_from n (suc n) _ (omega arith) r
    by (Some (Assign x a)) r = rising_from n (suc n) _ (omega arith) r
    by (Some (Seq a b)) r = rising_from n (suc n) _ (omega arith) r
    by (Some (Choice a b c)) r = rising_from n (suc n) _ (omega arith) r
    by (Some (Loop a b)) r = rising_from n (suc n) _ (omega arith) r
    by (Some (Input x)) r = rising_from n (suc n) _ (omega arith) r
    by (Some (Output a)) r = rising_from n (suc n) _ (omega arith) r
    by (Some (Program a)) r = rising_from n (suc n) _ (omega arith) r
    by None r = rising_from n (suc n) _ (omega arith) r

pub again_rises : (n : ℕ) (xs : List ℕ) (ds : List (tree.Decl ℕ)) → Rising n (labels ds) → Rising n (again xs ds)
again_rises n xs [] r = tt
again_rises n xs (d ∷ ds) r =
    let q = again_rises (suc d.label) (d.name ∷ xs) ds r.1 in
    cond_both (is_name d.name xs) (d.label ∷ again (d.name ∷ xs) ds) (again (d.name ∷ xs) ds) (Rising n)
    (λ e. (r.0, q))
    (λ e. rising_from n (suc d.label) (again (d.name ∷ xs) ds) (omega (arith, r.0)) q)

-- the lowest declaration of a name that an earlier one has is the first
pub again_first : (t : List Entry) → lowest (again [] (program_of t).decls) ≡ head_of (again [] (decls_from 0 t))
unfolding program_of
again_first t = rising_lowest 0 (again [] (decls_from 0 t)) (again_rises 0 [] (decls_from 0 t) (decls_rise 0 t))
