-- Which nodes two tests choose. Assumes nothing.
use Rattle.std.proofs.Common.{◌≡◌, ℕ, Bool, true, false, ◌⊎◌, [], ◌++◌, sym, refl, ap, ◌∙◌, subst, inl, inr}
use Rattle.std.proofs.lemmas.Bool.{false_from_ne_true}
use borrow.Author.Tests.{both_ways}
use Rattle.tosca.specs.Trees.{Expr, const, var, uny, bin, Cmd, skip, assign, seq, choice, loop, input, output}
use Rattle.draft.specs.Subtrees.{expr_label, cmd_label, InExpr, ExprIn, CmdIn}
use Rattle.statics.specs.Choosing.{Among, picked, chosen_in, chosen}
use Rattle.statics.proofs.Lists.{among_left, among_right, among_append, none_among, among_none, picked_to, picked_from}

module _ (f : Expr ℕ → Bool) where
  -- an expression in e is chosen, and has the number k
  abbrev pub ChosenIn : Expr ℕ → ℕ → Type 0
  ChosenIn e k = (s : Expr ℕ) × InExpr s e × (f s ≡ true) × (expr_label s ≡ k)

  pub chosen_in_to : (e : Expr ℕ) (k : ℕ) → Among k (chosen_in f e) → ChosenIn e k
  unfolding chosen_in
  chosen_in_to (const n v) k h = let r = picked_to n k (f (const n v)) h in (const n v, refl, r.0, r.1)
  chosen_in_to (var n x) k h = let r = picked_to n k (f (var n x)) h in (var n x, refl, r.0, r.1)
  chosen_in_to (uny n o e) k h =
      elim (among_append k (chosen_in f e) (picked n (f (uny n o e))) h) [
        | inl i ↦ (let r = chosen_in_to e k i in (r.0, inr r.1, r.2, r.3))
        | inr i ↦ (let r = picked_to n k (f (uny n o e)) i in (uny n o e, inl refl, r.0, r.1))
      ]
  chosen_in_to (bin n a o b) k h =
      elim (among_append k (chosen_in f a) (chosen_in f b ++ picked n (f (bin n a o b))) h) [
        | inl i ↦ (let r = chosen_in_to a k i in (r.0, inr (inl r.1), r.2, r.3))
        | inr i ↦ elim (among_append k (chosen_in f b) (picked n (f (bin n a o b))) i) [
          | inl j ↦ (let r = chosen_in_to b k j in (r.0, inr (inr r.1), r.2, r.3))
          | inr j ↦ (let r = picked_to n k (f (bin n a o b)) j in (bin n a o b, inl refl, r.0, r.1))
        ]
      ]

  -- the number of an expression that is chosen and is t
  picked_expr : (s t : Expr ℕ) → s ≡ t → f s ≡ true → Among (expr_label s) (picked (expr_label t) (f t))
  picked_expr s t q h = picked_from (expr_label t) (expr_label s) (f t) (ap f (sym q) ∙ h) (ap expr_label (sym q))

  pub chosen_in_from : (e s : Expr ℕ) → InExpr s e → f s ≡ true → Among (expr_label s) (chosen_in f e)
  unfolding chosen_in
  chosen_in_from (const n v) s q h = picked_expr s (const n v) q h
  chosen_in_from (var n x) s q h = picked_expr s (var n x) q h
  chosen_in_from (uny n o e) s (inl q) h = among_right (expr_label s) (chosen_in f e) (picked n (f (uny n o e))) (picked_expr s (uny n o e) q h)
  chosen_in_from (uny n o e) s (inr i) h = among_left (expr_label s) (chosen_in f e) (picked n (f (uny n o e))) (chosen_in_from e s i h)
  chosen_in_from (bin n a o b) s (inl q) h =
      among_right (expr_label s) (chosen_in f a) (chosen_in f b ++ picked n (f (bin n a o b)))
      (among_right (expr_label s) (chosen_in f b) (picked n (f (bin n a o b))) (picked_expr s (bin n a o b) q h))
  chosen_in_from (bin n a o b) s (inr (inl i)) h =
      among_left (expr_label s) (chosen_in f a) (chosen_in f b ++ picked n (f (bin n a o b))) (chosen_in_from a s i h)
  chosen_in_from (bin n a o b) s (inr (inr i)) h =
      among_right (expr_label s) (chosen_in f a) (chosen_in f b ++ picked n (f (bin n a o b)))
      (among_left (expr_label s) (chosen_in f b) (picked n (f (bin n a o b))) (chosen_in_from b s i h))

module _ (f : Expr ℕ → Bool) (g : Cmd ℕ → Bool) where
  -- an expression or a command in c is chosen, and has the number k
  abbrev pub Chosen : Cmd ℕ → ℕ → Type 0
  Chosen c k =
      ((s : Expr ℕ) × ExprIn s c × (f s ≡ true) × (expr_label s ≡ k))
      ⊎ ((s : Cmd ℕ) × CmdIn s c × (g s ≡ true) × (cmd_label s ≡ k))

  -- what is chosen in a part of a command is chosen in the command
  wider : (a c : Cmd ℕ) (k : ℕ) → ((s : Expr ℕ) → ExprIn s a → ExprIn s c) → ((s : Cmd ℕ) → CmdIn s a → CmdIn s c) → Chosen a k → Chosen c k
  wider a c k u v (inl r) = inl (r.0, u r.0 r.1, r.2, r.3)
  wider a c k u v (inr r) = inr (r.0, v r.0 r.1, r.2, r.3)

  of_expr : (e : Expr ℕ) (c : Cmd ℕ) (k : ℕ) → ((s : Expr ℕ) → InExpr s e → ExprIn s c) → Among k (chosen_in f e) → Chosen c k
  of_expr e c k u h = let r = chosen_in_to f e k h in inl (r.0, u r.0 r.1, r.2, r.3)

  itself : (c : Cmd ℕ) (k : ℕ) → CmdIn c c → Among k (picked (cmd_label c) (g c)) → Chosen c k
  itself c k i h = let r = picked_to (cmd_label c) k (g c) h in inr (c, i, r.0, r.1)

  pub chosen_to : (c : Cmd ℕ) (k : ℕ) → Among k (chosen f g c) → Chosen c k
  unfolding chosen
  chosen_to (skip n) k h = itself (skip n) k refl h
  chosen_to (assign n x e) k h =
      let c = assign n x e in
      elim (among_append k (chosen_in f e) (picked n (g c)) h) [ inl i ↦ of_expr e c k (λ s j. j) i | inr i ↦ itself c k refl i ]
  chosen_to (seq n a b) k h =
      let c = seq n a b in
      elim (among_append k (chosen f g a) (chosen f g b ++ picked n (g c)) h) [
        | inl i ↦ wider a c k (λ s j. inl j) (λ s j. inr (inl j)) (chosen_to a k i)
        | inr i ↦ elim (among_append k (chosen f g b) (picked n (g c)) i) [
          | inl j ↦ wider b c k (λ s j. inr j) (λ s j. inr (inr j)) (chosen_to b k j)
          | inr j ↦ itself c k (inl refl) j
        ]
      ]
  chosen_to (choice n e a b) k h =
      let c = choice n e a b in
      elim (among_append k (chosen_in f e) (chosen f g a ++ (chosen f g b ++ picked n (g c))) h) [
        | inl i ↦ of_expr e c k (λ s j. inl j) i
        | inr i ↦ elim (among_append k (chosen f g a) (chosen f g b ++ picked n (g c)) i) [
          | inl j ↦ wider a c k (λ s j. inr (inl j)) (λ s j. inr (inl j)) (chosen_to a k j)
          | inr j ↦ elim (among_append k (chosen f g b) (picked n (g c)) j) [
            | inl l ↦ wider b c k (λ s j. inr (inr j)) (λ s j. inr (inr j)) (chosen_to b k l)
            | inr l ↦ itself c k (inl refl) l
          ]
        ]
      ]
  chosen_to (loop n e b) k h =
      let c = loop n e b in
      elim (among_append k (chosen_in f e) (chosen f g b ++ picked n (g c)) h) [
        | inl i ↦ of_expr e c k (λ s j. inl j) i
        | inr i ↦ elim (among_append k (chosen f g b) (picked n (g c)) i) [
          | inl j ↦ wider b c k (λ s j. inr j) (λ s j. inr j) (chosen_to b k j)
          | inr j ↦ itself c k (inl refl) j
        ]
      ]
  chosen_to (input n x) k h = itself (input n x) k refl h
  chosen_to (output n e) k h =
      let c = output n e in
      elim (among_append k (chosen_in f e) (picked n (g c)) h) [ inl i ↦ of_expr e c k (λ s j. j) i | inr i ↦ itself c k refl i ]

  pub chosen_expr : (c : Cmd ℕ) (s : Expr ℕ) → ExprIn s c → f s ≡ true → Among (expr_label s) (chosen f g c)
  unfolding chosen
  chosen_expr (skip n) s i h = absurd i
  chosen_expr (assign n x e) s i h = among_left (expr_label s) (chosen_in f e) (picked n (g (assign n x e))) (chosen_in_from f e s i h)
  chosen_expr (seq n a b) s (inl i) h = among_left (expr_label s) (chosen f g a) (chosen f g b ++ picked n (g (seq n a b))) (chosen_expr a s i h)
  chosen_expr (seq n a b) s (inr i) h =
      among_right (expr_label s) (chosen f g a) (chosen f g b ++ picked n (g (seq n a b)))
      (among_left (expr_label s) (chosen f g b) (picked n (g (seq n a b))) (chosen_expr b s i h))
  chosen_expr (choice n e a b) s (inl i) h =
      among_left (expr_label s) (chosen_in f e) (chosen f g a ++ (chosen f g b ++ picked n (g (choice n e a b)))) (chosen_in_from f e s i h)
  chosen_expr (choice n e a b) s (inr (inl i)) h =
      among_right (expr_label s) (chosen_in f e) (chosen f g a ++ (chosen f g b ++ picked n (g (choice n e a b))))
      (among_left (expr_label s) (chosen f g a) (chosen f g b ++ picked n (g (choice n e a b))) (chosen_expr a s i h))
  chosen_expr (choice n e a b) s (inr (inr i)) h =
      among_right (expr_label s) (chosen_in f e) (chosen f g a ++ (chosen f g b ++ picked n (g (choice n e a b))))
      (among_right (expr_label s) (chosen f g a) (chosen f g b ++ picked n (g (choice n e a b)))
      (among_left (expr_label s) (chosen f g b) (picked n (g (choice n e a b))) (chosen_expr b s i h)))
  chosen_expr (loop n e b) s (inl i) h =
      among_left (expr_label s) (chosen_in f e) (chosen f g b ++ picked n (g (loop n e b))) (chosen_in_from f e s i h)
  chosen_expr (loop n e b) s (inr i) h =
      among_right (expr_label s) (chosen_in f e) (chosen f g b ++ picked n (g (loop n e b)))
      (among_left (expr_label s) (chosen f g b) (picked n (g (loop n e b))) (chosen_expr b s i h))
  chosen_expr (input n x) s i h = absurd i
  chosen_expr (output n e) s i h = among_left (expr_label s) (chosen_in f e) (picked n (g (output n e))) (chosen_in_from f e s i h)

  picked_cmd : (s t : Cmd ℕ) → s ≡ t → g s ≡ true → Among (cmd_label s) (picked (cmd_label t) (g t))
  picked_cmd s t q h = picked_from (cmd_label t) (cmd_label s) (g t) (ap g (sym q) ∙ h) (ap cmd_label (sym q))

  pub chosen_cmd : (c s : Cmd ℕ) → CmdIn s c → g s ≡ true → Among (cmd_label s) (chosen f g c)
  unfolding chosen
  chosen_cmd (skip n) s q h = picked_cmd s (skip n) q h
  chosen_cmd (assign n x e) s q h = among_right (cmd_label s) (chosen_in f e) (picked n (g (assign n x e))) (picked_cmd s (assign n x e) q h)
  chosen_cmd (seq n a b) s (inl q) h =
      among_right (cmd_label s) (chosen f g a) (chosen f g b ++ picked n (g (seq n a b)))
      (among_right (cmd_label s) (chosen f g b) (picked n (g (seq n a b))) (picked_cmd s (seq n a b) q h))
  chosen_cmd (seq n a b) s (inr (inl i)) h = among_left (cmd_label s) (chosen f g a) (chosen f g b ++ picked n (g (seq n a b))) (chosen_cmd a s i h)
  chosen_cmd (seq n a b) s (inr (inr i)) h =
      among_right (cmd_label s) (chosen f g a) (chosen f g b ++ picked n (g (seq n a b)))
      (among_left (cmd_label s) (chosen f g b) (picked n (g (seq n a b))) (chosen_cmd b s i h))
  chosen_cmd (choice n e a b) s (inl q) h =
      among_right (cmd_label s) (chosen_in f e) (chosen f g a ++ (chosen f g b ++ picked n (g (choice n e a b))))
      (among_right (cmd_label s) (chosen f g a) (chosen f g b ++ picked n (g (choice n e a b)))
      (among_right (cmd_label s) (chosen f g b) (picked n (g (choice n e a b))) (picked_cmd s (choice n e a b) q h)))
  chosen_cmd (choice n e a b) s (inr (inl i)) h =
      among_right (cmd_label s) (chosen_in f e) (chosen f g a ++ (chosen f g b ++ picked n (g (choice n e a b))))
      (among_left (cmd_label s) (chosen f g a) (chosen f g b ++ picked n (g (choice n e a b))) (chosen_cmd a s i h))
  chosen_cmd (choice n e a b) s (inr (inr i)) h =
      among_right (cmd_label s) (chosen_in f e) (chosen f g a ++ (chosen f g b ++ picked n (g (choice n e a b))))
      (among_right (cmd_label s) (chosen f g a) (chosen f g b ++ picked n (g (choice n e a b)))
      (among_left (cmd_label s) (chosen f g b) (picked n (g (choice n e a b))) (chosen_cmd b s i h)))
  chosen_cmd (loop n e b) s (inl q) h =
      among_right (cmd_label s) (chosen_in f e) (chosen f g b ++ picked n (g (loop n e b)))
      (among_right (cmd_label s) (chosen f g b) (picked n (g (loop n e b))) (picked_cmd s (loop n e b) q h))
  chosen_cmd (loop n e b) s (inr i) h =
      among_right (cmd_label s) (chosen_in f e) (chosen f g b ++ picked n (g (loop n e b)))
      (among_left (cmd_label s) (chosen f g b) (picked n (g (loop n e b))) (chosen_cmd b s i h))
  chosen_cmd (input n x) s q h = picked_cmd s (input n x) q h
  chosen_cmd (output n e) s q h = among_right (cmd_label s) (chosen_in f e) (picked n (g (output n e))) (picked_cmd s (output n e) q h)

  pub chosen_from : (c : Cmd ℕ) (k : ℕ) → Chosen c k → Among k (chosen f g c)
  chosen_from c k (inl r) = subst (λ (j : ℕ). Among j (chosen f g c)) r.3 (chosen_expr c r.0 r.1 r.2)
  chosen_from c k (inr r) = subst (λ (j : ℕ). Among j (chosen f g c)) r.3 (chosen_cmd c r.0 r.1 r.2)

  -- the tests choose nothing in the command
  abbrev pub NoneChosen : Cmd ℕ → Type 0
  NoneChosen c = ((s : Expr ℕ) → ExprIn s c → f s ≡ false) × ((s : Cmd ℕ) → CmdIn s c → g s ≡ false)

  pub none_to : (c : Cmd ℕ) → chosen f g c ≡ [] → NoneChosen c
  none_to c e = (
    λ s i. false_from_ne_true (f s) (λ h. among_none (chosen f g c) (expr_label s) e (chosen_expr c s i h)),
    λ s i. false_from_ne_true (g s) (λ h. among_none (chosen f g c) (cmd_label s) e (chosen_cmd c s i h)),
  )

  pub none_from : (c : Cmd ℕ) → NoneChosen c → chosen f g c ≡ []
  none_from c r =
      none_among (chosen f g c) (λ k h. elim (chosen_to c k h) [
        | inl t ↦ both_ways (f t.0) (r.0 t.0 t.1) t.2
        | inr t ↦ both_ways (g t.0) (r.1 t.0 t.1) t.2
      ])
