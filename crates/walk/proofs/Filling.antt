-- How the walk fills its answers, one entry after another. Assumes nothing.
use Rattle.std.proofs.Common.{◌≡◌, ℕ, zero, suc, ◌+◌, ◌<◌, ◌≤◌, min, true, ◌⊎◌, List, [], ◌∷◌, ◌++◌, length, get_or, take, drop, set, Some, None, Option, sym, refl, ap, ◌∙◌, subst, ap₂, inl, inr, ⊎_elim, append_assoc, append-nil, add-zero, add-suc, suc-add, zero-add, arith}
use Rattle.std.proofs.lemmas.List.{length-append, length-take, length-drop, length-take-le, get_or-take, get_or_past, set_at, take_all, drop_all, take_at, take_more, drop_more, take-append-drop}
use Rattle.std.proofs.lemmas.Bool.{cases_lt}
use Rattle.tosca.specs.declared.table.Entry.{Entry}
use Rattle.tosca.specs.declared.table.Node.{Node}
use Rattle.tosca.specs.declared.table.Node.TheVariants.{Decl, Const, Var, Uny, Bin, Skip, Assign, Seq, Choice, Loop, Input, Output, Program}
use Rattle.tosca.specs.Table.{blank, node}
use Rattle.tosca.specs.Trees.{Expr}
use Rattle.tosca.specs.Decode.{expr_at}
use Rattle.tosca.specs.Opens.{Sort, is_decl, is_expr, is_cmd, is_program, is_none, sort}
use Rattle.draft.specs.Forming.{is_formed}
use Rattle.draft.proofs.Facts.{sorts_apart, var_fact, uny_fact, bin_fact, expr_at_const, expr_at_var, expr_at_uny, expr_at_bin}
use Rattle.statics.specs.Folding.{Algebra, fold}
use Rattle.walk.specs.Walking.{IsExpr, if_expr, answer_at, filled_by, answered, Ready}

module _ {A : Type 0} (f : Expr ℕ → A) (t : List Entry) where
  pub length_filled : (n : ℕ) (xs : List A) → length (filled_by f t n xs) ≡ length xs
  unfolding filled_by
  length_filled n [] = refl
  length_filled n (x ∷ xs) = ap suc (length_filled (suc n) xs)

  filled_from : (n : ℕ) (xs : List A) (k : ℕ) (d : A) → k < length xs → get_or (filled_by f t n xs) k d ≡ answer_at f t (n + k) (get_or xs k d)
  unfolding filled_by
  filled_from n [] k d h = absurd (omega arith)
  filled_from n (x ∷ xs) zero d h = ap (λ (j : ℕ). answer_at f t j x) (sym (add-zero n))
  filled_from n (x ∷ xs) (suc k) d h = filled_from (suc n) xs k d (omega arith) ∙ ap (λ (j : ℕ). answer_at f t j (get_or xs k d)) (suc-add n k ∙ sym (add-suc n k))

  pub filled_get_d : (xs : List A) (k : ℕ) (d : A) → k < length xs → get_or (filled_by f t 0 xs) k d ≡ answer_at f t k (get_or xs k d)
  filled_get_d xs k d h = filled_from 0 xs k d h ∙ ap (λ (j : ℕ). answer_at f t j (get_or xs k d)) (zero-add k)

  -- at an expression stands the answer for its tree
  pub filled_expr : (xs : List A) (k : ℕ) (d : A) → k < length xs → IsExpr t k → get_or (filled_by f t 0 xs) k d ≡ f (expr_at t k)
  filled_expr xs k d h e = filled_get_d xs k d h ∙ ap (λ (s : Sort). if_expr s (f (expr_at t k)) (get_or xs k d)) e

  -- past the table's end there is no expression
  filled_past : (k : ℕ) (xs : List A) → length t ≤ k → filled_by f t k xs ≡ xs
  unfolding filled_by
  filled_past k [] h = refl
  filled_past k (x ∷ xs) h = ap₂ (λ (y : A) (ys : List A). y ∷ ys) (ap (λ (e : Entry). if_expr (sort (node e)) (f (expr_at t k)) x) (get_or_past t k blank h)) (filled_past (suc k) xs (omega arith))

  filled_drop : (k n : ℕ) (xs : List A) → drop k (filled_by f t n xs) ≡ filled_by f t (n + k) (drop k xs)
  unfolding filled_by
  filled_drop zero n xs = ap (λ (j : ℕ). filled_by f t j xs) (sym (add-zero n))
  filled_drop (suc k) n [] = refl
  filled_drop (suc k) n (x ∷ xs) = filled_drop k (suc n) xs ∙ ap (λ (j : ℕ). filled_by f t j (drop k xs)) (suc-add n k ∙ sym (add-suc n k))

  -- the first n answers are filled
  abbrev pub partly : ℕ → List A → List A
  partly n xs = take n (filled_by f t 0 xs) ++ drop n xs

  length_front : (n : ℕ) (xs : List A) → n ≤ length xs → length (take n (filled_by f t 0 xs)) ≡ n
  length_front n xs h = length-take-le n (filled_by f t 0 xs) (subst (λ (j : ℕ). n ≤ j) (sym (length_filled 0 xs)) h)

  length_partly : (n : ℕ) (xs : List A) → length (partly n xs) ≡ length xs
  length_partly n xs = length-append (take n (filled_by f t 0 xs)) (drop n xs) ∙ omega (arith, length-take n (filled_by f t 0 xs), length-drop n xs, length_filled 0 xs)

  partly_more : (xs : List A) (n : ℕ) (d : A) → n < length xs → partly (n + 1) xs ≡ take n (filled_by f t 0 xs) ++ (answer_at f t n (get_or xs n d) ∷ drop (n + 1) xs)
  partly_more xs n d h =
      let h' : n < length (filled_by f t 0 xs) = subst (λ (j : ℕ). n < j) (sym (length_filled 0 xs)) h in
      ap (λ (front : List A). front ++ drop (n + 1) xs) (take_more (filled_by f t 0 xs) n d h')
      ∙ append_assoc (take n (filled_by f t 0 xs)) (get_or (filled_by f t 0 xs) n d ∷ []) (drop (n + 1) xs)
      ∙ ap (λ (a : A). take n (filled_by f t 0 xs) ++ (a ∷ drop (n + 1) xs)) (filled_get_d xs n d h)

  put_more : (xs : List A) (n : ℕ) (v : A) → n < length xs → v ≡ answer_at f t n (get_or xs n v) → set (partly n xs) n v ≡ partly (n + 1) xs
  put_more xs n v h e =
      let front = take n (filled_by f t 0 xs) in
      ap (λ (rest : List A). set (front ++ rest) n v) (drop_more xs n v h)
      ∙ set_at front (get_or xs n v) (drop (n + 1) xs) v n (length_front n xs (omega arith))
      ∙ ap (λ (a : A). front ++ (a ∷ drop (n + 1) xs)) e
      ∙ sym (partly_more xs n v h)

  keep_more : (xs : List A) (n : ℕ) (d : A) → n < length xs → answer_at f t n (get_or xs n d) ≡ get_or xs n d → partly n xs ≡ partly (n + 1) xs
  keep_more xs n d h e =
      let front = take n (filled_by f t 0 xs) in
      ap (λ (rest : List A). front ++ rest) (drop_more xs n d h)
      ∙ ap (λ (a : A). front ++ (a ∷ drop (n + 1) xs)) (sym e)
      ∙ sym (partly_more xs n d h)

  partly_front : (xs : List A) (n k : ℕ) (d : A) → k < n → n ≤ length xs → IsExpr t k → get_or (take n (partly n xs)) k d ≡ f (expr_at t k)
  partly_front xs n k d lt h e =
      ap (λ (ys : List A). get_or ys k d) (take_at (take n (filled_by f t 0 xs)) (drop n xs) n (length_front n xs h))
      ∙ get_or-take n (filled_by f t 0 xs) k d lt
      ∙ filled_expr xs k d (omega arith) e

  -- where the table ends, or the room
  pub partly_all : (xs : List A) (n : ℕ) → (length t ≤ n) ⊎ (length xs ≤ n) → partly n xs ≡ filled_by f t 0 xs
  partly_all xs n (inl h) =
      ap (λ (rest : List A). take n (filled_by f t 0 xs) ++ rest)
      (sym (filled_drop n 0 xs ∙ ap (λ (j : ℕ). filled_by f t j (drop n xs)) (zero-add n) ∙ filled_past n (drop n xs) h))
      ∙ take-append-drop n (filled_by f t 0 xs)
  partly_all xs n (inr h) =
      ap₂ (λ (front rest : List A). front ++ rest) (take_all n (filled_by f t 0 xs) (subst (λ (j : ℕ). j ≤ n) (sym (length_filled 0 xs)) h)) (drop_all n xs h)
      ∙ append-nil (filled_by f t 0 xs)

if_expr_same : {A : Type 0} (s : Sort) (v w a : A) → (s ≡ is_expr → v ≡ w) → if_expr s v a ≡ if_expr s w a
if_expr_same is_expr v w a h = h refl
if_expr_same is_decl v w a h = refl
if_expr_same is_cmd v w a h = refl
if_expr_same is_program v w a h = refl
if_expr_same is_none v w a h = refl

-- two ways to answer that agree at the table's expressions
pub filled_same : {A : Type 0} (f h : Expr ℕ → A) (t : List Entry) → ((k : ℕ) → IsExpr t k → f (expr_at t k) ≡ h (expr_at t k)) → (n : ℕ) (xs : List A) → filled_by f t n xs ≡ filled_by h t n xs
unfolding filled_by
filled_same f h t same n [] = refl
filled_same {A} f h t same n (x ∷ xs) =
    ap₂ (λ (y : A) (ys : List A). y ∷ ys) (if_expr_same (sort (node (get_or t n blank))) (f (expr_at t n)) (h (expr_at t n)) x (same n)) (filled_same f h t same (suc n) xs)

-- an expression of the table has a number below its length
pub expr_within : (t : List Entry) (k : ℕ) → IsExpr t k → k < length t
expr_within t k e =
    ⊎_elim
    (λ (h : k < length t). h)
    (λ (h : length t ≤ k). absurd (sorts_apart is_none is_expr refl (sym (ap (λ (u : Entry). sort (node u)) (get_or_past t k blank h)) ∙ e)))
    (cases_lt k (length t))

-- the entry n of a formed table
module _ (t : List Entry) (formed : is_formed t ≡ true) (n : ℕ) (lt : n < length t) where
  pub ready : Ready n (node (get_or t n blank))
  ready = by (node (get_or t n blank)) refl
    where
      by : (o : Option Node) → node (get_or t n blank) ≡ o → Ready n o
      by (Some (Const v)) e = tt
      by (Some (Var x)) e = var_fact t formed n lt e
      by (Some (Uny o a)) e = (uny_fact t formed n lt e).0
      by (Some (Bin a o b)) e = ((bin_fact t formed n lt e).0, (bin_fact t formed n lt e).2)
      by (Some (Decl x y)) e = tt
      by (Some Skip) e = tt
      by (Some (Assign x a)) e = tt
      by (Some (Seq a b)) e = tt
      by (Some (Choice a b c)) e = tt
      by (Some (Loop a b)) e = tt
      by (Some (Input x)) e = tt
      by (Some (Output a)) e = tt
      by (Some (Program a)) e = tt
      by None e = tt

  module _ {A : Type 0} (g : Algebra A) (part : ℕ → A) (known : (k : ℕ) → k < n → IsExpr t k → part k ≡ fold g (expr_at t k)) where
    -- the answer from those of the parts is that for the tree
    answered_is : answered g part (node (get_or t n blank)) ≡ if_expr (sort (node (get_or t n blank))) (Some (fold g (expr_at t n))) None
    unfolding fold
    answered_is = by (node (get_or t n blank)) refl
      where
        by : (o : Option Node) → node (get_or t n blank) ≡ o → answered g part o ≡ if_expr (sort o) (Some (fold g (expr_at t n))) None
        by (Some (Const v)) e = sym (ap (λ (x : Expr ℕ). Some (fold g x)) (expr_at_const t formed n lt e))
        by (Some (Var x)) e = sym (ap (λ (x : Expr ℕ). Some (fold g x)) (expr_at_var t formed n lt e))
        by (Some (Uny o a)) e =
            let s = uny_fact t formed n lt e in
            ap (λ (x : A). Some (g.unary o x)) (known a s.0 s.1)
            ∙ sym (ap (λ (x : Expr ℕ). Some (fold g x)) (expr_at_uny t formed n lt e))
        by (Some (Bin a o b)) e =
            let s = bin_fact t formed n lt e in
            ap₂ (λ (x y : A). Some (g.binary o x y)) (known a s.0 s.1) (known b s.2 s.3)
            ∙ sym (ap (λ (x : Expr ℕ). Some (fold g x)) (expr_at_bin t formed n lt e))
        by (Some (Decl x y)) e = refl
        by (Some Skip) e = refl
        by (Some (Assign x a)) e = refl
        by (Some (Seq a b)) e = refl
        by (Some (Choice a b c)) e = refl
        by (Some (Loop a b)) e = refl
        by (Some (Input x)) e = refl
        by (Some (Output a)) e = refl
        by (Some (Program a)) e = refl
        by None e = refl

some_by : {A : Type 0} (s : Sort) (v w a : A) → Some v ≡ if_expr s (Some w) None → v ≡ if_expr s w a
some_by is_expr v w a e = cc
some_by is_decl v w a e = cc
some_by is_cmd v w a e = cc
some_by is_program v w a e = cc
some_by is_none v w a e = cc

none_by : {A : Type 0} (s : Sort) (w a : A) → None ≡ if_expr s (Some w) None → if_expr s w a ≡ a
none_by is_expr w a e = cc
none_by is_decl w a e = refl
none_by is_cmd w a e = refl
none_by is_program w a e = refl
none_by is_none w a e = refl

-- one turn of the walk at the entry n, with the answers xs before the walk and ys before the turn, where the entries es
-- are walked as far as there is room
module _ {A : Type 0} (g : Algebra A) (t : List Entry) (formed : is_formed t ≡ true) (xs ys : List A) (n : ℕ) (inv : ys ≡ partly (fold g) t n xs) (es : List Entry) (same : es ≡ t) (room : ℕ) (least : room ≡ min (length xs) (length es)) where
  walked : length (take room es) ≡ min (length xs) (length t)
  walked = omega (arith, length-take room es, least, ap length same)

  -- where the table ends, or the room
  pub turn_last : length (take room es) ≤ n → ys ≡ filled_by (fold g) t 0 xs
  turn_last h =
      inv ∙ partly_all (fold g) t xs n (⊎_elim (λ (l : n < length t). inr (omega (arith, walked))) (λ (l : length t ≤ n). inl l) (cases_lt n (length t)))

  module _ (lt : n < length (take room es)) (o : Option Node) (read : o ≡ node (get_or (take room es) n blank)) where
    below : n < length t
    below = omega (arith, walked)

    within : n < length xs
    within = omega (arith, walked)

    node_is : node (get_or t n blank) ≡ o
    node_is = sym (read ∙ ap node (get_or-take room es n blank (omega (arith, length-take room es)) ∙ ap (λ (us : List Entry). get_or us n blank) same))

    pub turn_ready : Ready (length (take n ys)) o
    turn_ready =
        let long : n ≡ length (take n ys) = sym (length-take-le n ys (omega (arith, within, ap length inv, length_partly (fold g) t n xs))) in
        subst (λ (m : ℕ). Ready m o) long (subst (Ready n) node_is (ready t formed n below))

    module _ (r : Option A) (said : (d : A) → r ≡ answered g (λ k. get_or (take n ys) k d) o) where
      said_is : (d : A) → r ≡ if_expr (sort (node (get_or t n blank))) (Some (fold g (expr_at t n))) None
      said_is d =
          said d ∙ ap (answered g (λ k. get_or (take n ys) k d)) (sym node_is)
          ∙ answered_is t formed n below g (λ k. get_or (take n ys) k d)
          (λ k lk e. ap (λ (zs : List A). get_or (take n zs) k d) inv ∙ partly_front (fold g) t xs n k d lk (omega (arith, within)) e)

      pub turn_some : (v : A) → r ≡ Some v → (zs : List A) → zs ≡ set ys n v → zs ≡ partly (fold g) t (n + 1) xs
      turn_some v e zs z =
          z
          ∙ ap (λ (zs : List A). set zs n v) inv
          ∙ put_more (fold g) t xs n v within (some_by (sort (node (get_or t n blank))) v (fold g (expr_at t n)) (get_or xs n v) (sym e ∙ said_is v))

      pub turn_none : r ≡ None → (zs : List A) → zs ≡ ys → zs ≡ partly (fold g) t (n + 1) xs
      turn_none e zs z = by xs refl
        where
          by : (us : List A) → xs ≡ us → zs ≡ partly (fold g) t (n + 1) xs
          by [] q = let none = ap length q in absurd (omega (arith, within))
          by (d ∷ us) q = z ∙ inv ∙ keep_more (fold g) t xs n d within (none_by (sort (node (get_or t n blank))) (fold g (expr_at t n)) (get_or xs n d) (sym e ∙ said_is d))
