-- The laws of decoding. Assumes nothing.
use Rattle.std.proofs.Common.{◌≡◌, ℕ, zero, suc, ◌+◌, ◌<◌, ◌≤◌, Bool, true, false, cond, ltb, List, [], ◌∷◌, ◌++◌, length, get_or, Some, None, Option, sym, refl, ap, ◌∙◌, add-zero, add-suc, suc-add, arith, ltb-true, lt-ltb}
use Rattle.std.proofs.lemmas.List.{get_or_append_left}
use Rattle.tosca.specs.declared.operators.Value.{Value}
use Rattle.tosca.specs.declared.operators.Unary.{Unary}
use Rattle.tosca.specs.declared.operators.Binary.{Binary}
use Rattle.tosca.specs.declared.table.Entry.{Entry}
use Rattle.tosca.specs.declared.table.Node.{Node}
use Rattle.tosca.specs.declared.table.Node.TheVariants.{Decl, Const, Var, Uny, Bin, Skip, Assign, Seq, Choice, Loop, Input, Output, Program}
use Rattle.tosca.specs.Table.{blank, node}
use Rattle.tosca.specs.Trees.{Expr, const, var, uny, bin, Cmd, skip, assign, seq, choice, loop, input, output}
use Rattle.tosca.specs.Trees as tree
use Rattle.tosca.specs.Decode.{earlier, no_expr, expr_of, expr_by, expr_at, cmd_of, cmd_by, cmd_at, declared, decls_from}
use Rattle.tosca.specs.DecodeLaws.{Fuelled, Stepwise, Prefixed}

-- what stands for a part need be the same only where the part stands earlier
earlier_same : {A : Type 0} (n k : ℕ) (other a b : A) → (k < n → a ≡ b) → earlier n k other a ≡ earlier n k other b
earlier_same {A} n k other a b h = by (ltb k n) refl
  where
    by : (v : Bool) → ltb k n ≡ v → cond v a other ≡ cond v b other
    by true e = h (ltb-true k n e)
    by false e = refl

pub earlier_is : {A : Type 0} (n k : ℕ) (other a : A) → k < n → earlier n k other a ≡ a
earlier_is n k other a h = rw (lt-ltb k n h)

expr_of_same : (n : ℕ) (f g : ℕ → Expr ℕ) → ((k : ℕ) → k < n → f k ≡ g k) → (o : Option Node) → expr_of n f o ≡ expr_of n g o
expr_of_same n f g h (Some (Const v)) = refl
expr_of_same n f g h (Some (Var x)) = refl
expr_of_same n f g h (Some (Uny o a)) = ap (uny n o) (earlier_same n a (no_expr a) (f a) (g a) (h a))
expr_of_same n f g h (Some (Bin a o b)) = λ i. bin n (earlier_same n a (no_expr a) (f a) (g a) (h a) i) o (earlier_same n b (no_expr b) (f b) (g b) (h b) i)
expr_of_same n f g h (Some (Decl x y)) = refl
expr_of_same n f g h (Some Skip) = refl
expr_of_same n f g h (Some (Assign x a)) = refl
expr_of_same n f g h (Some (Seq a b)) = refl
expr_of_same n f g h (Some (Choice a b c)) = refl
expr_of_same n f g h (Some (Loop a b)) = refl
expr_of_same n f g h (Some (Input x)) = refl
expr_of_same n f g h (Some (Output a)) = refl
expr_of_same n f g h (Some (Program a)) = refl
expr_of_same n f g h None = refl

pub expr_fuel : (f g : ℕ) (t : List Entry) (n : ℕ) → n < f → n < g → expr_by f t n ≡ expr_by g t n
unfolding expr_by
expr_fuel zero g t n h k = absurd (omega arith)
expr_fuel (suc f) zero t n h k = absurd (omega arith)
expr_fuel (suc f) (suc g) t n h k = expr_of_same n (λ j. expr_by f t j) (λ j. expr_by g t j) (λ j lt. expr_fuel f g t j (omega arith) (omega arith)) (node (get_or t n blank))

pub expr_step : (t : List Entry) (n : ℕ) → expr_at t n ≡ expr_of n (expr_at t) (node (get_or t n blank))
unfolding expr_at expr_by
expr_step t n = expr_of_same n (λ j. expr_by n t j) (expr_at t) (λ j lt. expr_fuel n (suc j) t j (omega arith) (omega arith)) (node (get_or t n blank))

expr_agree_by : (f : ℕ) (t u : List Entry) (n : ℕ) → ((k : ℕ) → k ≤ n → get_or t k blank ≡ get_or u k blank) → expr_by f t n ≡ expr_by f u n
unfolding expr_by
expr_agree_by zero t u n h = refl
expr_agree_by (suc f) t u n h =
    expr_of_same n (λ j. expr_by f t j) (λ j. expr_by f u j) (λ j lt. expr_agree_by f t u j (λ k le. h k (omega arith))) (node (get_or t n blank))
    ∙ ap (λ (e : Entry). expr_of n (λ j. expr_by f u j) (node e)) (h n (omega arith))

pub expr_agree : (t u : List Entry) (n : ℕ) → ((k : ℕ) → k ≤ n → get_or t k blank ≡ get_or u k blank) → expr_at t n ≡ expr_at u n
unfolding expr_at
expr_agree t u n h = expr_agree_by (suc n) t u n h

pub expr_append : (t u : List Entry) (n : ℕ) → n < length t → expr_at (t ++ u) n ≡ expr_at t n
expr_append t u n h = expr_agree (t ++ u) t n (λ k le. get_or_append_left t u blank k (omega arith))

module _ (n : ℕ) (v w : ℕ → Expr ℕ) (f g : ℕ → Cmd ℕ) (same : (k : ℕ) → k < n → v k ≡ w k) (parts : (k : ℕ) → k < n → f k ≡ g k) where
  value : (k : ℕ) → earlier n k (no_expr k) (v k) ≡ earlier n k (no_expr k) (w k)
  value k = earlier_same n k (no_expr k) (v k) (w k) (same k)

  part : (k : ℕ) → earlier n k (skip k) (f k) ≡ earlier n k (skip k) (g k)
  part k = earlier_same n k (skip k) (f k) (g k) (parts k)

  cmd_of_same : (o : Option Node) → cmd_of n v f o ≡ cmd_of n w g o
  cmd_of_same (Some Skip) = refl
  cmd_of_same (Some (Assign x a)) = ap (assign n x) (value a)
  cmd_of_same (Some (Seq a b)) = λ i. seq n (part a i) (part b i)
  cmd_of_same (Some (Choice a b c)) = λ i. choice n (value a i) (part b i) (part c i)
  cmd_of_same (Some (Loop a b)) = λ i. loop n (value a i) (part b i)
  cmd_of_same (Some (Input x)) = refl
  cmd_of_same (Some (Output a)) = ap (output n) (value a)
  cmd_of_same (Some (Decl x y)) = refl
  cmd_of_same (Some (Const c)) = refl
  cmd_of_same (Some (Var x)) = refl
  cmd_of_same (Some (Uny o a)) = refl
  cmd_of_same (Some (Bin a o b)) = refl
  cmd_of_same (Some (Program a)) = refl
  cmd_of_same None = refl

pub cmd_fuel : (f g : ℕ) (t : List Entry) (n : ℕ) → n < f → n < g → cmd_by f t n ≡ cmd_by g t n
unfolding cmd_by
cmd_fuel zero g t n h k = absurd (omega arith)
cmd_fuel (suc f) zero t n h k = absurd (omega arith)
cmd_fuel (suc f) (suc g) t n h k = cmd_of_same n (expr_at t) (expr_at t) (λ j. cmd_by f t j) (λ j. cmd_by g t j) (λ j lt. refl) (λ j lt. cmd_fuel f g t j (omega arith) (omega arith)) (node (get_or t n blank))

pub cmd_step : (t : List Entry) (n : ℕ) → cmd_at t n ≡ cmd_of n (expr_at t) (cmd_at t) (node (get_or t n blank))
unfolding cmd_at cmd_by
cmd_step t n = cmd_of_same n (expr_at t) (expr_at t) (λ j. cmd_by n t j) (cmd_at t) (λ j lt. refl) (λ j lt. cmd_fuel n (suc j) t j (omega arith) (omega arith)) (node (get_or t n blank))

cmd_agree_by : (f : ℕ) (t u : List Entry) (n : ℕ) → ((k : ℕ) → k ≤ n → get_or t k blank ≡ get_or u k blank) → cmd_by f t n ≡ cmd_by f u n
unfolding cmd_by
cmd_agree_by zero t u n h = refl
cmd_agree_by (suc f) t u n h =
    cmd_of_same n (expr_at t) (expr_at u) (λ j. cmd_by f t j) (λ j. cmd_by f u j) (λ j lt. expr_agree t u j (λ k le. h k (omega arith))) (λ j lt. cmd_agree_by f t u j (λ k le. h k (omega arith))) (node (get_or t n blank))
    ∙ ap (λ (e : Entry). cmd_of n (expr_at u) (λ j. cmd_by f u j) (node e)) (h n (omega arith))

pub cmd_agree : (t u : List Entry) (n : ℕ) → ((k : ℕ) → k ≤ n → get_or t k blank ≡ get_or u k blank) → cmd_at t n ≡ cmd_at u n
unfolding cmd_at
cmd_agree t u n h = cmd_agree_by (suc n) t u n h

pub cmd_append : (t u : List Entry) (n : ℕ) → n < length t → cmd_at (t ++ u) n ≡ cmd_at t n
cmd_append t u n h = cmd_agree (t ++ u) t n (λ k le. get_or_append_left t u blank k (omega arith))

-- one more entry before those of a list that is appended to another
declared_append : (n : ℕ) (o : Option Node) (ds es : List (tree.Decl ℕ)) → declared n o (ds ++ es) ≡ declared n o ds ++ es
declared_append n (Some (Decl x y)) ds es = refl
declared_append n (Some (Const v)) ds es = refl
declared_append n (Some (Var x)) ds es = refl
declared_append n (Some (Uny o a)) ds es = refl
declared_append n (Some (Bin a o b)) ds es = refl
declared_append n (Some Skip) ds es = refl
declared_append n (Some (Assign x a)) ds es = refl
declared_append n (Some (Seq a b)) ds es = refl
declared_append n (Some (Choice a b c)) ds es = refl
declared_append n (Some (Loop a b)) ds es = refl
declared_append n (Some (Input x)) ds es = refl
declared_append n (Some (Output a)) ds es = refl
declared_append n (Some (Program a)) ds es = refl
declared_append n None ds es = refl

pub decls_append : (n : ℕ) (t u : List Entry) → decls_from n (t ++ u) ≡ decls_from n t ++ decls_from (n + length t) u
unfolding decls_from
decls_append n [] u = ap (λ (k : ℕ). decls_from k u) (sym (add-zero n))
decls_append n (e ∷ t) u =
    ap (declared n (node e)) (decls_append (suc n) t u ∙ ap (λ (k : ℕ). decls_from (suc n) t ++ decls_from k u) (suc-add n (length t) ∙ sym (add-suc n (length t))))
    ∙ declared_append n (node e) (decls_from (suc n) t) (decls_from (n + suc (length t)) u)

pub fuelled : Fuelled
fuelled = record { expr = expr_fuel; cmd = cmd_fuel }

pub stepwise : Stepwise
stepwise = record { expr = expr_step; cmd = cmd_step }

pub prefixed : Prefixed
prefixed = record { expr = expr_append; cmd = cmd_append; decls = decls_append }

-- the tree at a node of each kind, its parts being earlier
pub expr_const : (t : List Entry) (n : ℕ) (v : Value) → node (get_or t n blank) ≡ Some (Const v) → expr_at t n ≡ const n v
expr_const t n v e = expr_step t n ∙ ap (expr_of n (expr_at t)) e

pub expr_var : (t : List Entry) (n x : ℕ) → node (get_or t n blank) ≡ Some (Var x) → expr_at t n ≡ var n x
expr_var t n x e = expr_step t n ∙ ap (expr_of n (expr_at t)) e

pub expr_uny : (t : List Entry) (n : ℕ) (o : Unary) (a : ℕ) → node (get_or t n blank) ≡ Some (Uny o a) → a < n → expr_at t n ≡ uny n o (expr_at t a)
expr_uny t n o a e h = expr_step t n ∙ ap (expr_of n (expr_at t)) e ∙ rw (lt-ltb a n h)

pub expr_bin : (t : List Entry) (n a : ℕ) (o : Binary) (b : ℕ) → node (get_or t n blank) ≡ Some (Bin a o b) → a < n → b < n → expr_at t n ≡ bin n (expr_at t a) o (expr_at t b)
expr_bin t n a o b e h k = expr_step t n ∙ ap (expr_of n (expr_at t)) e ∙ rw (lt-ltb a n h, lt-ltb b n k)

pub cmd_skip : (t : List Entry) (n : ℕ) → node (get_or t n blank) ≡ Some Skip → cmd_at t n ≡ skip n
cmd_skip t n e = cmd_step t n ∙ ap (cmd_of n (expr_at t) (cmd_at t)) e

pub cmd_assign : (t : List Entry) (n x a : ℕ) → node (get_or t n blank) ≡ Some (Assign x a) → a < n → cmd_at t n ≡ assign n x (expr_at t a)
cmd_assign t n x a e h = cmd_step t n ∙ ap (cmd_of n (expr_at t) (cmd_at t)) e ∙ rw (lt-ltb a n h)

pub cmd_seq : (t : List Entry) (n a b : ℕ) → node (get_or t n blank) ≡ Some (Seq a b) → a < n → b < n → cmd_at t n ≡ seq n (cmd_at t a) (cmd_at t b)
cmd_seq t n a b e h k = cmd_step t n ∙ ap (cmd_of n (expr_at t) (cmd_at t)) e ∙ rw (lt-ltb a n h, lt-ltb b n k)

pub cmd_choice : (t : List Entry) (n a b c : ℕ) → node (get_or t n blank) ≡ Some (Choice a b c) → a < n → b < n → c < n → cmd_at t n ≡ choice n (expr_at t a) (cmd_at t b) (cmd_at t c)
cmd_choice t n a b c e h k l = cmd_step t n ∙ ap (cmd_of n (expr_at t) (cmd_at t)) e ∙ rw (lt-ltb a n h, lt-ltb b n k, lt-ltb c n l)

pub cmd_loop : (t : List Entry) (n a b : ℕ) → node (get_or t n blank) ≡ Some (Loop a b) → a < n → b < n → cmd_at t n ≡ loop n (expr_at t a) (cmd_at t b)
cmd_loop t n a b e h k = cmd_step t n ∙ ap (cmd_of n (expr_at t) (cmd_at t)) e ∙ rw (lt-ltb a n h, lt-ltb b n k)

pub cmd_input : (t : List Entry) (n x : ℕ) → node (get_or t n blank) ≡ Some (Input x) → cmd_at t n ≡ input n x
cmd_input t n x e = cmd_step t n ∙ ap (cmd_of n (expr_at t) (cmd_at t)) e

pub cmd_output : (t : List Entry) (n a : ℕ) → node (get_or t n blank) ≡ Some (Output a) → a < n → cmd_at t n ≡ output n (expr_at t a)
cmd_output t n a e h = cmd_step t n ∙ ap (cmd_of n (expr_at t) (cmd_at t)) e ∙ rw (lt-ltb a n h)
