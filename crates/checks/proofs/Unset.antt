-- The var nodes of an expression that stand outside a set. Assumes nothing.
use Rattle.std.proofs.Common.{◌≡◌, ℕ, ◌<◌, Bool, true, false, not, eqb, List, [], ◌++◌, length, get_or, Some, None, Option, sym, refl, ap, ◌∙◌, ap₂, inl, inr, append-nil, arith}
use lib.Bits.{bit_or}
use Rattle.std.proofs.lemmas.Bool.{eqb-true, or_left}
use Rattle.tosca.specs.declared.operators.Unary.{Unary}
use Rattle.tosca.specs.declared.operators.Binary.{Binary}
use Rattle.tosca.specs.declared.table.Entry.{Entry}
use Rattle.tosca.specs.declared.table.Node.{Node}
use Rattle.tosca.specs.declared.table.Node.TheVariants.{Var, Uny, Bin}
use Rattle.tosca.specs.Table.{blank, node}
use Rattle.tosca.specs.Opens.{Sort, sort}
use Rattle.tosca.specs.Trees.{Expr, const, var, uny, bin}
use Rattle.tosca.specs.Decode.{expr_of, expr_at}
use Rattle.tosca.proofs.Decoding.{expr_step}
use Rattle.draft.specs.Forming.{is_formed}
use Rattle.draft.specs.Subtrees.{InExpr}
use Rattle.draft.proofs.Facts.{expr_at_var, expr_at_uny, expr_at_bin}
use Rattle.statics.specs.Choosing.{lowest, picked, chosen_in}
use Rattle.statics.specs.Setting.{Vars, unset_in}
use Rattle.walk.specs.Readings.{holds, Reads}
use Rattle.walk.proofs.Sets.{holds_or}
use Rattle.checks.specs.Lowering.{lower_of}
use Rattle.checks.specs.Settings.{IsNode}
use Rattle.checks.proofs.Lower.{lowest_append}

-- a part of a node
pub part : {t : List Entry} {n a : ℕ} {s w : Sort} → IsNode t n s → a < n → sort (node (get_or t a blank)) ≡ w → IsNode t a w
part r lt e = record { below = omega (arith, r.below, lt); is = e }

-- none is outside a set that has them all
none_outside : (s : Vars) (e : Expr ℕ) → ((n x : ℕ) → InExpr (var n x) e → s x ≡ true) → unset_in s e ≡ []
unfolding chosen_in
none_outside s (const n v) h = refl
none_outside s (var n x) h = ap (λ (b : Bool). picked n (not b)) (h n x refl)
none_outside s (uny n o e) h = append-nil (unset_in s e) ∙ none_outside s e (λ k x i. h k x (inr i))
none_outside s (bin n a o b) h = ap₂ (λ (xs ys : List ℕ). xs ++ (ys ++ [])) (none_outside s a (λ k x i. h k x (inr (inl i)))) (none_outside s b (λ k x i. h k x (inr (inr i))))

covers : (r s : ℕ) → true ≡ eqb (bit_or r s) s → (x : ℕ) → holds r x ≡ true → holds s x ≡ true
covers r s e x h = ap (λ (m : ℕ). holds m x) (sym (eqb-true (bit_or r s) s (sym e))) ∙ holds_or r s x ∙ or_left (holds r x) (holds s x) h

pub unset_covered : (r s : ℕ) (e : Expr ℕ) → ((x : ℕ) → Reads e x → holds r x ≡ true) → true ≡ eqb (bit_or r s) s → None ≡ lowest (unset_in (holds s) e)
unset_covered r s e read h = sym (ap lowest (none_outside (holds s) e (λ n x i. covers r s h x (read x (n, i)))))

-- the node n of a formed table
module _ (t : List Entry) (formed : is_formed t ≡ true) (n : ℕ) (below : n < length t) (s : Vars) where
  pub var_set : {x : ℕ} → node (get_or t n blank) ≡ Some (Var x) → true ≡ s x → None ≡ lowest (unset_in s (expr_at t n))
  unfolding chosen_in
  var_set {x} e h = ap (λ (b : Bool). lowest (picked n (not b))) h ∙ sym (ap (λ (a : Expr ℕ). lowest (unset_in s a)) (expr_at_var t formed n below e))

  pub var_unset : {x : ℕ} → node (get_or t n blank) ≡ Some (Var x) → false ≡ s x → Some n ≡ lowest (unset_in s (expr_at t n))
  unfolding chosen_in
  var_unset {x} e h = ap (λ (b : Bool). lowest (picked n (not b))) h ∙ sym (ap (λ (a : Expr ℕ). lowest (unset_in s a)) (expr_at_var t formed n below e))

  pub uny_unset : {o : Unary} {a : ℕ} {r : Option ℕ} → node (get_or t n blank) ≡ Some (Uny o a) → r ≡ lowest (unset_in s (expr_at t a)) → r ≡ lowest (unset_in s (expr_at t n))
  unfolding chosen_in
  uny_unset {o} {a} {r} e h = h ∙ ap lowest (sym (append-nil (unset_in s (expr_at t a)))) ∙ sym (ap (λ (d : Expr ℕ). lowest (unset_in s d)) (expr_at_uny t formed n below e))

  pub bin_unset : {o : Binary} {a b : ℕ} {p q r : Option ℕ} → node (get_or t n blank) ≡ Some (Bin a o b) → p ≡ lowest (unset_in s (expr_at t a)) → q ≡ lowest (unset_in s (expr_at t b)) → r ≡ lower_of p q → r ≡ lowest (unset_in s (expr_at t n))
  unfolding chosen_in
  bin_unset {o} {a} {b} {p} {q} {r} e h k l =
      let xs = unset_in s (expr_at t a) in
      let ys = unset_in s (expr_at t b) in
      l ∙ ap₂ lower_of h k ∙ sym (lowest_append xs ys) ∙ ap (λ (zs : List ℕ). lowest (xs ++ zs)) (sym (append-nil ys))
      ∙ sym (ap (λ (d : Expr ℕ). lowest (unset_in s d)) (expr_at_bin t formed n below e))

  none_at : (m : Node) → ((x : ℕ) → m ≡ Var x → ⊥) → ((o : Unary) (a : ℕ) → m ≡ Uny o a → ⊥) → ((a : ℕ) (o : Binary) (b : ℕ) → m ≡ Bin a o b → ⊥) → lowest (unset_in s (expr_of n (expr_at t) (Some m))) ≡ None
  unfolding chosen_in
  none_at (Var x) v u b = absurd (v x refl)
  none_at (Uny o a) v u b = absurd (u o a refl)
  none_at (Bin a o c) v u b = absurd (b a o c refl)
  none_at _ v u b = refl

  pub other_unset : (m : Node) → node (get_or t n blank) ≡ Some m → ((x : ℕ) → m ≡ Var x → ⊥) → ((o : Unary) (a : ℕ) → m ≡ Uny o a → ⊥) → ((a : ℕ) (o : Binary) (b : ℕ) → m ≡ Bin a o b → ⊥) → None ≡ lowest (unset_in s (expr_at t n))
  other_unset m e v u b = sym (ap (λ (d : Expr ℕ). lowest (unset_in s d)) (expr_step t n ∙ ap (expr_of n (expr_at t)) e) ∙ none_at m v u b)
