-- Declarations of a name that an earlier one has, by one pass with the set of the names so far. Assumes nothing.
use Rattle.std.proofs.Common.{◌≡◌, ℕ, suc, ◌+◌, ◌^◌, ◌<◌, ◌≤◌, Bool, true, false, cond, ◌||◌, eqb, List, [], ◌∷◌, length, get_or, drop, Some, None, Option, sym, refl, ap, ◌∙◌, ⊎_elim, add-one, drop-cons}
use lib.Bits.{bit_or}
use Rattle.std.proofs.lemmas.List.{drop_all}
use Rattle.std.proofs.lemmas.Bool.{eq-eqb, ne_eqb, cases_eq, cond-true, cond-false}
use Rattle.tosca.specs.declared.operators.SimpleType.{SimpleType}
use Rattle.tosca.specs.declared.table.Entry.{Entry}
use Rattle.tosca.specs.declared.table.Node.{Node}
use Rattle.tosca.specs.declared.table.Node.TheVariants.{Decl}
use Rattle.tosca.specs.Table.{blank, node}
use Rattle.tosca.specs.Trees as tree
use Rattle.tosca.specs.Decode.{declared, decls_from, program_of}
use Rattle.statics.specs.Choosing.{lowest}
use Rattle.statics.specs.Setting.{Vars, with}
use Rattle.statics.specs.Checking.{is_name, again}
use Rattle.statics.proofs.Scanned.{head_of, again_first}
use Rattle.walk.specs.Readings.{holds}
use Rattle.checks.proofs.Bits.{holds_nothing, holds_with}

-- the first declaration of a name in the set, which grows by the names on the way
abbrev pub first_in : Vars → List (tree.Decl ℕ) → Option ℕ
first_in s [] = None
first_in s (d ∷ ds) = cond (s d.name) (Some d.label) (first_in (with d.name s) ds)

eqb_swap : (a b : ℕ) → eqb a b ≡ eqb b a
eqb_swap a b = ⊎_elim (λ (e : a ≡ b). eq-eqb a b e ∙ sym (eq-eqb b a (sym e))) (λ (ne : a ≡ b → ⊥). ne_eqb a b ne ∙ sym (ne_eqb b a (λ e. ne (sym e)))) (cases_eq a b)

head_cond : (b : Bool) (k : ℕ) (ks : List ℕ) → head_of (cond b (k ∷ ks) ks) ≡ cond b (Some k) (head_of ks)
head_cond true k ks = refl
head_cond false k ks = refl

again_in : (xs : List ℕ) (ds : List (tree.Decl ℕ)) → head_of (again xs ds) ≡ first_in (λ x. is_name x xs) ds
again_in xs [] = refl
again_in xs (d ∷ ds) =
    let grown : (λ x. is_name x (d.name ∷ xs)) ≡ with d.name (λ x. is_name x xs) = λ i x. eqb_swap x d.name i || is_name x xs in
    head_cond (is_name d.name xs) d.label (again (d.name ∷ xs) ds)
    ∙ ap (λ (o : Option ℕ). cond (is_name d.name xs) (Some d.label) o) (again_in (d.name ∷ xs) ds ∙ ap (λ (s : Vars). first_in s ds) grown)

-- what is left from entry n on, where the bits are the names so far
abbrev pub Left : List Entry → ℕ → ℕ → Option ℕ
Left t bits n = first_in (holds bits) (decls_from n (drop n t))

pub left_all : (t : List Entry) (bits : ℕ) → bits ≡ 0 → lowest (again [] (program_of t).decls) ≡ Left t bits 0
left_all t bits e = again_first t ∙ again_in [] (decls_from 0 t) ∙ ap (λ (s : Vars). first_in s (decls_from 0 t)) (sym (ap holds e ∙ holds_nothing))

pub left_none : (t : List Entry) (bits n : ℕ) → length t ≤ n → Left t bits n ≡ None
unfolding decls_from
left_none t bits n h = ap (λ (es : List Entry). first_in (holds bits) (decls_from n es)) (drop_all n t h)

module _ (t : List Entry) (bits n : ℕ) (below : n < length t) where
  left_step : Left t bits n ≡ first_in (holds bits) (declared n (node (get_or t n blank)) (decls_from (suc n) (drop (suc n) t)))
  unfolding decls_from
  left_step = ap (λ (es : List Entry). first_in (holds bits) (decls_from n es)) (drop-cons t n blank below)

  left_decl : {x : ℕ} {y : SimpleType} → node (get_or t n blank) ≡ Some (Decl x y) → Left t bits n ≡ cond (holds bits x) (Some n) (first_in (with x (holds bits)) (decls_from (suc n) (drop (suc n) t)))
  left_decl {x} {y} e = left_step ∙ ap (λ (o : Option Node). first_in (holds bits) (declared n o (decls_from (suc n) (drop (suc n) t)))) e

  pub left_here : {x : ℕ} {y : SimpleType} → node (get_or t n blank) ≡ Some (Decl x y) → true ≡ holds bits x → Left t bits n ≡ Some n
  left_here {x} {y} e h = left_decl e ∙ cond-true (holds bits x) (Some n) _ (sym h)

  pub left_later : {x : ℕ} {y : SimpleType} {more : ℕ} → node (get_or t n blank) ≡ Some (Decl x y) → false ≡ holds bits x → more ≡ bit_or bits (2 ^ x) → Left t bits n ≡ Left t more (n + 1)
  left_later {x} {y} {more} e h m =
      left_decl e ∙ cond-false (holds bits x) (Some n) _ (sym h)
      ∙ ap (λ (s : Vars). first_in s (decls_from (suc n) (drop (suc n) t))) (sym (ap holds m ∙ holds_with bits x))
      ∙ ap (Left t more) (sym (add-one n))

  skips : (m : Node) (ds : List (tree.Decl ℕ)) → ((x : ℕ) (y : SimpleType) → m ≡ Decl x y → ⊥) → declared n (Some m) ds ≡ ds
  skips (Decl x y) ds h = absurd (h x y refl)
  skips _ ds h = refl

  pub left_other : (m : Node) → node (get_or t n blank) ≡ Some m → ((x : ℕ) (y : SimpleType) → m ≡ Decl x y → ⊥) → Left t bits n ≡ Left t bits (n + 1)
  left_other m e h =
      left_step ∙ ap (λ (o : Option Node). first_in (holds bits) (declared n o (decls_from (suc n) (drop (suc n) t)))) e
      ∙ ap (first_in (holds bits)) (skips m (decls_from (suc n) (drop (suc n) t)) h) ∙ ap (Left t bits) (sym (add-one n))
