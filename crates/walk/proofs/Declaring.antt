-- How the declarations of a table are gathered, one entry after another. Assumes nothing.
use Rattle.std.proofs.Common.{◌≡◌, ℕ, zero, suc, ◌+◌, ◌<◌, ◌≤◌, Bool, true, cond, eqb, List, ◌∷◌, length, get_or, drop, set, replicate, Some, None, Option, sym, refl, ap, ◌∙◌, subst, ⊎_elim, add-one, arith, eq-eqb, ne_eqb}
use Rattle.std.proofs.lemmas.List.{length-set, get_or-set_same, get_or-set_other, drop_more, drop_all}
use Rattle.std.proofs.lemmas.Bool.{cases_eq}
use Rattle.std.specs.Option.{option_or}
use Rattle.tosca.specs.declared.operators.SimpleType.{SimpleType}
use Rattle.tosca.specs.declared.table.Entry.{Entry}
use Rattle.tosca.specs.declared.table.Node.{Node}
use Rattle.tosca.specs.declared.table.Node.TheVariants.{Decl, Const, Var, Uny, Bin, Skip, Assign, Seq, Choice, Loop, Input, Output, Program}
use Rattle.tosca.specs.Table.{blank, node}
use Rattle.tosca.specs.Trees as tree
use Rattle.tosca.specs.Decode.{declared, decls_from, program_of}
use Rattle.draft.specs.Forming.{is_formed}
use Rattle.draft.proofs.Facts.{decl_fact}
use Rattle.statics.specs.Typing.{decl_of, declared_type, type_in}
use Rattle.walk.specs.Gathering.{declaration}

or_none : {A : Type 0} (a : Option A) → option_or a None ≡ a
or_none (Some a) = refl
or_none None = refl

first_or : {A : Type 0} (a : Option A) (y : A) (b : Option A) → option_or (option_or a (Some y)) b ≡ option_or a (Some y)
first_or (Some z) y b = refl
first_or None y b = refl

none_yet : (n x : ℕ) → get_or {A = Option SimpleType} (replicate n None) x None ≡ None
none_yet zero x = refl
none_yet (suc n) zero = refl
none_yet (suc n) (suc x) = none_yet n x

-- the types so far, with those of the entries from n on, are those of the table
abbrev pub Gathered : List Entry → ℕ → List (Option SimpleType) → Type 0
Gathered t n types = (length types ≡ 64) × ((x : ℕ) → option_or (get_or types x None) (type_in (decls_from n (drop n t)) x) ≡ type_in (decls_from 0 t) x)

pub gathered_none : (t : List Entry) (types : List (Option SimpleType)) → types ≡ replicate 64 None → Gathered t 0 types
gathered_none t types e = (ap length e, λ x. ap (λ (ts : List (Option SimpleType)). option_or (get_or ts x None) (type_in (decls_from 0 t) x)) e ∙ ap (λ (a : Option SimpleType). option_or a (type_in (decls_from 0 t) x)) (none_yet 64 x))

decls_more : (t : List Entry) (n : ℕ) → n < length t → decls_from n (drop n t) ≡ declared n (node (get_or t n blank)) (decls_from (n + 1) (drop (n + 1) t))
unfolding decls_from
decls_more t n h = ap (decls_from n) (drop_more t n blank h) ∙ ap (λ (k : ℕ). declared n (node (get_or t n blank)) (decls_from k (drop (n + 1) t))) (sym (add-one n))

decl_node : (o : Option Node) (x : ℕ) (y : SimpleType) → declaration o ≡ Some (x, y) → o ≡ Some (Decl x y)
decl_node (Some (Decl x' y')) x y e =
    let p : ◌≡◌ {A = ℕ × SimpleType} (x', y') (x, y) = cc in
    ap (λ (q : ℕ × SimpleType). Some (Decl q.0 q.1)) p
decl_node (Some (Const v)) x y e = cc
decl_node (Some (Var z)) x y e = cc
decl_node (Some (Uny o a)) x y e = cc
decl_node (Some (Bin a o b)) x y e = cc
decl_node (Some Skip) x y e = cc
decl_node (Some (Assign z a)) x y e = cc
decl_node (Some (Seq a b)) x y e = cc
decl_node (Some (Choice a b c)) x y e = cc
decl_node (Some (Loop a b)) x y e = cc
decl_node (Some (Input z)) x y e = cc
decl_node (Some (Output a)) x y e = cc
decl_node (Some (Program a)) x y e = cc
decl_node None x y e = cc

none_declared : (n : ℕ) (o : Option Node) (ds : List (tree.Decl ℕ)) → declaration o ≡ None → declared n o ds ≡ ds
none_declared n (Some (Decl x y)) ds e = cc
none_declared n (Some (Const v)) ds e = refl
none_declared n (Some (Var x)) ds e = refl
none_declared n (Some (Uny o a)) ds e = refl
none_declared n (Some (Bin a o b)) ds e = refl
none_declared n (Some Skip) ds e = refl
none_declared n (Some (Assign x a)) ds e = refl
none_declared n (Some (Seq a b)) ds e = refl
none_declared n (Some (Choice a b c)) ds e = refl
none_declared n (Some (Loop a b)) ds e = refl
none_declared n (Some (Input x)) ds e = refl
none_declared n (Some (Output a)) ds e = refl
none_declared n (Some (Program a)) ds e = refl
none_declared n None ds e = refl

-- one turn at the entry n
module _ (t : List Entry) (formed : is_formed t ≡ true) (n : ℕ) (types : List (Option SimpleType)) (inv : Gathered t n types) (es : List Entry) (same : es ≡ t) (lt : n < length es) (o : Option Node) (read : o ≡ node (get_or es n blank)) (r : Option (ℕ × SimpleType)) (said : r ≡ declaration o) where
  below : n < length t
  below = subst (λ (j : ℕ). n < j) (ap length same) lt

  node_is : node (get_or t n blank) ≡ o
  node_is = sym (read ∙ ap (λ (us : List Entry). node (get_or us n blank)) same)

  pub name_below : (x : ℕ) (y : SimpleType) → r ≡ Some (x, y) → x < 64
  name_below x y e = decl_fact t formed n below (node_is ∙ decl_node o x y (sym said ∙ e))

  pub gathered_same : r ≡ None → (us : List (Option SimpleType)) → us ≡ types → Gathered t (n + 1) us
  gathered_same e us is =
      let ds = decls_from (n + 1) (drop (n + 1) t) in
      let same_decls : decls_from n (drop n t) ≡ ds = decls_more t n below ∙ ap (λ (p : Option Node). declared n p ds) node_is ∙ none_declared n o ds (sym said ∙ e) in
      subst (Gathered t (n + 1)) (sym is) (inv.0, λ x. ap (λ (us : List (tree.Decl ℕ)). option_or (get_or types x None) (type_in us x)) (sym same_decls) ∙ inv.1 x)

  pub gathered_more : (x : ℕ) (y : SimpleType) → r ≡ Some (x, y) → (us : List (Option SimpleType)) → us ≡ set types x (option_or (get_or types x None) (Some y)) → Gathered t (n + 1) us
  gathered_more x y e us is =
      let ds = decls_from (n + 1) (drop (n + 1) t) in
      let one : tree.Decl ℕ = record { label = n; name = x; type = y } in
      let more : decls_from n (drop n t) ≡ one ∷ ds = decls_more t n below ∙ ap (λ (p : Option Node). declared n p ds) (node_is ∙ decl_node o x y (sym said ∙ e)) in
      let within : x < length types = omega (arith, inv.0, name_below x y e) in
      let later : (z : ℕ) → option_or (get_or types z None) (declared_type (cond (eqb x z) (Some one) (decl_of ds z))) ≡ type_in (decls_from 0 t) z = λ z. ap (λ (us : List (tree.Decl ℕ)). option_or (get_or types z None) (type_in us z)) (sym more) ∙ inv.1 z in
      subst (Gathered t (n + 1)) (sym is) (
        length-set types x (option_or (get_or types x None) (Some y)) ∙ inv.0,
        λ z. ⊎_elim
            (λ (q : x ≡ z). subst (λ (z : ℕ). option_or (get_or (set types x (option_or (get_or types x None) (Some y))) z None) (type_in ds z) ≡ type_in (decls_from 0 t) z) q
            (ap (λ (a : Option SimpleType). option_or a (type_in ds x)) (get_or-set_same types x (option_or (get_or types x None) (Some y)) None within)
            ∙ first_or (get_or types x None) y (type_in ds x)
            ∙ sym (ap (λ (b : Bool). option_or (get_or types x None) (declared_type (cond b (Some one) (decl_of ds x)))) (eq-eqb x x refl))
            ∙ later x))
            (λ (ne : x ≡ z → ⊥).
            ap (λ (a : Option SimpleType). option_or a (type_in ds z)) (get_or-set_other types x z (option_or (get_or types x None) (Some y)) None (λ q. ne (sym q)))
            ∙ sym (ap (λ (b : Bool). option_or (get_or types z None) (declared_type (cond b (Some one) (decl_of ds z)))) (ne_eqb x z ne))
            ∙ later z)
            (cases_eq x z),
      )

pub gathered_all : (t : List Entry) (n : ℕ) (types : List (Option SimpleType)) → Gathered t n types → (es : List Entry) → es ≡ t → length es ≤ n → (x : ℕ) → get_or types x None ≡ type_in (program_of t).decls x
unfolding program_of decls_from
gathered_all t n types inv es same h x =
    sym (or_none (get_or types x None))
    ∙ sym (ap (λ (us : List Entry). option_or (get_or types x None) (type_in (decls_from n us) x)) (drop_all n t (subst (λ (j : ℕ). j ≤ n) (ap length same) h)))
    ∙ inv.1 x
