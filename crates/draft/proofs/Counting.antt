-- Counting the uses of each node as a part.
use Rattle.std.proofs.Common.{◌≡◌, ℕ, ◌+◌, ◌<◌, ◌≤◌, min, cond, eqb, ◌⊎◌, List, [], ◌∷◌, ◌++◌, length, map, get_or, take, set, replicate, Some, None, Option, sym, ap, ◌∙◌, inl, inr, arith, get_or-set_other, get_or-set_same}
use Rattle.std.specs.List.{flat_map}
use Rattle.std.specs.Option.{option_to_list}
use Rattle.std.proofs.lemmas.List.{take_more, length-set, get_or-replicate, length-replicate}
use Rattle.std.proofs.lemmas.Bool.{eq-eqb, ne_eqb, cases_eq}
use Rattle.tosca.specs.declared.table.Entry.{Entry}
use Rattle.tosca.specs.Table.{blank, node}
use Rattle.tosca.specs.Opens.{Part, parts, uses, all_uses}
use Rattle.draft.specs.declared.nodes.Part.{Part as NodePart}
use Rattle.draft.specs.Nodes.{part_of}
use Rattle.draft.specs.Uses.{Counts}

pub recount : (us : List ℕ) (f g : ℕ → ℕ) → ((k : ℕ) → f k ≡ g k) → Counts us f → Counts us g
recount us f g same h k lt = h k lt ∙ ap (λ n. min n 255) (same k)

-- one part counted
pub count_one : (us : List ℕ) (p : Part) (a v : ℕ) → a ≡ p.at → a < length us → v ≡ min (get_or us a 0 + 1) 255 → (f : ℕ → ℕ) → Counts us f → Counts (set us a v) (λ k. f k + uses k (p ∷ []))
count_one us p a v at lt e f h k kt = go (cases_eq a k)
  where
    within : k < length us
    within = omega (arith, length-set us a v)

    go : (a ≡ k) ⊎ (a ≡ k → ⊥) → get_or (set us a v) k 0 ≡ min (f k + (cond (eqb p.at k) 1 0 + 0)) 255
    go (inl same) =
        let new : get_or (set us a v) k 0 ≡ v = ap (λ j. get_or (set us a v) j 0) (sym same) ∙ get_or-set_same us a v 0 lt in
        let old : get_or us a 0 ≡ min (f k) 255 = ap (λ j. get_or us j 0) same ∙ h k within in
        let one : cond {A = ℕ} (eqb p.at k) 1 0 ≡ 1 = ap (λ b. cond {A = ℕ} b 1 0) (eq-eqb p.at k (sym at ∙ same)) in
        omega arith
    go (inr other) =
        let old : get_or (set us a v) k 0 ≡ min (f k) 255 = get_or-set_other us a k v 0 (λ q. other (sym q)) ∙ h k within in
        let none : cond {A = ℕ} (eqb p.at k) 1 0 ≡ 0 = ap (λ b. cond {A = ℕ} b 1 0) (ne_eqb p.at k (λ q. other (at ∙ q))) in
        omega arith

-- a part past the table is not counted
pub count_past : (us : List ℕ) (p : Part) → length us ≤ p.at → (f : ℕ → ℕ) → Counts us f → Counts us (λ k. f k + uses k (p ∷ []))
count_past us p le f h k kt =
    let none : cond {A = ℕ} (eqb p.at k) 1 0 ≡ 0 = ap (λ b. cond {A = ℕ} b 1 0) (ne_eqb p.at k (λ q. omega arith)) in
    let old = h k kt in
    omega arith

-- how often k is one of the first i parts
abbrev pub uses_to : List (Option NodePart) → ℕ → ℕ → ℕ
uses_to ps i k = uses k (map part_of (flat_map option_to_list (take i ps)))

parts_append : (k : ℕ) (xs ys : List (Option NodePart)) → uses k (map part_of (flat_map option_to_list (xs ++ ys))) ≡ uses k (map part_of (flat_map option_to_list xs)) + uses k (map part_of (flat_map option_to_list ys))
parts_append k [] ys = omega arith
parts_append k (None ∷ xs) ys = parts_append k xs ys
parts_append k (Some p ∷ xs) ys = omega (arith, parts_append k xs ys)

module _ (ps : List (Option NodePart)) (i : ℕ) (h : i < length ps) (k : ℕ) where
  next_part : uses_to ps (i + 1) k ≡ uses_to ps i k + uses k (map part_of (flat_map option_to_list (get_or ps i None ∷ [])))
  next_part = ap (λ (xs : List (Option NodePart)). uses k (map part_of (flat_map option_to_list xs))) (take_more ps i None h) ∙ parts_append k (take i ps) (get_or ps i None ∷ [])

  pub one_further : (p : NodePart) → get_or ps i None ≡ Some p → uses_to ps i k + uses k (part_of p ∷ []) ≡ uses_to ps (i + 1) k
  one_further p e = omega (arith, next_part, ap (λ (o : Option NodePart). uses k (map part_of (flat_map option_to_list (o ∷ [])))) e)

  pub none_further : get_or ps i None ≡ None → uses_to ps i k ≡ uses_to ps (i + 1) k
  none_further e = omega (arith, next_part, ap (λ (o : Option NodePart). uses k (map part_of (flat_map option_to_list (o ∷ [])))) e)

all_uses_append : (k : ℕ) (xs ys : List Entry) → all_uses k (xs ++ ys) ≡ all_uses k xs + all_uses k ys
all_uses_append k [] ys = omega arith
all_uses_append k (e ∷ xs) ys = omega (arith, all_uses_append k xs ys)

pub uses_more : (t : List Entry) (i : ℕ) → i < length t → (k : ℕ) → all_uses k (take i t) + uses k (parts (node (get_or t i blank))) ≡ all_uses k (take (i + 1) t)
uses_more t i h k = omega (arith, ap (all_uses k) (take_more t i blank h) ∙ all_uses_append k (take i t) (get_or t i blank ∷ []))

pub none_counted : Counts (replicate 1024 0) (λ k. 0)
none_counted k lt = get_or-replicate 1024 k 0 0 (omega (arith, length-replicate {A = ℕ} 1024 0))
