-- What is among a list's elements, and the lowest of them. Assumes nothing.
use Rattle.std.proofs.Common.{◌≡◌, ℕ, ◌≤◌, min, Bool, true, false, leb, ◌⊎◌, List, [], ◌∷◌, ◌++◌, Some, None, Option, refl, subst, inl, inr, arith, leb-false, leb-true}
use Rattle.statics.proofs.Booleans.{false_true}
use Rattle.statics.specs.Choosing.{Among, least, lowest, Least, picked}

pub among_left : {A : Type 0} (a : A) (xs ys : List A) → Among a xs → Among a (xs ++ ys)
among_left a [] ys h = absurd h
among_left a (x ∷ xs) ys (inl e) = inl e
among_left a (x ∷ xs) ys (inr h) = inr (among_left a xs ys h)

pub among_right : {A : Type 0} (a : A) (xs ys : List A) → Among a ys → Among a (xs ++ ys)
among_right a [] ys h = h
among_right a (x ∷ xs) ys h = inr (among_right a xs ys h)

pub among_append : {A : Type 0} (a : A) (xs ys : List A) → Among a (xs ++ ys) → Among a xs ⊎ Among a ys
among_append a [] ys h = inr h
among_append a (x ∷ xs) ys (inl e) = inl (inl e)
among_append a (x ∷ xs) ys (inr h) = elim (among_append a xs ys h) [ inl k ↦ inl (inr k) | inr k ↦ inr k ]

pub none_among : (ks : List ℕ) → ((k : ℕ) → Among k ks → ⊥) → ks ≡ []
none_among [] h = refl
none_among (k ∷ ks) h = absurd (h k (inl refl))

pub among_none : (ks : List ℕ) (k : ℕ) → ks ≡ [] → Among k ks → ⊥
among_none ks k e h = subst (λ (l : List ℕ). Among k l) e h

pub picked_to : (n k : ℕ) (b : Bool) → Among k (picked n b) → (b ≡ true) × (n ≡ k)
picked_to n k true (inl e) = (refl, e)
picked_to n k true (inr h) = absurd h
picked_to n k false h = absurd h

pub picked_from : (n k : ℕ) (b : Bool) → b ≡ true → n ≡ k → Among k (picked n b)
picked_from n k true t e = inl e
picked_from n k false t e = false_true t

-- what the lowest of a list says of it
abbrev LowestIs : Option ℕ → List ℕ → Type 0
LowestIs None ks = ks ≡ []
LowestIs (Some m) ks = Least m ks

lower : (k : ℕ) (ks : List ℕ) (o : Option ℕ) → LowestIs o ks → Least (least k o) (k ∷ ks)
lower k ks None e = (inl refl, λ j h. elim h [ inl i ↦ omega arith | inr i ↦ absurd (among_none ks j e i) ])
lower k ks (Some m) l = by (leb k m) refl
  where
    by : (b : Bool) → leb k m ≡ b → Least (min k m) (k ∷ ks)
    by true e =
        let le : k ≤ m = leb-true k m e in
        (inl (omega arith), λ j h. elim h [ inl i ↦ omega arith | inr i ↦ omega (arith, l.1 j i) ])
    by false e =
        let lt = leb-false k m e in
        let is : m ≡ min k m = omega arith in
        (inr (subst (λ (n : ℕ). Among n ks) is l.0), λ j h. elim h [ inl i ↦ omega arith | inr i ↦ omega (arith, l.1 j i) ])

pub lowest_is : (ks : List ℕ) → LowestIs (lowest ks) ks
lowest_is [] = refl
lowest_is (k ∷ ks) = lower k ks (lowest ks) (lowest_is ks)

pub lowest_none : (ks : List ℕ) → lowest ks ≡ None → ks ≡ []
lowest_none ks e = subst (λ (o : Option ℕ). LowestIs o ks) e (lowest_is ks)

pub lowest_some : (ks : List ℕ) (m : ℕ) → lowest ks ≡ Some m → Least m ks
lowest_some ks m e = subst (λ (o : Option ℕ). LowestIs o ks) e (lowest_is ks)
