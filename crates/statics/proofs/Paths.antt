-- The path rule: the nodes that the check finds are those that some path reads while their variable is unset. Assumes nothing.
use Rattle.std.proofs.Common.{◌≡◌, ℕ, false, not, eqb, ◌⊎◌, List, [], ◌∷◌, ◌++◌, sym, refl, ap, ◌∙◌, subst, inl, inr, ne_eqb}
use Rattle.std.proofs.lemmas.Bool.{or_parts, or_from, and_cases, and_left, and_right}
use borrow.Author.Tests.{eqb-false, not-true}
use Rattle.tosca.specs.Trees.{Expr, const, var, uny, bin, Cmd, skip, assign, seq, choice, loop, input, output}
use Rattle.statics.specs.Choosing.{Among, chosen_in}
use Rattle.statics.specs.Setting.{Vars, no_vars, after, unset_in, unset}
use Rattle.statics.specs.Paths.{Event, reads, sets, reads_of, Path, skips, assigns, both, thens, elses, leaves, turns, inputs, outputs, NotSet, UnsetOn}
use Rattle.statics.proofs.Lists.{among_left, among_right, among_append, picked_to, picked_from}

-- events that set x nowhere
not_append : (x : ℕ) (p q : List Event) → NotSet x p → NotSet x q → NotSet x (p ++ q)
not_append x [] q h k = k
not_append x (reads m y ∷ p) q h k = not_append x p q h k
not_append x (sets y ∷ p) q h k = (h.0, not_append x p q h.1 k)

not_left : (x : ℕ) (p q : List Event) → NotSet x (p ++ q) → NotSet x p
not_left x [] q h = tt
not_left x (reads m y ∷ p) q h = not_left x p q h
not_left x (sets y ∷ p) q h = (h.0, not_left x p q h.1)

not_right : (x : ℕ) (p q : List Event) → NotSet x (p ++ q) → NotSet x q
not_right x [] q h = h
not_right x (reads m y ∷ p) q h = not_right x p q h
not_right x (sets y ∷ p) q h = not_right x p q h.1

not_reads : (x : ℕ) (e : Expr ℕ) → NotSet x (reads_of e)
unfolding reads_of
not_reads x (const n v) = tt
not_reads x (var n y) = tt
not_reads x (uny n o e) = not_reads x e
not_reads x (bin n a o b) = not_append x (reads_of b) (reads_of a) (not_reads x b) (not_reads x a)

some_path : (c : Cmd ℕ) → (p : List Event) × Path c p
some_path (skip m) = ([], skips)
some_path (assign m y e) = (reads_of e ++ sets y ∷ [], assigns)
some_path (seq m a b) = ((some_path a).0 ++ (some_path b).0, both (some_path a).1 (some_path b).1)
some_path (choice m e a b) = (reads_of e ++ (some_path a).0, thens (some_path a).1)
some_path (loop m e b) = (reads_of e, leaves)
some_path (input m y) = (sets y ∷ [], inputs)
some_path (output m e) = (reads_of e, outputs)

-- the node n reads x on the events before they set it
abbrev Unset : ℕ → ℕ → List Event → Type 0
Unset n x [] = ⊥
Unset n x (reads m y ∷ p) = ((m ≡ n) × (y ≡ x)) ⊎ Unset n x p
Unset n x (sets y ∷ p) = (y ≡ x → ⊥) × Unset n x p

module _ (n x : ℕ) where
  unset_left : (p q : List Event) → Unset n x p → Unset n x (p ++ q)
  unset_left [] q h = absurd h
  unset_left (reads m y ∷ p) q (inl h) = inl h
  unset_left (reads m y ∷ p) q (inr h) = inr (unset_left p q h)
  unset_left (sets y ∷ p) q h = (h.0, unset_left p q h.1)

  unset_right : (p q : List Event) → NotSet x p → Unset n x q → Unset n x (p ++ q)
  unset_right [] q k h = h
  unset_right (reads m y ∷ p) q k h = inr (unset_right p q k h)
  unset_right (sets y ∷ p) q k h = (k.0, unset_right p q k.1 h)

  unset_append : (p q : List Event) → Unset n x (p ++ q) → Unset n x p ⊎ (NotSet x p × Unset n x q)
  unset_append [] q h = inr (tt, h)
  unset_append (reads m y ∷ p) q (inl h) = inl (inl h)
  unset_append (reads m y ∷ p) q (inr h) = elim (unset_append p q h) [ inl k ↦ inl (inr k) | inr k ↦ inr k ]
  unset_append (sets y ∷ p) q h = elim (unset_append p q h.1) [ inl k ↦ inl (h.0, k) | inr k ↦ inr ((h.0, k.0), k.1) ]

  -- the same by a split of the events
  unset_split : (p : List Event) → Unset n x p → (q : List Event) × (r : List Event) × (p ≡ q ++ (reads n x ∷ r)) × NotSet x q
  unset_split [] h = absurd h
  unset_split (reads m y ∷ p) (inl h) = ([], p, (λ i. reads (h.0 i) (h.1 i) ∷ p), tt)
  unset_split (reads m y ∷ p) (inr h) = let r = unset_split p h in (reads m y ∷ r.0, r.1, ap (λ (t : List Event). reads m y ∷ t) r.2, r.3)
  unset_split (sets y ∷ p) h = let r = unset_split p h.1 in (sets y ∷ r.0, r.1, ap (λ (t : List Event). sets y ∷ t) r.2, (h.0, r.3))

  -- of an expression
  unset_reads : (s : Vars) (e : Expr ℕ) → s x ≡ false → Unset n x (reads_of e) → Among n (unset_in s e)
  unfolding reads_of chosen_in
  unset_reads s (const m v) f h = absurd h
  unset_reads s (var m y) f (inl h) = picked_from m n (not (s y)) (ap (λ (z : ℕ). not (s z)) h.1 ∙ ap not f) h.0
  unset_reads s (var m y) f (inr h) = absurd h
  unset_reads s (uny m o e) f h = among_left n (unset_in s e) [] (unset_reads s e f h)
  unset_reads s (bin m a o b) f h =
      elim (unset_append (reads_of b) (reads_of a) h) [
        | inl k ↦ among_right n (unset_in s a) (unset_in s b ++ []) (among_left n (unset_in s b) [] (unset_reads s b f k))
        | inr k ↦ among_left n (unset_in s a) (unset_in s b ++ []) (unset_reads s a f k.1)
      ]

  -- what the check says to be set after a command is set on each of its paths
  after_path : {c : Cmd ℕ} {p : List Event} → Path c p → (s : Vars) → s x ≡ false → NotSet x p → after c s x ≡ false
  unfolding after
  after_path skips s f h = f
  after_path (assigns {x = y} {e = e}) s f h = or_from (eqb y x) (s x) (ne_eqb y x (not_right x (reads_of e) (sets y ∷ []) h).0) f
  after_path (both {a = a} {p = p} {q = q} u v) s f h = after_path v (after a s) (after_path u s f (not_left x p q h)) (not_right x p q h)
  after_path (thens {e = e} {a = a} {b = b} {p = p} u) s f h = and_left (after a s x) (after b s x) (after_path u s f (not_right x (reads_of e) p h))
  after_path (elses {e = e} {a = a} {b = b} {p = p} u) s f h = and_right (after a s x) (after b s x) (after_path u s f (not_right x (reads_of e) p h))
  after_path leaves s f h = f
  after_path (turns u v) s f h = f
  after_path (inputs {x = y}) s f h = or_from (eqb y x) (s x) (ne_eqb y x h.0) f
  after_path outputs s f h = f

  -- a path that reads a variable unset passes a node that the check finds
  path_found : {c : Cmd ℕ} {p : List Event} → Path c p → (s : Vars) → s x ≡ false → Unset n x p → Among n (unset s c)
  unfolding unset
  path_found skips s f h = absurd h
  path_found (assigns {x = y} {e = e}) s f h =
      elim (unset_append (reads_of e) (sets y ∷ []) h) [ inl k ↦ unset_reads s e f k | inr k ↦ absurd k.1.1 ]
  path_found (both {a = a} {b = b} {p = p} {q = q} u v) s f h =
      elim (unset_append p q h) [
        | inl k ↦ among_left n (unset s a) (unset (after a s) b) (path_found u s f k)
        | inr k ↦ among_right n (unset s a) (unset (after a s) b) (path_found v (after a s) (after_path u s f k.0) k.1)
      ]
  path_found (thens {e = e} {a = a} {b = b} {p = p} u) s f h =
      elim (unset_append (reads_of e) p h) [
        | inl k ↦ among_left n (unset_in s e) (unset s a ++ unset s b) (unset_reads s e f k)
        | inr k ↦ among_right n (unset_in s e) (unset s a ++ unset s b) (among_left n (unset s a) (unset s b) (path_found u s f k.1))
      ]
  path_found (elses {e = e} {a = a} {b = b} {p = p} u) s f h =
      elim (unset_append (reads_of e) p h) [
        | inl k ↦ among_left n (unset_in s e) (unset s a ++ unset s b) (unset_reads s e f k)
        | inr k ↦ among_right n (unset_in s e) (unset s a ++ unset s b) (among_right n (unset s a) (unset s b) (path_found u s f k.1))
      ]
  path_found (leaves {e = e} {b = b}) s f h = among_left n (unset_in s e) (unset s b) (unset_reads s e f h)
  path_found (turns {e = e} {b = b} {p = p} {q = q} u v) s f h =
      elim (unset_append (reads_of e) (p ++ q) h) [
        | inl k ↦ among_left n (unset_in s e) (unset s b) (unset_reads s e f k)
        | inr k ↦ elim (unset_append p q k.1) [
          | inl j ↦ among_right n (unset_in s e) (unset s b) (path_found u s f j)
          | inr j ↦ path_found v s f j.1
        ]
      ]
  path_found inputs s f h = absurd h.1
  path_found (outputs {e = e}) s f h = unset_reads s e f h

-- a path on which x stays unset
record Free (x : ℕ) (s : Vars) (c : Cmd ℕ) : Type 0 where
  start : s x ≡ false
  way : List Event
  is : Path c way
  free : NotSet x way

-- where the check does not say that x is set after a command, some path does not set it
after_free : (x : ℕ) (s : Vars) (c : Cmd ℕ) → after c s x ≡ false → Free x s c
unfolding after
after_free x s (skip m) h = record { start = h; way = []; is = skips; free = tt }
after_free x s (assign m y e) h =
    let r = or_parts (eqb y x) (s x) h in
    record { start = r.1; way = reads_of e ++ sets y ∷ []; is = assigns; free = not_append x (reads_of e) (sets y ∷ []) (not_reads x e) (eqb-false y x r.0, tt) }
after_free x s (seq m a b) h =
    let v = after_free x (after a s) b h in
    let u = after_free x s a v.start in
    record { start = u.start; way = u.way ++ v.way; is = both u.is v.is; free = not_append x u.way v.way u.free v.free }
after_free x s (choice m e a b) h =
    elim (and_cases (after a s x) (after b s x) h) [
      | inl k ↦ (let u = after_free x s a k in record { start = u.start; way = reads_of e ++ u.way; is = thens u.is; free = not_append x (reads_of e) u.way (not_reads x e) u.free })
      | inr k ↦ (let u = after_free x s b k in record { start = u.start; way = reads_of e ++ u.way; is = elses u.is; free = not_append x (reads_of e) u.way (not_reads x e) u.free })
    ]
after_free x s (loop m e b) h = record { start = h; way = reads_of e; is = leaves; free = not_reads x e }
after_free x s (input m y) h =
    let r = or_parts (eqb y x) (s x) h in
    record { start = r.1; way = sets y ∷ []; is = inputs; free = (eqb-false y x r.0, tt) }
after_free x s (output m e) h = record { start = h; way = reads_of e; is = outputs; free = not_reads x e }

module _ (n : ℕ) where
  -- the node reads some variable outside s on the events before they set it
  record Hit (s : Vars) (p : List Event) : Type 0 where
    name : ℕ
    start : s name ≡ false
    hits : Unset n name p

  hit_left : (s : Vars) (p q : List Event) → Hit s p → Hit s (p ++ q)
  hit_left s p q h = record { name = h.name; start = h.start; hits = unset_left n h.name p q h.hits }

  hit_behind : (s : Vars) (e : Expr ℕ) (p : List Event) → Hit s p → Hit s (reads_of e ++ p)
  hit_behind s e p h = record { name = h.name; start = h.start; hits = unset_right n h.name (reads_of e) p (not_reads h.name e) h.hits }

  found_reads : (s : Vars) (e : Expr ℕ) → Among n (unset_in s e) → Hit s (reads_of e)
  unfolding reads_of chosen_in
  found_reads s (const m v) h = absurd h
  found_reads s (var m y) h =
      let r = picked_to m n (not (s y)) h in
      record { name = y; start = not-true (s y) r.0; hits = inl (r.1, refl) }
  found_reads s (uny m o e) h = elim (among_append n (unset_in s e) [] h) [ inl k ↦ found_reads s e k | inr k ↦ absurd k ]
  found_reads s (bin m a o b) h =
      elim (among_append n (unset_in s a) (unset_in s b ++ []) h) [
        | inl k ↦ hit_behind s b (reads_of a) (found_reads s a k)
        | inr k ↦ elim (among_append n (unset_in s b) [] k) [ inl j ↦ hit_left s (reads_of b) (reads_of a) (found_reads s b j) | inr j ↦ absurd j ]
      ]

  abbrev OnPath : Vars → Cmd ℕ → Type 0
  OnPath s c = (p : List Event) × Path c p × Hit s p

  -- a node that the check finds is read unset on some path
  found_path : (s : Vars) (c : Cmd ℕ) → Among n (unset s c) → OnPath s c
  unfolding unset
  found_path s (skip m) h = absurd h
  found_path s (assign m y e) h = (reads_of e ++ sets y ∷ [], assigns, hit_left s (reads_of e) (sets y ∷ []) (found_reads s e h))
  found_path s (seq m a b) h =
      elim (among_append n (unset s a) (unset (after a s) b) h) [
        | inl k ↦ (let r = found_path s a k in let q = some_path b in (r.0 ++ q.0, both r.1 q.1, hit_left s r.0 q.0 r.2))
        | inr k ↦ (
            let r = found_path (after a s) b k in
            let x = r.2.name in
            let v = after_free x s a r.2.start in
            (v.way ++ r.0, both v.is r.1, record { name = x; start = v.start; hits = unset_right n x v.way r.0 v.free r.2.hits }))
      ]
  found_path s (choice m e a b) h =
      elim (among_append n (unset_in s e) (unset s a ++ unset s b) h) [
        | inl k ↦ (let q = some_path a in (reads_of e ++ q.0, thens q.1, hit_left s (reads_of e) q.0 (found_reads s e k)))
        | inr k ↦ elim (among_append n (unset s a) (unset s b) k) [
          | inl j ↦ (let r = found_path s a j in (reads_of e ++ r.0, thens r.1, hit_behind s e r.0 r.2))
          | inr j ↦ (let r = found_path s b j in (reads_of e ++ r.0, elses r.1, hit_behind s e r.0 r.2))
        ]
      ]
  found_path s (loop m e b) h =
      elim (among_append n (unset_in s e) (unset s b) h) [
        | inl k ↦ (reads_of e, leaves, found_reads s e k)
        | inr k ↦ (
            let r = found_path s b k in
            (reads_of e ++ (r.0 ++ reads_of e), turns r.1 leaves, hit_behind s e (r.0 ++ reads_of e) (hit_left s r.0 (reads_of e) r.2)))
      ]
  found_path s (input m y) h = absurd h
  found_path s (output m e) h = (reads_of e, outputs, found_reads s e h)

pub found_unset : (c : Cmd ℕ) (k : ℕ) → Among k (unset no_vars c) → UnsetOn c k
found_unset c k h =
    let r = found_path k no_vars c h in
    let t = unset_split k r.2.name r.0 r.2.hits in
    (r.0, r.1, record { name = r.2.name; before = t.0; rest = t.1; splits = t.2; unset = t.3 })

pub unset_found : (c : Cmd ℕ) (k : ℕ) → UnsetOn c k → Among k (unset no_vars c)
unset_found c k r =
    let u = r.2 in
    let x = u.name in
    let h = unset_right k x u.before (reads k x ∷ u.rest) u.unset (inl (refl, refl)) in
    path_found k x r.1 no_vars refl (subst (λ (p : List Event). Unset k x p) (sym u.splits) h)
