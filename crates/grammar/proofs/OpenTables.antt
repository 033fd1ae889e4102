-- Tables in the making: their first entries are declarations, and of the others each is used once or still loose.
use Rattle.std.proofs.Common.{◌≡◌, ℕ, suc, ◌+◌, ◌<◌, ◌≤◌, Bool, true, false, cond, not, ◌&&◌, eqb, ltb, leb, ◌⊎◌, List, [], ◌∷◌, ◌++◌, length, get_or, Some, sym, refl, ap, ◌∙◌, subst, inl, inr, arith}
use lib.ListN.{get_or-append}
use Rattle.std.proofs.lemmas.List.{get_or_at, length_push}
use Rattle.std.proofs.lemmas.Bool.{and_from, lt-ltb, le-leb, eq-eqb, cases_lt, cond-true}
use Rattle.tosca.specs.declared.table.Entry.{Entry}
use Rattle.tosca.specs.declared.table.Node.{Node}
use Rattle.tosca.specs.declared.table.Node.TheVariants.{Program}
use Rattle.tosca.specs.Table.{blank, entry, node}
use Rattle.tosca.proofs.Entries.{entry_said, entry_placed}
use Rattle.tosca.specs.Opens.{Sort, is_decl, is_expr, is_cmd, is_program, is_none, sort, same_sort, Part, cmd_part, parts, few_names, known_node, known, are_known, placed, are_placed, uses, all_uses, once, are_once, no_decl, decls_first, program_last, arranged, opened, entries_open}

pub known_entry : (n : Node) (p : ℕ) → few_names n ≡ true → p ≤ 16384 → known (entry n p) ≡ true
known_entry n p f l =
    and_from _ _ (ap known_node (entry_said n p) ∙ f) (ap (λ (q : ℕ). leb q 16384) (entry_placed n p) ∙ le-leb p 16384 l)

-- 1 from b up to e, and 0 elsewhere
abbrev pub within : ℕ → ℕ → ℕ → ℕ
within b e i = cond (leb b i && ltb i e) 1 0

pub within_none : (b i : ℕ) → within b b i ≡ 0
within_none b i = grind arith

pub within_more : (b e i : ℕ) → b ≤ e → within b (suc e) i ≡ within b e i + cond (eqb e i) 1 0
within_more b e i h = grind arith

pub within_in : (b e i : ℕ) → b ≤ i → i < e → within b e i ≡ 1
within_in b e i h k = grind arith

-- the parts stand before k, each with its sort
abbrev pub Stand : List Entry → ℕ → List Part → Type 0
Stand t k [] = Unit {0}
Stand t k (p ∷ ps) = (p.at < k) × (sort (node (get_or t p.at blank)) ≡ p.wants) × Stand t k ps

-- an expression or a command
abbrev pub inner : Sort → Bool
inner is_decl = false
inner is_expr = true
inner is_cmd = true
inner is_program = false
inner is_none = false

-- the entry k of a table whose first b entries are declarations
pub record Good (b : ℕ) (t : List Entry) (k : ℕ) (e : Entry) : Type 0 where
  pub says : known e ≡ true
  pub early : k < b → sort (node e) ≡ is_decl
  pub late : b ≤ k → inner (sort (node e)) ≡ true
  pub stands : Stand t k (parts (node e))

abbrev pub AllGood : ℕ → List Entry → ℕ → List Entry → Type 0
AllGood b t k [] = Unit {0}
AllGood b t k (e ∷ es) = Good b t k e × AllGood b t (suc k) es

-- what stands stays so as the table grows
stand_more : (t us : List Entry) (j k : ℕ) (ps : List Part) → j ≤ length t → j ≤ k → Stand t j ps → Stand (t ++ us) k ps
stand_more t us j k [] l h s = tt
stand_more t us j k (p ∷ ps) l h s =
    let a : p.at < j = s.0 in
    (omega arith, ap (λ (e : Entry). sort (node e)) (get_or-append t us blank p.at (omega arith)) ∙ s.1, stand_more t us j k ps l h s.2)

good_more : (b : ℕ) (t us : List Entry) (k : ℕ) (es : List Entry) → k + length es ≤ length t → AllGood b t k es → AllGood b (t ++ us) k es
good_more b t us k [] l g = tt
good_more b t us k (e ∷ es) l g = (
  record { says = g.0.says; early = g.0.early; late = g.0.late; stands = stand_more t us k k (parts (node e)) (omega arith) (omega arith) g.0.stands },
  good_more b t us (suc k) es (omega arith) g.1,
)

good_push : (b : ℕ) (t : List Entry) (k : ℕ) (es : List Entry) (x : Entry) → AllGood b t k es → Good b t (k + length es) x → AllGood b t k (es ++ (x ∷ []))
good_push b t k [] x g h = (subst (λ m. Good b t m x) (omega arith) h, tt)
good_push b t k (e ∷ es) x g h = (g.0, good_push b t (suc k) es x g.1 (subst (λ m. Good b t m x) (omega arith) h))

uses_push : (i : ℕ) (es : List Entry) (x : Entry) → all_uses i (es ++ (x ∷ [])) ≡ all_uses i es + uses i (parts (node x))
uses_push i [] x = omega arith
uses_push i (e ∷ es) x = omega (arith, uses_push i es x)

-- a table in the making, with the entries that are no part yet, the last first
pub record Sound (b : ℕ) (ps : List Part) (es : List Entry) : Type 0 where
  pub above : b ≤ length es
  pub good : AllGood b es 0 es
  pub loose : Stand es (length es) ps
  pub used : (i : ℕ) → all_uses i es + uses i ps ≡ within b (length es) i

-- one more entry, of the parts qs: these are no longer loose, and it is
module _ (b : ℕ) (es : List Entry) (qs ps : List Part) (n : Node) (p : ℕ) (s : Sort) where
  pub sound_push :
      b ≤ length es → AllGood b es 0 es → Stand es (length es) qs → Stand es (length es) ps →
      ((i : ℕ) → all_uses i es + (uses i qs + uses i ps) ≡ within b (length es) i) →
      parts (Some n) ≡ qs → sort (Some n) ≡ s → inner s ≡ true → few_names n ≡ true → p ≤ 16384 →
      Sound b (record { at = length es; wants = s } ∷ ps) (es ++ (entry n p ∷ []))
  sound_push a g q l u w e j f h =
      let x = entry n p in
      let len : length (es ++ (x ∷ [])) ≡ suc (length es) = omega (arith, length_push es x) in
      let is : sort (node x) ≡ s = ap sort (entry_said n p) ∙ e in
      let has : parts (node x) ≡ qs = ap parts (entry_said n p) ∙ w in
      let good : Good b (es ++ (x ∷ [])) (length es) x = record {
        says = known_entry n p f h;
        early = λ k. absurd (omega arith);
        late = λ k. ap inner is ∙ j;
        stands = subst (λ m. Stand (es ++ (x ∷ [])) (length es) m) (sym has) (stand_more es (x ∷ []) (length es) (length es) qs (omega arith) (omega arith) q);
      } in
      record {
        above = omega (arith, len);
        good = good_push b (es ++ (x ∷ [])) 0 es x (good_more b es (x ∷ []) 0 es (omega arith) g) (subst (λ m. Good b (es ++ (x ∷ [])) m x) (omega arith) good);
        loose = (
          omega (arith, len),
          ap (λ (y : Entry). sort (node y)) (get_or_at es x [] blank (length es) refl) ∙ is,
          stand_more es (x ∷ []) (length es) (length (es ++ (x ∷ []))) ps (omega arith) (omega (arith, len)) l,
        );
        used = λ i.
            let c = cond (eqb (length es) i) 1 0 in
            let v : all_uses i (es ++ (x ∷ [])) ≡ all_uses i es + uses i qs = uses_push i es x ∙ ap (λ (m : List Part). all_uses i es + uses i m) has in
            subst (λ m. all_uses i (es ++ (x ∷ [])) + (c + uses i ps) ≡ within b m i) (sym len) (omega (arith, v, u i, within_more b (length es) i a));
      }

-- the whole table: a sound one, and the program entry after it
same_sort_lem : (s : Sort) → same_sort s s ≡ true
same_sort_lem is_decl = refl
same_sort_lem is_expr = refl
same_sort_lem is_cmd = refl
same_sort_lem is_program = refl
same_sort_lem is_none = refl

inner_no_decl : (s : Sort) → inner s ≡ true → same_sort s is_decl ≡ false
inner_no_decl is_decl h = sym h
inner_no_decl is_expr h = refl
inner_no_decl is_cmd h = refl
inner_no_decl is_program h = refl
inner_no_decl is_none h = refl

inner_no_program : (s : Sort) → inner s ≡ true → same_sort s is_program ≡ false
inner_no_program is_decl h = refl
inner_no_program is_expr h = refl
inner_no_program is_cmd h = refl
inner_no_program is_program h = sym h
inner_no_program is_none h = refl

placed_standing : (t : List Entry) (k : ℕ) (ps : List Part) → Stand t k ps → placed t k ps ≡ true
placed_standing t k [] s = refl
placed_standing t k (p ∷ ps) s =
    and_from _ _ (and_from _ _ (lt-ltb p.at k s.0) (ap (λ (q : Sort). same_sort q p.wants) s.1 ∙ same_sort_lem p.wants)) (placed_standing t k ps s.2)

once_used : (t : List Entry) (k : ℕ) (s : Sort) → all_uses k t ≡ 1 → once t k s ≡ true
once_used t k is_decl h = refl
once_used t k is_expr h = eq-eqb (all_uses k t) 1 h
once_used t k is_cmd h = eq-eqb (all_uses k t) 1 h
once_used t k is_program h = refl
once_used t k is_none h = refl

module _ (b : ℕ) (t : List Entry) (x : Entry) where
  all_known : (k : ℕ) (es : List Entry) → AllGood b t k es → known x ≡ true → are_known (es ++ (x ∷ [])) ≡ true
  all_known k [] g h = and_from _ _ h refl
  all_known k (e ∷ es) g h = and_from _ _ g.0.says (all_known (suc k) es g.1 h)

  all_placed : (k : ℕ) (es : List Entry) → AllGood b t k es → Stand t (k + length es) (parts (node x)) → are_placed t k (es ++ (x ∷ [])) ≡ true
  all_placed k [] g h = and_from _ _ (placed_standing t k (parts (node x)) (subst (λ m. Stand t m (parts (node x))) (omega arith) h)) refl
  all_placed k (e ∷ es) g h =
      and_from _ _ (placed_standing t k (parts (node e)) g.0.stands) (all_placed (suc k) es g.1 (subst (λ m. Stand t m (parts (node x))) (omega arith) h))

  no_decl_lem : (k : ℕ) (es : List Entry) → AllGood b t k es → b ≤ k → sort (node x) ≡ is_program → no_decl (es ++ (x ∷ [])) ≡ true
  no_decl_lem k [] g l h = and_from _ _ (ap (λ (s : Sort). not (same_sort s is_decl)) h) refl
  no_decl_lem k (e ∷ es) g l h =
      and_from _ _ (ap not (inner_no_decl (sort (node e)) (g.0.late l))) (no_decl_lem (suc k) es g.1 (omega arith) h)

  decls_first_lem : (k : ℕ) (es : List Entry) → AllGood b t k es → sort (node x) ≡ is_program → decls_first (es ++ (x ∷ [])) ≡ true
  decls_first_lem k [] g h = ap (λ (s : Sort). cond (same_sort s is_decl) true true) h
  decls_first_lem k (e ∷ es) g h = go (cases_lt k b) (decls_first_lem (suc k) es g.1 h)
    where
      rest : List Entry
      rest = es ++ (x ∷ [])

      go : (k < b) ⊎ (b ≤ k) → decls_first rest ≡ true → decls_first (e ∷ rest) ≡ true
      go (inl l) r = ap (λ (s : Sort). cond (same_sort s is_decl) (decls_first rest) (no_decl rest)) (g.0.early l) ∙ r
      go (inr l) r = ap (λ (c : Bool). cond c (decls_first rest) (no_decl rest)) (inner_no_decl (sort (node e)) (g.0.late l)) ∙ no_decl_lem (suc k) es g.1 (omega arith) h

  no_program : (k : ℕ) (e : Entry) → Good b t k e → same_sort (sort (node e)) is_program ≡ false
  no_program k e g = go (cases_lt k b)
    where
      go : (k < b) ⊎ (b ≤ k) → same_sort (sort (node e)) is_program ≡ false
      go (inl l) = ap (λ (s : Sort). same_sort s is_program) (g.early l)
      go (inr l) = inner_no_program (sort (node e)) (g.late l)

  program_last_lem : (k : ℕ) (es : List Entry) → AllGood b t k es → sort (node x) ≡ is_program → program_last (es ++ (x ∷ [])) ≡ true
  program_last_lem k [] g h = ap (λ (s : Sort). same_sort s is_program) h
  program_last_lem k (e ∷ []) g h = and_from _ _ (ap not (no_program k e g.0)) (program_last_lem (suc k) [] tt h)
  program_last_lem k (e ∷ d ∷ es) g h = and_from _ _ (ap not (no_program k e g.0)) (program_last_lem (suc k) (d ∷ es) g.1 h)

  all_once : (m k : ℕ) (es : List Entry) → ((i : ℕ) → b ≤ i → i < m → all_uses i t ≡ 1) → AllGood b t k es → k + length es ≤ m → sort (node x) ≡ is_program → are_once t k (es ++ (x ∷ [])) ≡ true
  all_once m k [] u g l h = and_from _ _ (ap (λ (s : Sort). once t k s) h) refl
  all_once m k (e ∷ es) u g l h = and_from _ _ (go (cases_lt k b)) (all_once m (suc k) es u g.1 (omega arith) h)
    where
      go : (k < b) ⊎ (b ≤ k) → once t k (sort (node e)) ≡ true
      go (inl j) = ap (λ (s : Sort). once t k s) (g.0.early j)
      go (inr j) = once_used t k (sort (node e)) (u k j (omega arith))

-- a sound table whose last command is loose opens, with the program entry of that command
pub sound_opens : (b : ℕ) (es : List Entry) (r p : ℕ) → Sound b (cmd_part r ∷ []) es → p ≤ 16384 → entries_open (es ++ (entry (Program r) p ∷ [])) ≡ opened
sound_opens b es r p s l =
    let x = entry (Program r) p in
    let t = es ++ (x ∷ []) in
    let g : AllGood b t 0 es = good_more b es (x ∷ []) 0 es (omega arith) s.good in
    let st : Stand t (0 + length es) (cmd_part r ∷ []) = stand_more es (x ∷ []) (length es) (0 + length es) (cmd_part r ∷ []) (omega arith) (omega arith) s.loose in
    let u : (i : ℕ) → b ≤ i → i < length es → all_uses i t ≡ 1 = λ i h k. uses_push i es x ∙ s.used i ∙ within_in b (length es) i h k in
    let a : are_known t ≡ true = all_known b t x 0 es g (known_entry (Program r) p refl l) in
    let c : are_placed t 0 t ≡ true = all_placed b t x 0 es g st in
    let d : arranged t ≡ true = and_from _ _ (decls_first_lem b t x 0 es g refl) (and_from _ _ (program_last_lem b t x 0 es g refl) (all_once b t x (length es) 0 es u g (omega arith) refl)) in
    cond-true (are_known t) _ _ a ∙ cond-true (are_placed t 0 t) _ _ c ∙ cond-true (arranged t) _ _ d
