-- The questions of the order of entries, as tests of each entry.
use Rattle.std.proofs.Common.{◌≡◌, ℕ, suc, ◌+◌, ◌-◌, ◌<◌, ◌≤◌, Bool, true, false, cond, not, ◌&&◌, ◌||◌, eqb, ◌⊎◌, inl, inr, List, [], ◌∷◌, ◌++◌, length, get_or, take, drop, min, sym, refl, ap, ◌∙◌, arith}
use Rattle.std.specs.List.{list_all, list_any, prefix_len, zip}
use Rattle.std.proofs.lemmas.List.{take_more, take_all}
use Rattle.std.proofs.lemmas.Bool.{eq-eqb, ne_eqb, cases_eq}
use Rattle.tosca.specs.declared.table.Entry.{Entry}
use Rattle.tosca.specs.Table.{blank, node}
use Rattle.tosca.specs.Opens.{Sort, is_decl, is_expr, is_cmd, is_program, is_none, sort, same_sort, all_uses, once, are_once, no_decl, decls_first, program_last}
use Rattle.draft.specs.Uses.{used_once}

abbrev pub is : Sort → Entry → Bool
is s e = same_sort (sort (node e)) s

-- after the declarations there is none
pub decls_skipped : (t : List Entry) → decls_first t ≡ list_all (λ e. not (is is_decl e)) (drop (prefix_len (is is_decl) t) t)
decls_skipped [] = refl
decls_skipped (e ∷ t) = go (is is_decl e) refl (decls_skipped t)
  where
    go : (b : Bool) → is is_decl e ≡ b → decls_first t ≡ list_all (λ d. not (is is_decl d)) (drop (prefix_len (is is_decl) t) t) → cond b (decls_first t) (no_decl t) ≡ list_all (λ d. not (is is_decl d)) (drop (cond b (1 + prefix_len (is is_decl) t) 0) (e ∷ t))
    go true h r = let one : suc (prefix_len (is is_decl) t) ≡ 1 + prefix_len (is is_decl) t = omega arith in r ∙ ap (λ n. list_all (λ d. not (is is_decl d)) (drop n (e ∷ t))) one
    go false h r = sym (ap (λ b. not b && list_all (λ d. not (is is_decl d)) t) h)

-- the last entry is a program, and none of the others is
program_split : (others : List Entry) (last : Entry) → program_last (others ++ last ∷ []) ≡ (is is_program last && not (list_any (is is_program) others))
program_split others last = go others
  where
    step : (a b x y : Bool) → y ≡ (b && not x) → (not a && y) ≡ (b && not (a || x))
    step true true x y e = refl
    step true false x y e = refl
    step false b x y e = e

    all : (b : Bool) → b ≡ (b && true)
    all true = refl
    all false = refl

    go : (es : List Entry) → program_last (es ++ last ∷ []) ≡ (is is_program last && not (list_any (is is_program) es))
    go [] = all (is is_program last)
    go (e ∷ []) = step (is is_program e) (is is_program last) false _ (all (is is_program last))
    go (e ∷ d ∷ es) = step (is is_program e) (is is_program last) _ _ (go (d ∷ es))

pub program_ends : (t : List Entry) → 1 ≤ length t → program_last t ≡ (is is_program (get_or t (length t - 1) blank) && not (list_any (is is_program) (take (length t - 1) t)))
program_ends t h = ap program_last split ∙ program_split (take (length t - 1) t) (get_or t (length t - 1) blank)
  where
    split : t ≡ take (length t - 1) t ++ get_or t (length t - 1) blank ∷ []
    split = sym (take_all (length t - 1 + 1) t (omega arith)) ∙ take_more t (length t - 1) blank (omega arith)

-- by the counts of the uses, which stop at 255
one_of : (u n : ℕ) → u ≡ min n 255 → eqb u 1 ≡ eqb n 1
one_of u n h = go (cases_eq n 1)
  where
    go : (n ≡ 1) ⊎ (n ≡ 1 → ⊥) → eqb u 1 ≡ eqb n 1
    go (inl e) = eq-eqb u 1 (omega arith) ∙ sym (eq-eqb n 1 e)
    go (inr e) = ne_eqb u 1 (λ q. e (omega arith)) ∙ sym (ne_eqb n 1 e)

counted_once : (t : List Entry) (k u : ℕ) (s : Sort) → u ≡ min (all_uses k t) 255 → used_once u s ≡ once t k s
counted_once t k u is_expr h = one_of u (all_uses k t) h
counted_once t k u is_cmd h = one_of u (all_uses k t) h
counted_once t k u is_decl h = refl
counted_once t k u is_program h = refl
counted_once t k u is_none h = refl

abbrev pub once_entry : Entry × ℕ → Bool
once_entry p = used_once p.1 (sort (node p.0))

pub once_each : (t : List Entry) (j : ℕ) (es : List Entry) (us : List ℕ) → length es ≤ length us → ((k : ℕ) → k < length us → get_or us k 0 ≡ min (all_uses (j + k) t) 255) → are_once t j es ≡ list_all once_entry (zip es us)
once_each t j [] us le h = refl
once_each t j (e ∷ es) [] le h = absurd (omega arith)
once_each t j (e ∷ es) (u ∷ us) le h = λ i. here i && once_each t (suc j) es us (omega arith) (λ k lt. h (suc k) (omega arith) ∙ ap (λ n. min (all_uses n t) 255) (omega arith)) i
  where
    here : once t j (sort (node e)) ≡ once_entry (e, u)
    here = sym (counted_once t j u (sort (node e)) (h 0 (omega arith) ∙ ap (λ n. min (all_uses n t) 255) (omega arith)))
