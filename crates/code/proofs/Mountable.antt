-- A table that passes the questions, and the code that is made of it.
use Rattle.std.proofs.Common.{◌≡◌, ℕ, ◌-◌, ◌≤◌, Bool, true, false, cond, leb, List, [], ◌∷◌, ◌++◌, map, length, take, drop, replicate, is_some, Some, None, Option, unwrap_or, sym, refl, ap, ◌∙◌}
use Rattle.std.proofs.lemmas.List.{take_at, drop_at, length-map, length-take-le}
use Rattle.std.proofs.lemmas.Bool.{and_parts, leb-true}
use Rattle.aida.specs.declared.instructions.Coded.{Coded}
use Rattle.aida.specs.TemplateLaws.{all_addressed}
use Rattle.code.specs.declared.table.CodeEntry.{CodeEntry}
use Rattle.code.specs.CodeTable.{coded_of}
use Rattle.code.specs.Questions.{blank_coded, said, said_by_all, counted, known, are_known, are_within, mounting, mounts, refused}

-- a table mounts if every question has a yes
never : (n : ℕ) → refused n ≡ mounts → ⊥
never n e = cc

passed : (c k w : Bool) → cond c (cond k (cond w mounts (refused 43)) (refused 42)) (refused 41) ≡ mounts → (c ≡ true) × (k ≡ true) × (w ≡ true)
passed false k w e = absurd (never 41 e)
passed true false w e = absurd (never 42 e)
passed true true false e = absurd (never 43 e)
passed true true true e = (refl, refl, refl)

pub record Mountable (t : List CodeEntry) (n : ℕ) : Type 0 where
  pub few : n ≤ 2048
  pub within : n ≤ length t
  pub known : are_known (take n t) ≡ true
  pub addressed : are_within n (take n t) ≡ true

pub mountable : (t : List CodeEntry) (n : ℕ) → mounting t n ≡ mounts → Mountable t n
mountable t n e =
    let q = passed (counted (length t) n) (are_known (take n t)) (are_within n (take n t)) e in
    let bounds = and_parts (leb n 2048) (leb n (length t)) q.0 in
    record { few = leb-true n 2048 bounds.0; within = leb-true n (length t) bounds.1; known = q.1; addressed = q.2 }

some_value : (o : Option Coded) → is_some o ≡ true → o ≡ Some (unwrap_or o blank_coded)
some_value (Some i) h = refl
some_value None h = absurd (cc)

-- known entries say instructions
all_said : (es : List CodeEntry) → are_known es ≡ true → map coded_of es ≡ map (λ (i : Coded). Some i) (said_by_all es)
all_said [] h = refl
all_said (e ∷ es) h =
    let q = and_parts (known e) (are_known es) h in
    ap (λ (o : Option Coded). o ∷ map coded_of es) (some_value (coded_of e) q.0) ∙ ap (λ (l : List (Option Coded)). Some (said e) ∷ l) (all_said es q.1)

-- the first n entries
module _ (t : List CodeEntry) (code : List Coded) (n : ℕ) (e : code ≡ said_by_all (take n t) ++ replicate (2048 - length (take n t)) blank_coded) (o : mounting t n ≡ mounts) where
  long : length (take n t) ≡ n
  long = length-take-le n t (mountable t n o).within

  long_said : length (said_by_all (take n t)) ≡ n
  long_said = length-map (take n t) said ∙ long

  whole : code ≡ said_by_all (take n t) ++ replicate (2048 - n) blank_coded
  whole = e ∙ ap (λ (k : ℕ). said_by_all (take n t) ++ replicate (2048 - k) blank_coded) long

  pub code_is : take n code ≡ said_by_all (take n t)
  code_is = ap (take n) whole ∙ take_at (said_by_all (take n t)) _ n long_said

  pub rest_is : drop n code ≡ replicate (2048 - n) blank_coded
  rest_is = ap (drop n) whole ∙ drop_at (said_by_all (take n t)) _ n long_said

  pub each_is : map coded_of (take n t) ≡ map (λ (i : Coded). Some i) (take n code)
  each_is = all_said (take n t) (mountable t n o).known ∙ ap (map (λ (i : Coded). Some i)) (sym code_is)

  pub code_addressed : all_addressed n (take n code) ≡ true
  code_addressed = ap (all_addressed n) code_is ∙ (mountable t n o).addressed
