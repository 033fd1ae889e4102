-- What the entries of a formed table say, one by one, and the trees at them. Assumes nothing.
use Rattle.std.proofs.Common.{◌≡◌, ℕ, zero, suc, ◌+◌, ◌-◌, ◌<◌, Bool, true, false, cond, eqb, ltb, ◌⊎◌, List, [], ◌∷◌, length, get_or, Some, None, Option, sym, refl, ap, ◌∙◌, subst, inl, inr, add-zero, add-suc, suc-add, zero-add, arith}
use Rattle.std.proofs.lemmas.Bool.{and_parts, ltb-true, ltb-false, eqb-true, eqb-false, not-true, false≢true, cases_Bool}
use Rattle.tosca.specs.declared.operators.SimpleType.{SimpleType}
use Rattle.tosca.specs.declared.operators.Value.{Value}
use Rattle.tosca.specs.declared.operators.Unary.{Unary}
use Rattle.tosca.specs.declared.operators.Binary.{Binary}
use Rattle.tosca.specs.declared.table.Entry.{Entry}
use Rattle.tosca.specs.declared.table.Node.{Node}
use Rattle.tosca.specs.declared.table.Node.TheVariants.{Decl, Const, Var, Uny, Bin, Skip, Assign, Seq, Choice, Loop, Input, Output, Program}
use Rattle.tosca.specs.Table.{blank, node}
use Rattle.tosca.specs.Trees.{const, var, uny, bin, skip, assign, seq, choice, loop, input, output}
use Rattle.tosca.specs.Decode.{expr_at, cmd_at, body_of, program_of}
use Rattle.tosca.specs.Opens.{Sort, is_decl, is_expr, is_cmd, is_program, is_none, sort, sort_code, same_sort, Part, parts, few_names, known_node, known, are_known, placed, are_placed, uses, all_uses, once, are_once, decls_first, program_last, arranged}
use Rattle.tosca.proofs.Decoding.{expr_const, expr_var, expr_uny, expr_bin, cmd_skip, cmd_assign, cmd_seq, cmd_choice, cmd_loop, cmd_input, cmd_output}
use Rattle.draft.specs.Forming.{is_formed}

-- sorts are told apart by their codes
abbrev sort_of : ℕ → Sort
sort_of zero = is_none
sort_of (suc zero) = is_decl
sort_of (suc (suc zero)) = is_expr
sort_of (suc (suc (suc zero))) = is_cmd
sort_of (suc (suc (suc (suc n)))) = is_program

sort_back : (s : Sort) → sort_of (sort_code s) ≡ s
sort_back is_decl = refl
sort_back is_expr = refl
sort_back is_cmd = refl
sort_back is_program = refl
sort_back is_none = refl

pub same_sort_lem : (a b : Sort) → same_sort a b ≡ true → a ≡ b
same_sort_lem a b h = sym (sort_back a) ∙ ap sort_of (eqb-true (sort_code a) (sort_code b) h) ∙ sort_back b

pub sorts_apart : (a b : Sort) → same_sort a b ≡ false → a ≡ b → ⊥
sorts_apart a b h e = eqb-false (sort_code a) (sort_code b) h (ap sort_code e)

-- the parts stand before k, each with its sort
abbrev pub Stand : List Entry → ℕ → List Part → Type 0
Stand t k [] = Unit {0}
Stand t k (p ∷ ps) = (p.at < k) × (sort (node (get_or t p.at blank)) ≡ p.wants) × Stand t k ps

stands : (t : List Entry) (k : ℕ) (ps : List Part) → placed t k ps ≡ true → Stand t k ps
stands t k [] h = tt
stands t k (p ∷ ps) h =
    let both = and_parts _ _ h in
    let one = and_parts _ _ both.0 in
    (ltb-true p.at k one.0, same_sort_lem (sort (node (get_or t p.at blank))) p.wants one.1, stands t k ps both.1)

-- the entry k of entries that begin at number j
known_at : (t : List Entry) → are_known t ≡ true → (n : ℕ) → n < length t → known (get_or t n blank) ≡ true
known_at [] h n l = absurd (omega arith)
known_at (e ∷ t) h zero l = (and_parts _ _ h).0
known_at (e ∷ t) h (suc n) l = known_at t (and_parts _ _ h).1 n (omega arith)

placed_at : (t : List Entry) (j : ℕ) (es : List Entry) → are_placed t j es ≡ true → (n : ℕ) → n < length es → placed t (j + n) (parts (node (get_or es n blank))) ≡ true
placed_at t j [] h n l = absurd (omega arith)
placed_at t j (e ∷ es) h zero l = ap (λ (k : ℕ). placed t k (parts (node e))) (add-zero j) ∙ (and_parts _ _ h).0
placed_at t j (e ∷ es) h (suc n) l =
    ap (λ (k : ℕ). placed t k (parts (node (get_or es n blank)))) (add-suc j n ∙ sym (suc-add j n)) ∙ placed_at t (suc j) es (and_parts _ _ h).1 n (omega arith)

once_at : (t : List Entry) (j : ℕ) (es : List Entry) → are_once t j es ≡ true → (n : ℕ) → n < length es → once t (j + n) (sort (node (get_or es n blank))) ≡ true
once_at t j [] h n l = absurd (omega arith)
once_at t j (e ∷ es) h zero l = ap (λ (k : ℕ). once t k (sort (node e))) (add-zero j) ∙ (and_parts _ _ h).0
once_at t j (e ∷ es) h (suc n) l =
    ap (λ (k : ℕ). once t k (sort (node (get_or es n blank)))) (add-suc j n ∙ sym (suc-add j n)) ∙ once_at t (suc j) es (and_parts _ _ h).1 n (omega arith)

program_at_end : (t : List Entry) → program_last t ≡ true → (n : ℕ) → suc n ≡ length t → sort (node (get_or t n blank)) ≡ is_program
program_at_end [] h n e = absurd (omega arith)
program_at_end (d ∷ []) h zero e = same_sort_lem (sort (node d)) is_program h
program_at_end (d ∷ []) h (suc n) e = absurd (omega arith)
program_at_end (d ∷ c ∷ t) h zero e = absurd (omega arith)
program_at_end (d ∷ c ∷ t) h (suc n) e = program_at_end (c ∷ t) (and_parts _ _ h).1 n (omega arith)

program_only_end : (t : List Entry) → program_last t ≡ true → (n : ℕ) → suc n < length t → sort (node (get_or t n blank)) ≡ is_program → ⊥
program_only_end [] h n l e = omega arith
program_only_end (d ∷ []) h n l e = omega arith
program_only_end (d ∷ c ∷ t) h zero l e = sorts_apart (sort (node d)) is_program (not-true _ (and_parts _ _ h).0) e
program_only_end (d ∷ c ∷ t) h (suc n) l e = program_only_end (c ∷ t) (and_parts _ _ h).1 n (omega arith) e

some_entry : (t : List Entry) → program_last t ≡ true → 0 < length t
some_entry [] h = absurd (false≢true h)
some_entry (e ∷ t) h = omega arith

-- i is one of the parts
abbrev pub Occurs : ℕ → List Part → Type 0
Occurs i [] = ⊥
Occurs i (p ∷ ps) = (p.at ≡ i) ⊎ Occurs i ps

occurs : (i : ℕ) (ps : List Part) → 0 < uses i ps → Occurs i ps
occurs i [] h = omega arith
occurs i (p ∷ ps) h = by (eqb p.at i) refl h (occurs i ps)
  where
    by : (b : Bool) → eqb p.at i ≡ b → 0 < cond b 1 0 + uses i ps → (0 < uses i ps → Occurs i ps) → Occurs i (p ∷ ps)
    by true e h r = inl (eqb-true p.at i e)
    by false e h r = inr (r (omega arith))

occurs_at : (i : ℕ) (t : List Entry) → 0 < all_uses i t → (k : ℕ) × (k < length t) × Occurs i (parts (node (get_or t k blank)))
occurs_at i [] h = absurd (omega arith)
occurs_at i (e ∷ t) h = by (uses i (parts (node e))) refl h (occurs_at i t)
  where
    by : (u : ℕ) → uses i (parts (node e)) ≡ u → 0 < u + all_uses i t → (0 < all_uses i t → (k : ℕ) × (k < length t) × Occurs i (parts (node (get_or t k blank)))) → (k : ℕ) × (k < length (e ∷ t)) × Occurs i (parts (node (get_or (e ∷ t) k blank)))
    by zero q h r =
        let x = r (omega arith) in
        (suc x.0, omega (arith, x.1), x.2)
    by (suc u) q h r = (0, omega arith, occurs i (parts (node e)) (omega arith))

-- the kinds of each sort
pub program_node : (o : Option Node) → sort o ≡ is_program → (a : ℕ) × (o ≡ Some (Program a))
program_node (Some (Decl x y)) e = cc
program_node (Some (Const v)) e = cc
program_node (Some (Var x)) e = cc
program_node (Some (Uny o a)) e = cc
program_node (Some (Bin a o b)) e = cc
program_node (Some Skip) e = cc
program_node (Some (Assign x a)) e = cc
program_node (Some (Seq a b)) e = cc
program_node (Some (Choice a b c)) e = cc
program_node (Some (Loop a b)) e = cc
program_node (Some (Input x)) e = cc
program_node (Some (Output a)) e = cc
program_node (Some (Program a)) e = (a, refl)
program_node None e = cc

known_node_lem : (o : Option Node) → known_node o ≡ true → (m : Node) × (o ≡ Some m)
known_node_lem (Some m) h = (m, refl)
known_node_lem None h = absurd (false≢true h)

-- the questions one by one
module _ (t : List Entry) (formed : is_formed t ≡ true) where
  all_known : are_known t ≡ true
  unfolding is_formed
  all_known = (and_parts _ _ formed).0

  all_placed : are_placed t 0 t ≡ true
  unfolding is_formed
  all_placed = (and_parts _ _ (and_parts (are_known t) _ formed).1).0

  is_arranged : arranged t ≡ true
  unfolding is_formed
  is_arranged = (and_parts (are_placed t 0 t) _ (and_parts (are_known t) _ formed).1).1

  program_last_lem : program_last t ≡ true
  program_last_lem = (and_parts (program_last t) _ (and_parts (decls_first t) _ is_arranged).1).0

  all_once : are_once t 0 t ≡ true
  all_once = (and_parts (program_last t) _ (and_parts (decls_first t) _ is_arranged).1).1

-- the entry n of a formed table
module _ (t : List Entry) (formed : is_formed t ≡ true) (n : ℕ) (lt : n < length t) where
  knows : known (get_or t n blank) ≡ true
  knows = known_at t (all_known t formed) n lt

  pub some_node : (m : Node) × (node (get_or t n blank) ≡ Some m)
  some_node = known_node_lem (node (get_or t n blank)) (and_parts _ _ knows).0

  few_names_lem : (m : Node) → node (get_or t n blank) ≡ Some m → few_names m ≡ true
  few_names_lem m e = sym (ap known_node e) ∙ (and_parts _ _ knows).0

  pub stand_fact : Stand t n (parts (node (get_or t n blank)))
  stand_fact = stands t n (parts (node (get_or t n blank))) (sym (ap (λ (k : ℕ). placed t k (parts (node (get_or t n blank)))) (zero-add n)) ∙ placed_at t 0 t (all_placed t formed) n lt)

  parts_fact : (m : Node) → node (get_or t n blank) ≡ Some m → Stand t n (parts (Some m))
  parts_fact m e = subst (λ o. Stand t n (parts o)) e stand_fact

  pub decl_fact : {x : ℕ} {y : SimpleType} → node (get_or t n blank) ≡ Some (Decl x y) → x < 64
  decl_fact {x} {y} e = ltb-true x 64 (few_names_lem (Decl x y) e)

  pub var_fact : {x : ℕ} → node (get_or t n blank) ≡ Some (Var x) → x < 64
  var_fact {x} e = ltb-true x 64 (few_names_lem (Var x) e)

  pub uny_fact : {o : Unary} {a : ℕ} → node (get_or t n blank) ≡ Some (Uny o a) → (a < n) × (sort (node (get_or t a blank)) ≡ is_expr)
  uny_fact {o} {a} e =
      let s = parts_fact (Uny o a) e in
      (s.0, s.1)

  pub bin_fact : {a : ℕ} {o : Binary} {b : ℕ} → node (get_or t n blank) ≡ Some (Bin a o b) → (a < n) × (sort (node (get_or t a blank)) ≡ is_expr) × (b < n) × (sort (node (get_or t b blank)) ≡ is_expr)
  bin_fact {a} {o} {b} e =
      let s = parts_fact (Bin a o b) e in
      (s.0, s.1, s.2.0, s.2.1)

  pub assign_fact : {x a : ℕ} → node (get_or t n blank) ≡ Some (Assign x a) → (x < 64) × (a < n) × (sort (node (get_or t a blank)) ≡ is_expr)
  assign_fact {x} {a} e =
      let s = parts_fact (Assign x a) e in
      (ltb-true x 64 (few_names_lem (Assign x a) e), s.0, s.1)

  pub seq_fact : {a b : ℕ} → node (get_or t n blank) ≡ Some (Seq a b) → (a < n) × (sort (node (get_or t a blank)) ≡ is_cmd) × (b < n) × (sort (node (get_or t b blank)) ≡ is_cmd)
  seq_fact {a} {b} e =
      let s = parts_fact (Seq a b) e in
      (s.0, s.1, s.2.0, s.2.1)

  pub choice_fact : {a b c : ℕ} → node (get_or t n blank) ≡ Some (Choice a b c) → (a < n) × (sort (node (get_or t a blank)) ≡ is_expr) × (b < n) × (sort (node (get_or t b blank)) ≡ is_cmd) × (c < n) × (sort (node (get_or t c blank)) ≡ is_cmd)
  choice_fact {a} {b} {c} e =
      let s = parts_fact (Choice a b c) e in
      (s.0, s.1, s.2.0, s.2.1, s.2.2.0, s.2.2.1)

  pub loop_fact : {a b : ℕ} → node (get_or t n blank) ≡ Some (Loop a b) → (a < n) × (sort (node (get_or t a blank)) ≡ is_expr) × (b < n) × (sort (node (get_or t b blank)) ≡ is_cmd)
  loop_fact {a} {b} e =
      let s = parts_fact (Loop a b) e in
      (s.0, s.1, s.2.0, s.2.1)

  pub input_fact : {x : ℕ} → node (get_or t n blank) ≡ Some (Input x) → x < 64
  input_fact {x} e = ltb-true x 64 (few_names_lem (Input x) e)

  pub output_fact : {a : ℕ} → node (get_or t n blank) ≡ Some (Output a) → (a < n) × (sort (node (get_or t a blank)) ≡ is_expr)
  output_fact {a} e =
      let s = parts_fact (Output a) e in
      (s.0, s.1)

  -- the program is the last entry
  pub program_fact : {a : ℕ} → node (get_or t n blank) ≡ Some (Program a) → (a < n) × (sort (node (get_or t a blank)) ≡ is_cmd) × (suc n ≡ length t)
  program_fact {a} e =
      let s = parts_fact (Program a) e in
      (s.0, s.1, by (cases_Bool (ltb (suc n) (length t))))
    where
      by : (ltb (suc n) (length t) ≡ true) ⊎ (ltb (suc n) (length t) ≡ false) → suc n ≡ length t
      by (inl h) = absurd (program_only_end t (program_last_lem t formed) n (ltb-true _ _ h) (ap sort e))
      by (inr h) = omega (arith, ltb-false (suc n) (length t) h)

  -- an expression or a command is a part just once
  pub once_fact : once t n (sort (node (get_or t n blank))) ≡ true
  once_fact = sym (ap (λ (k : ℕ). once t k (sort (node (get_or t n blank)))) (zero-add n)) ∙ once_at t 0 t (all_once t formed) n lt

  pub expr_once : sort (node (get_or t n blank)) ≡ is_expr → all_uses n t ≡ 1
  expr_once e = eqb-true (all_uses n t) 1 (sym (ap (once t n) e) ∙ once_fact)

  pub cmd_once : sort (node (get_or t n blank)) ≡ is_cmd → all_uses n t ≡ 1
  cmd_once e = eqb-true (all_uses n t) 1 (sym (ap (once t n) e) ∙ once_fact)

  -- the entry that has it as a part
  pub expr_part : sort (node (get_or t n blank)) ≡ is_expr → (k : ℕ) × (k < length t) × Occurs n (parts (node (get_or t k blank)))
  expr_part e = occurs_at n t (omega (arith, expr_once e))

  pub cmd_part : sort (node (get_or t n blank)) ≡ is_cmd → (k : ℕ) × (k < length t) × Occurs n (parts (node (get_or t k blank)))
  cmd_part e = occurs_at n t (omega (arith, cmd_once e))

  -- the tree at the entry, by its kind
  pub expr_at_const : {v : Value} → node (get_or t n blank) ≡ Some (Const v) → expr_at t n ≡ const n v
  expr_at_const {v} e = expr_const t n v e

  pub expr_at_var : {x : ℕ} → node (get_or t n blank) ≡ Some (Var x) → expr_at t n ≡ var n x
  expr_at_var {x} e = expr_var t n x e

  pub expr_at_uny : {o : Unary} {a : ℕ} → node (get_or t n blank) ≡ Some (Uny o a) → expr_at t n ≡ uny n o (expr_at t a)
  expr_at_uny {o} {a} e = expr_uny t n o a e (uny_fact e).0

  pub expr_at_bin : {a : ℕ} {o : Binary} {b : ℕ} → node (get_or t n blank) ≡ Some (Bin a o b) → expr_at t n ≡ bin n (expr_at t a) o (expr_at t b)
  expr_at_bin {a} {o} {b} e = expr_bin t n a o b e (bin_fact e).0 (bin_fact e).2

  pub cmd_at_skip : node (get_or t n blank) ≡ Some Skip → cmd_at t n ≡ skip n
  cmd_at_skip e = cmd_skip t n e

  pub cmd_at_assign : {x a : ℕ} → node (get_or t n blank) ≡ Some (Assign x a) → cmd_at t n ≡ assign n x (expr_at t a)
  cmd_at_assign {x} {a} e = cmd_assign t n x a e (assign_fact e).1

  pub cmd_at_seq : {a b : ℕ} → node (get_or t n blank) ≡ Some (Seq a b) → cmd_at t n ≡ seq n (cmd_at t a) (cmd_at t b)
  cmd_at_seq {a} {b} e = cmd_seq t n a b e (seq_fact e).0 (seq_fact e).2

  pub cmd_at_choice : {a b c : ℕ} → node (get_or t n blank) ≡ Some (Choice a b c) → cmd_at t n ≡ choice n (expr_at t a) (cmd_at t b) (cmd_at t c)
  cmd_at_choice {a} {b} {c} e = cmd_choice t n a b c e (choice_fact e).0 (choice_fact e).2 (choice_fact e).4

  pub cmd_at_loop : {a b : ℕ} → node (get_or t n blank) ≡ Some (Loop a b) → cmd_at t n ≡ loop n (expr_at t a) (cmd_at t b)
  cmd_at_loop {a} {b} e = cmd_loop t n a b e (loop_fact e).0 (loop_fact e).2

  pub cmd_at_input : {x : ℕ} → node (get_or t n blank) ≡ Some (Input x) → cmd_at t n ≡ input n x
  cmd_at_input {x} e = cmd_input t n x e

  pub cmd_at_output : {a : ℕ} → node (get_or t n blank) ≡ Some (Output a) → cmd_at t n ≡ output n (expr_at t a)
  cmd_at_output {a} e = cmd_output t n a e (output_fact e).0

-- the last entry of a formed table
module _ (t : List Entry) (formed : is_formed t ≡ true) where
  pub not_empty : 0 < length t
  not_empty = some_entry t (program_last_lem t formed)

  pub end_below : length t - 1 < length t
  end_below = omega (arith, not_empty)

  pub end_program : (a : ℕ) × (node (get_or t (length t - 1) blank) ≡ Some (Program a))
  end_program = program_node (node (get_or t (length t - 1) blank)) (program_at_end t (program_last_lem t formed) (length t - 1) (omega (arith, not_empty)))

  pub program_at : {a : ℕ} → node (get_or t (length t - 1) blank) ≡ Some (Program a) → (program_of t).body ≡ cmd_at t a
  unfolding program_of
  program_at {a} e = ap (body_of t (length t - 1)) e
