-- A formed table has an entry for each node of its tree.
-- Each entry that is an expression or a command is a part once, so the sizes of all parts add up to at most the sizes of all
-- such entries; and the size of each is one more than those of its parts. What is left over is the size of the program's command.
use Rattle.std.proofs.Common.{◌≡◌, ℕ, zero, suc, ◌+◌, ◌-◌, ◌*◌, ◌<◌, ◌≤◌, Bool, true, cond, eqb, List, [], ◌∷◌, length, get_or, Some, None, Option, refl, ap, subst, inl, inr, add-mul, arith, eq-eqb}
use Rattle.std.proofs.lemmas.Bool.{cases_eq}
use Rattle.tosca.specs.declared.table.Entry.{Entry}
use Rattle.tosca.specs.declared.table.Node.{Node}
use Rattle.tosca.specs.declared.table.Node.TheVariants.{Decl, Const, Var, Uny, Bin, Skip, Assign, Seq, Choice, Loop, Input, Output, Program}
use Rattle.tosca.specs.Table.{blank, node}
use Rattle.tosca.specs.Trees as tree
use Rattle.tosca.specs.Decode.{expr_at, cmd_at, declared, decls_from, program_of}
use Rattle.tosca.specs.Opens.{Sort, is_decl, is_expr, is_cmd, is_program, is_none, sort, Part, parts, uses, all_uses}
use Rattle.draft.specs.Forming.{is_formed}
use Rattle.draft.proofs.Facts.{uny_fact, bin_fact, assign_fact, seq_fact, choice_fact, loop_fact, output_fact, program_fact, expr_once, cmd_once, expr_at_const, expr_at_var, expr_at_uny, expr_at_bin, cmd_at_skip, cmd_at_assign, cmd_at_seq, cmd_at_choice, cmd_at_loop, cmd_at_input, cmd_at_output, end_below, end_program, program_at}
use Rattle.aida.specs.TemplateLaws.{expr_nodes, cmd_nodes, program_nodes}
use Rattle.aida.proofs.Lengths.{lengths}
use Rattle.agreement.specs.Passed.{FewInstructions}

-- Sums over the entries of a list, numbered from i

sum : (ℕ → Entry → ℕ) → ℕ → List Entry → ℕ
sum f i [] = 0
sum f i (e ∷ es) = f i e + sum f (suc i) es

-- what holds at each entry, by its number
abbrev At : (ℕ → Entry → Type 0) → ℕ → List Entry → Type 0
At P i es = (k : ℕ) → k < length es → P (i + k) (get_or es k blank)

at_head : (P : ℕ → Entry → Type 0) (i : ℕ) (e : Entry) (es : List Entry) → At P i (e ∷ es) → P i e
at_head P i e es h = subst (λ (n : ℕ). P n e) (omega arith) (h 0 (omega arith))

at_tail : (P : ℕ → Entry → Type 0) (i : ℕ) (e : Entry) (es : List Entry) → At P i (e ∷ es) → At P (suc i) es
at_tail P i e es h = λ k lt. subst (λ (n : ℕ). P n (get_or es k blank)) (omega arith) (h (suc k) (omega arith))

sum_le : (f g : ℕ → Entry → ℕ) (i : ℕ) (es : List Entry) → At (λ k e. f k e ≤ g k e) i es → sum f i es ≤ sum g i es
unfolding sum
sum_le f g i [] h = omega arith
sum_le f g i (e ∷ es) h = omega (arith, at_head (λ k e. f k e ≤ g k e) i e es h, sum_le f g (suc i) es (at_tail (λ k e. f k e ≤ g k e) i e es h))

sum_add : (f g : ℕ → Entry → ℕ) (i : ℕ) (es : List Entry) → sum (λ k e. f k e + g k e) i es ≡ sum f i es + sum g i es
unfolding sum
sum_add f g i [] = refl
sum_add f g i (e ∷ es) = omega (arith, sum_add f g (suc i) es)

sum_has : (f : ℕ → Entry → ℕ) (i : ℕ) (es : List Entry) (k : ℕ) → k < length es → f (i + k) (get_or es k blank) ≤ sum f i es
unfolding sum
sum_has f i [] k lt = absurd (omega arith)
sum_has f i (e ∷ es) zero lt = let h = ap (λ (n : ℕ). f n e) {x = i + 0} {y = i} (omega arith) in omega arith
sum_has f i (e ∷ es) (suc k) lt =
    let h = ap (λ (n : ℕ). f n (get_or es k blank)) {x = i + suc k} {y = suc i + k} (omega arith) in
    omega (arith, sum_has f (suc i) es k (omega arith))

-- Parts, each with a size

part_sum : (ℕ → ℕ) → List Part → ℕ
part_sum F [] = 0
part_sum F (p ∷ ps) = F p.at + part_sum F ps

-- each part stands in a table of n entries
abbrev Within : ℕ → List Part → Type 0
Within n [] = Unit {0}
Within n (p ∷ ps) = (p.at < n) × Within n ps

module _ (F : ℕ → ℕ) where
  here_once : (p i : ℕ) (es : List Entry) → i ≤ p → p < i + length es → F p ≤ sum (λ k e. cond (eqb p k) 1 0 * F k) i es
  unfolding sum
  here_once p i [] lo hi = absurd (omega arith)
  here_once p i (e ∷ es) lo hi =
      elim (cases_eq p i) [
        | inl q ↦ (let c = ap (λ (b : Bool). cond b 1 0 * F i) (eq-eqb p i q) in let d = ap F q in omega arith)
        | inr q ↦ (let h : suc i ≤ p = omega arith in omega (arith, here_once p (suc i) es h (omega arith)))
      ]

  part_sum_lem : (ps : List Part) (t : List Entry) → Within (length t) ps → part_sum F ps ≤ sum (λ k e. uses k ps * F k) 0 t
  unfolding part_sum
  part_sum_lem [] t w = omega arith
  part_sum_lem (p ∷ ps) t w =
      let a = here_once p.at 0 t (omega arith) (omega (arith, w.0)) in
      let b = part_sum_lem ps t w.1 in
      let c = sum_add (λ k e. cond (eqb p.at k) 1 0 * F k) (λ k e. uses k ps * F k) 0 t in
      let d = sum_le (λ k e. cond (eqb p.at k) 1 0 * F k + uses k ps * F k) (λ k e. (cond (eqb p.at k) 1 0 + uses k ps) * F k) 0 t (λ k lt. omega (arith, add-mul (cond (eqb p.at (0 + k)) 1 0) (uses (0 + k) ps) (F (0 + k)))) in
      omega arith

  all_parts : List Entry → ℕ
  all_parts [] = 0
  all_parts (e ∷ es) = part_sum F (parts (node e)) + all_parts es

  all_parts_lem : (es t : List Entry) → ((k : ℕ) → k < length es → Within (length t) (parts (node (get_or es k blank)))) → all_parts es ≤ sum (λ k e. all_uses k es * F k) 0 t
  unfolding all_parts
  all_parts_lem [] t w = omega arith
  all_parts_lem (x ∷ es) t w =
      let a = part_sum_lem (parts (node x)) t (w 0 (omega arith)) in
      let b = all_parts_lem es t (λ k lt. w (suc k) (omega arith)) in
      let c = sum_add (λ k e. uses k (parts (node x)) * F k) (λ k e. all_uses k es * F k) 0 t in
      let d = sum_le (λ k e. uses k (parts (node x)) * F k + all_uses k es * F k) (λ k e. (uses k (parts (node x)) + all_uses k es) * F k) 0 t (λ k lt. omega (arith, add-mul (uses (0 + k) (parts (node x))) (all_uses (0 + k) es) (F (0 + k)))) in
      omega arith

all_parts_sum : (F : ℕ → ℕ) (i : ℕ) (es : List Entry) → all_parts F es ≡ sum (λ k e. part_sum F (parts (node e))) i es
unfolding sum all_parts
all_parts_sum F i [] = refl
all_parts_sum F i (e ∷ es) = ap (λ (n : ℕ). part_sum F (parts (node e)) + n) (all_parts_sum F (suc i) es)

from_zero : (P : ℕ → Entry → Type 0) (es : List Entry) → ((k : ℕ) → k < length es → P k (get_or es k blank)) → At P 0 es
from_zero P es h = λ k lt. subst (λ (n : ℕ). P n (get_or es k blank)) (omega arith) (h k lt)

-- Entries by their sort: expressions and commands, declarations, programs

abbrev one : Sort → ℕ
one is_expr = 1
one is_cmd = 1
one is_decl = 0
one is_program = 0
one is_none = 0

abbrev decl_one : Sort → ℕ
decl_one is_decl = 1
decl_one is_expr = 0
decl_one is_cmd = 0
decl_one is_program = 0
decl_one is_none = 0

abbrev program_one : Sort → ℕ
program_one is_program = 1
program_one is_decl = 0
program_one is_expr = 0
program_one is_cmd = 0
program_one is_none = 0

at_most_one : (s : Sort) → decl_one s + program_one s + one s ≤ 1
at_most_one is_decl = omega arith
at_most_one is_expr = omega arith
at_most_one is_cmd = omega arith
at_most_one is_program = omega arith
at_most_one is_none = omega arith

sum_ones : (i : ℕ) (es : List Entry) → sum (λ k e. 1) i es ≡ length es
unfolding sum
sum_ones i [] = refl
sum_ones i (e ∷ es) = omega (arith, sum_ones (suc i) es)

declared_length : (n : ℕ) (o : Option Node) (ds : List (tree.Decl ℕ)) → length (declared n o ds) ≡ decl_one (sort o) + length ds
declared_length n (Some (Decl x y)) ds = omega arith
declared_length n (Some (Const v)) ds = omega arith
declared_length n (Some (Var x)) ds = omega arith
declared_length n (Some (Uny o a)) ds = omega arith
declared_length n (Some (Bin a o b)) ds = omega arith
declared_length n (Some Skip) ds = omega arith
declared_length n (Some (Assign x a)) ds = omega arith
declared_length n (Some (Seq a b)) ds = omega arith
declared_length n (Some (Choice a b c)) ds = omega arith
declared_length n (Some (Loop a b)) ds = omega arith
declared_length n (Some (Input x)) ds = omega arith
declared_length n (Some (Output a)) ds = omega arith
declared_length n (Some (Program a)) ds = omega arith
declared_length n None ds = omega arith

decls_sum : (i : ℕ) (es : List Entry) → length (decls_from i es) ≡ sum (λ k e. decl_one (sort (node e))) i es
unfolding sum decls_from
decls_sum i [] = refl
decls_sum i (e ∷ es) = omega (arith, declared_length i (node e) (decls_from (suc i) es), decls_sum (suc i) es)

-- The sizes of the trees of a formed table

module _ (t : List Entry) (formed : is_formed t ≡ true) where
  abbrev size_as : Sort → ℕ → ℕ
  size_as is_expr k = expr_nodes (expr_at t k)
  size_as is_cmd k = cmd_nodes (cmd_at t k)
  size_as is_decl k = 0
  size_as is_program k = 0
  size_as is_none k = 0

  abbrev size : ℕ → ℕ
  size k = size_as (sort (node (get_or t k blank))) k

  -- the size of the program's command
  abbrev left : Option Node → ℕ
  left (Some (Program a)) = size a
  left (Some (Decl x y)) = 0
  left (Some (Const v)) = 0
  left (Some (Var x)) = 0
  left (Some (Uny o a)) = 0
  left (Some (Bin a o b)) = 0
  left (Some Skip) = 0
  left (Some (Assign x a)) = 0
  left (Some (Seq a b)) = 0
  left (Some (Choice a b c)) = 0
  left (Some (Loop a b)) = 0
  left (Some (Input x)) = 0
  left (Some (Output a)) = 0
  left None = 0

  size_expr : (k : ℕ) → sort (node (get_or t k blank)) ≡ is_expr → size k ≡ expr_nodes (expr_at t k)
  size_expr k e = ap (λ (s : Sort). size_as s k) e

  size_cmd : (k : ℕ) → sort (node (get_or t k blank)) ≡ is_cmd → size k ≡ cmd_nodes (cmd_at t k)
  size_cmd k e = ap (λ (s : Sort). size_as s k) e

  balance_by : (k : ℕ) → k < length t → (o : Option Node) → node (get_or t k blank) ≡ o → size_as (sort o) k + left o ≡ one (sort o) + part_sum size (parts o)
  unfolding expr_nodes cmd_nodes part_sum
  balance_by k lt (Some (Decl x y)) e = refl
  balance_by k lt (Some (Const v)) e = omega (arith, ap expr_nodes (expr_at_const t formed k lt e))
  balance_by k lt (Some (Var x)) e = omega (arith, ap expr_nodes (expr_at_var t formed k lt e))
  balance_by k lt (Some (Uny o a)) e = let f = uny_fact t formed k lt e in omega (arith, ap expr_nodes (expr_at_uny t formed k lt e), size_expr a f.1)
  balance_by k lt (Some (Bin a o b)) e =
      let f = bin_fact t formed k lt e in omega (arith, ap expr_nodes (expr_at_bin t formed k lt e), size_expr a f.1, size_expr b f.3)
  balance_by k lt (Some Skip) e = omega (arith, ap cmd_nodes (cmd_at_skip t formed k lt e))
  balance_by k lt (Some (Assign x a)) e = let f = assign_fact t formed k lt e in omega (arith, ap cmd_nodes (cmd_at_assign t formed k lt e), size_expr a f.2)
  balance_by k lt (Some (Seq a b)) e =
      let f = seq_fact t formed k lt e in omega (arith, ap cmd_nodes (cmd_at_seq t formed k lt e), size_cmd a f.1, size_cmd b f.3)
  balance_by k lt (Some (Choice a b c)) e =
      let f = choice_fact t formed k lt e in omega (arith, ap cmd_nodes (cmd_at_choice t formed k lt e), size_expr a f.1, size_cmd b f.3, size_cmd c f.5)
  balance_by k lt (Some (Loop a b)) e =
      let f = loop_fact t formed k lt e in omega (arith, ap cmd_nodes (cmd_at_loop t formed k lt e), size_expr a f.1, size_cmd b f.3)
  balance_by k lt (Some (Input x)) e = omega (arith, ap cmd_nodes (cmd_at_input t formed k lt e))
  balance_by k lt (Some (Output a)) e = let f = output_fact t formed k lt e in omega (arith, ap cmd_nodes (cmd_at_output t formed k lt e), size_expr a f.1)
  balance_by k lt (Some (Program a)) e = omega arith
  balance_by k lt None e = refl

  -- parts stand in the table
  within_by : (k : ℕ) → k < length t → (o : Option Node) → node (get_or t k blank) ≡ o → Within (length t) (parts o)
  within_by k lt (Some (Decl x y)) e = tt
  within_by k lt (Some (Const v)) e = tt
  within_by k lt (Some (Var x)) e = tt
  within_by k lt (Some (Uny o a)) e = let f = uny_fact t formed k lt e in (omega (arith, f.0), tt)
  within_by k lt (Some (Bin a o b)) e = let f = bin_fact t formed k lt e in (omega (arith, f.0), (omega (arith, f.2), tt))
  within_by k lt (Some Skip) e = tt
  within_by k lt (Some (Assign x a)) e = let f = assign_fact t formed k lt e in (omega (arith, f.1), tt)
  within_by k lt (Some (Seq a b)) e = let f = seq_fact t formed k lt e in (omega (arith, f.0), (omega (arith, f.2), tt))
  within_by k lt (Some (Choice a b c)) e = let f = choice_fact t formed k lt e in (omega (arith, f.0), (omega (arith, f.2), (omega (arith, f.4), tt)))
  within_by k lt (Some (Loop a b)) e = let f = loop_fact t formed k lt e in (omega (arith, f.0), (omega (arith, f.2), tt))
  within_by k lt (Some (Input x)) e = tt
  within_by k lt (Some (Output a)) e = let f = output_fact t formed k lt e in (omega (arith, f.0), tt)
  within_by k lt (Some (Program a)) e = let f = program_fact t formed k lt e in (omega (arith, f.0), tt)
  within_by k lt None e = tt

  -- an entry with a size is a part once
  once_by : (k : ℕ) → k < length t → (s : Sort) → sort (node (get_or t k blank)) ≡ s → all_uses k t * size_as s k ≤ size_as s k
  once_by k lt is_expr e = omega (arith, ap (λ (n : ℕ). n * expr_nodes (expr_at t k)) (expr_once t formed k lt e))
  once_by k lt is_cmd e = omega (arith, ap (λ (n : ℕ). n * cmd_nodes (cmd_at t k)) (cmd_once t formed k lt e))
  once_by k lt is_decl e = omega arith
  once_by k lt is_program e = omega arith
  once_by k lt is_none e = omega arith

  parts_at_most : all_parts size t ≤ sum (λ k e. size k) 0 t
  parts_at_most =
      let a = all_parts_lem size t t (λ k lt. within_by k lt (node (get_or t k blank)) refl) in
      let b = sum_le (λ k e. all_uses k t * size k) (λ k e. size k) 0 t
      (from_zero (λ k e. all_uses k t * size k ≤ size k) t (λ k lt. once_by k lt (sort (node (get_or t k blank))) refl)) in
      omega arith

  balanced : sum (λ k e. size k) 0 t + sum (λ k e. left (node e)) 0 t ≤ sum (λ k e. one (sort (node e))) 0 t + all_parts size t
  balanced =
      let a = sum_add (λ k e. size k) (λ k e. left (node e)) 0 t in
      let b = sum_add (λ k e. one (sort (node e))) (λ k e. part_sum size (parts (node e))) 0 t in
      let c = all_parts_sum size 0 t in
      let d = sum_le (λ k e. size k + left (node e)) (λ k e. one (sort (node e)) + part_sum size (parts (node e))) 0 t
      (from_zero (λ k e. size k + left (node e) ≤ one (sort (node e)) + part_sum size (parts (node e))) t
      (λ k lt. omega (arith, balance_by k lt (node (get_or t k blank)) refl))) in
      omega arith

  body_left : cmd_nodes (program_of t).body ≤ sum (λ k e. left (node e)) 0 t
  body_left =
      let n = length t - 1 in
      let p = end_program t formed in
      let lt = end_below t formed in
      let f = program_fact t formed n lt p.1 in
      let a = sum_has (λ k e. left (node e)) 0 t n lt in
      let b = ap left p.1 in
      let c = size_cmd p.0 f.1 in
      let d = ap cmd_nodes (program_at t formed p.1) in
      omega arith

  pub nodes_within : program_nodes (program_of t) ≤ length t
  unfolding program_of
  nodes_within =
      let n = length t - 1 in
      let p = end_program t formed in
      let a = sum_has (λ k e. program_one (sort (node e))) 0 t n (end_below t formed) in
      let b = ap (λ (o : Option Node). program_one (sort o)) p.1 in
      let c = decls_sum 0 t in
      let d = sum_add (λ k e. decl_one (sort (node e))) (λ k e. program_one (sort (node e))) 0 t in
      let g = sum_add (λ k e. decl_one (sort (node e)) + program_one (sort (node e))) (λ k e. one (sort (node e))) 0 t in
      let h = sum_le (λ k e. decl_one (sort (node e)) + program_one (sort (node e)) + one (sort (node e))) (λ k e. 1) 0 t (λ k lt. at_most_one (sort (node (get_or t k blank)))) in
      let i = sum_ones 0 t in
      omega (arith, parts_at_most, balanced, body_left)

pub few_instructions : FewInstructions
few_instructions t formed = omega (arith, lengths.few (program_of t), nodes_within t formed)
