-- Bounds that a draft keeps. Assumes nothing.
use Rattle.std.proofs.Common.{◌≡◌, ℕ, ◌-◌, ◌<◌, ◌≤◌, true, ◌⊎◌, List, length, get_or, replicate, Some, Option, sym, ap, ◌∙◌, inl, inr, arith, length-take}
use lib.ListN.{length-replicate}
use Rattle.tosca.specs.declared.table.Entry.{Entry}
use Rattle.tosca.specs.declared.table.Node.{Node}
use Rattle.tosca.specs.declared.table.Node.TheVariants.{Var, Assign, Choice, Loop, Input, Program}
use Rattle.tosca.specs.Table.{blank, node}
use Rattle.tosca.specs.Decode.{cmd_at, program_of}
use Rattle.tosca.specs.Opens.{sort, is_cmd}
use Rattle.draft.specs.declared.draft.Draft.{Draft}
use Rattle.draft.specs.Forming.{is_formed}
use Rattle.draft.specs.Opening.{entries_of}
use Rattle.draft.proofs.Facts.{var_fact, assign_fact, choice_fact, loop_fact, input_fact, program_fact, not_empty, end_program, program_at}

pub count_below : (d : Draft) → length (entries_of d) ≤ 1024
count_below d = omega (arith, length-take d.count d.nodes, d.few)

pub node_below : (d : Draft) (n : ℕ) → n < length (entries_of d) → n < 1024
node_below d n lt = omega (arith, count_below d, lt)

-- an array of 1,024 has room for every node
pub room : {A : Type 0} (d : Draft) (a : A) → length (entries_of d) ≤ length (replicate 1024 a)
room d a = omega (arith, count_below d, length-replicate 1024 a)

-- the node n of a formed table
module _ (t : List Entry) (formed : is_formed t ≡ true) (n : ℕ) (below : n < length t) (m : Node) (is : node (get_or t n blank) ≡ Some m) where
  said : {k : Node} → m ≡ k → node (get_or t n blank) ≡ Some k
  said e = is ∙ ap (λ (j : Node). Some j) e

  pub used_name : (x : ℕ) → (m ≡ Var x) ⊎ (((a : ℕ) × (m ≡ Assign x a)) ⊎ (m ≡ Input x)) → x < 64
  used_name x (inl e) = var_fact t formed n below (said e)
  used_name x (inr (inl e)) = (assign_fact t formed n below (said e.1)).0
  used_name x (inr (inr e)) = input_fact t formed n below (said e)

  pub tested_part : (a : ℕ) → ((b : ℕ) × (c : ℕ) × (m ≡ Choice a b c)) ⊎ ((b : ℕ) × (m ≡ Loop a b)) → a < n
  tested_part a (inl e) = (choice_fact t formed n below (said e.2)).0
  tested_part a (inr e) = (loop_fact t formed n below (said e.1)).0

-- the last of the n entries of a formed table is the program
module _ (t : List Entry) (formed : is_formed t ≡ true) (n : ℕ) (counts : n ≡ length t) where
  pub some_count : 1 ≤ n
  some_count = omega (arith, not_empty t formed)

  pub last_below : n - 1 < length t
  last_below = omega (arith, not_empty t formed)

  at_last : {m : Node} → node (get_or t (n - 1) blank) ≡ Some m → node (get_or t (length t - 1) blank) ≡ Some m
  at_last e = ap (λ (k : ℕ). node (get_or t (k - 1) blank)) (sym counts) ∙ e

  pub last_program : (m : Node) → node (get_or t (n - 1) blank) ≡ Some m → ((a : ℕ) → m ≡ Program a → ⊥) → ⊥
  last_program m e none =
      let p = end_program t formed in
      let is : m ≡ Program p.0 = same (at_last e) p.1 in
      none p.0 is
    where
      same : {o : Option Node} {j k : Node} → o ≡ Some j → o ≡ Some k → j ≡ k
      same {o} {j} {k} h i = cc

  pub body_below : {a : ℕ} → node (get_or t (n - 1) blank) ≡ Some (Program a) → a < length t
  body_below {a} e = omega (arith, (program_fact t formed (n - 1) last_below e).0, last_below)

  pub body_command : {a : ℕ} → node (get_or t (n - 1) blank) ≡ Some (Program a) → sort (node (get_or t a blank)) ≡ is_cmd
  body_command e = (program_fact t formed (n - 1) last_below e).1

  pub body_tree : {a : ℕ} → node (get_or t (n - 1) blank) ≡ Some (Program a) → (program_of t).body ≡ cmd_at t a
  body_tree e = program_at t formed (at_last e)
