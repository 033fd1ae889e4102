-- What the commands of a formed table set, and the lowest node at fault in them. Assumes nothing.
use Rattle.std.proofs.Common.{◌≡◌, ℕ, ◌^◌, ◌<◌, true, List, ◌++◌, length, get_or, Some, None, Option, sym, refl, ap, ◌∙◌, ap₂}
use lib.Bits.{bit_and, bit_or}
use Rattle.tosca.specs.declared.table.Entry.{Entry}
use Rattle.tosca.specs.declared.table.Node.{Node}
use Rattle.tosca.specs.declared.table.Node.TheVariants.{Assign, Seq, Choice, Loop, Input, Output}
use Rattle.tosca.specs.Table.{blank, node}
use Rattle.tosca.specs.Trees.{Cmd}
use Rattle.tosca.specs.Decode.{expr_at, cmd_of, cmd_at}
use Rattle.tosca.proofs.Decoding.{cmd_step}
use Rattle.draft.specs.Forming.{is_formed}
use Rattle.draft.proofs.Facts.{cmd_at_assign, cmd_at_seq, cmd_at_choice, cmd_at_loop, cmd_at_input, cmd_at_output}
use Rattle.statics.specs.Choosing.{lowest}
use Rattle.statics.specs.Setting.{Vars, no_vars, in_both, after, unset_in, unset}
use Rattle.walk.specs.Readings.{holds}
use Rattle.checks.specs.Lowering.{lower_of}
use Rattle.checks.specs.Settings.{Comes}
use Rattle.checks.proofs.Bits.{holds_nothing, holds_with, holds_both}
use Rattle.checks.proofs.Lower.{lowest_append}

comes_as : {c d : Cmd ℕ} {s : Vars} {m : ℕ} {f : Option ℕ} → d ≡ c → Comes c s m f → Comes d s m f
comes_as {c} {d} {s} {m} {f} e h = record { set = h.set ∙ ap (λ (k : Cmd ℕ). after k s) (sym e); fault = h.fault ∙ ap (λ (k : Cmd ℕ). lowest (unset s k)) (sym e) }

-- the node n of a formed table, where b is the set before it
module _ (t : List Entry) (formed : is_formed t ≡ true) (n : ℕ) (below : n < length t) (b : ℕ) where
  pub assign_comes : {x a : ℕ} {m : ℕ} {f : Option ℕ} → node (get_or t n blank) ≡ Some (Assign x a) → m ≡ bit_or b (2 ^ x) → f ≡ lowest (unset_in (holds b) (expr_at t a)) → Comes (cmd_at t n) (holds b) m f
  unfolding after unset
  assign_comes {x} {a} {m} {f} e h k = comes_as (cmd_at_assign t formed n below e) (record { set = ap holds h ∙ holds_with b x; fault = k })

  pub seq_comes : {a d : ℕ} {p q m : ℕ} {f g o : Option ℕ} → node (get_or t n blank) ≡ Some (Seq a d) → Comes (cmd_at t a) (holds b) p f → Comes (cmd_at t d) (holds p) q g → m ≡ q → o ≡ lower_of f g → Comes (cmd_at t n) (holds b) m o
  unfolding after unset
  seq_comes {a} {d} {p} {q} {m} {f} {g} {o} e u v h k =
      let s = holds b in
      comes_as (cmd_at_seq t formed n below e) (record {
        set = ap holds h ∙ v.set ∙ ap (after (cmd_at t d)) u.set;
        fault = k ∙ ap₂ lower_of u.fault (v.fault ∙ ap (λ (w : Vars). lowest (unset w (cmd_at t d))) u.set) ∙ sym (lowest_append (unset s (cmd_at t a)) (unset (after (cmd_at t a) s) (cmd_at t d)));
      })

  pub choice_comes : {a c d : ℕ} {p q m : ℕ} {f g h o : Option ℕ} → node (get_or t n blank) ≡ Some (Choice a c d) → f ≡ lowest (unset_in (holds b) (expr_at t a)) → Comes (cmd_at t c) (holds b) p g → Comes (cmd_at t d) (holds b) q h → m ≡ bit_and p q → o ≡ lower_of f (lower_of g h) → Comes (cmd_at t n) (holds b) m o
  unfolding after unset
  choice_comes {a} {c} {d} {p} {q} {m} {f} {g} {h} {o} e test u v i k =
      let s = holds b in
      let us = unset s (cmd_at t c) in
      let vs = unset s (cmd_at t d) in
      comes_as (cmd_at_choice t formed n below e) (record {
        set = ap holds i ∙ holds_both p q ∙ ap₂ in_both u.set v.set;
        fault = k ∙ ap₂ lower_of test (ap₂ lower_of u.fault v.fault ∙ sym (lowest_append us vs)) ∙ sym (lowest_append (unset_in s (expr_at t a)) (us ++ vs));
      })

  pub loop_comes : {a d : ℕ} {p m : ℕ} {f g o : Option ℕ} → node (get_or t n blank) ≡ Some (Loop a d) → f ≡ lowest (unset_in (holds b) (expr_at t a)) → Comes (cmd_at t d) (holds b) p g → m ≡ b → o ≡ lower_of f g → Comes (cmd_at t n) (holds b) m o
  unfolding after unset
  loop_comes {a} {d} {p} {m} {f} {g} {o} e test u h k =
      let s = holds b in
      comes_as (cmd_at_loop t formed n below e) (record {
        set = ap holds h;
        fault = k ∙ ap₂ lower_of test u.fault ∙ sym (lowest_append (unset_in s (expr_at t a)) (unset s (cmd_at t d)));
      })

  pub input_comes : {x m : ℕ} {f : Option ℕ} → node (get_or t n blank) ≡ Some (Input x) → m ≡ bit_or b (2 ^ x) → f ≡ None → Comes (cmd_at t n) (holds b) m f
  unfolding after unset
  input_comes {x} {m} {f} e h k = comes_as (cmd_at_input t formed n below e) (record { set = ap holds h ∙ holds_with b x; fault = k })

  pub output_comes : {a m : ℕ} {f : Option ℕ} → node (get_or t n blank) ≡ Some (Output a) → m ≡ b → f ≡ lowest (unset_in (holds b) (expr_at t a)) → Comes (cmd_at t n) (holds b) m f
  unfolding after unset
  output_comes {a} {m} {f} e h k = comes_as (cmd_at_output t formed n below e) (record { set = ap holds h; fault = k })

  nothing_comes : (m : Node) → ((x a : ℕ) → m ≡ Assign x a → ⊥) → ((a d : ℕ) → m ≡ Seq a d → ⊥) → ((a c d : ℕ) → m ≡ Choice a c d → ⊥) → ((a d : ℕ) → m ≡ Loop a d → ⊥) → ((x : ℕ) → m ≡ Input x → ⊥) → ((a : ℕ) → m ≡ Output a → ⊥) → Comes (cmd_of n (expr_at t) (cmd_at t) (Some m)) (holds b) b None
  unfolding after unset
  nothing_comes (Assign x a) v w q l i o = absurd (v x a refl)
  nothing_comes (Seq a c) v w q l i o = absurd (w a c refl)
  nothing_comes (Choice a c d) v w q l i o = absurd (q a c d refl)
  nothing_comes (Loop a c) v w q l i o = absurd (l a c refl)
  nothing_comes (Input x) v w q l i o = absurd (i x refl)
  nothing_comes (Output a) v w q l i o = absurd (o a refl)
  nothing_comes _ v w q l i o = record { set = refl; fault = refl }

  pub other_comes : (m : Node) → node (get_or t n blank) ≡ Some m → ((x a : ℕ) → m ≡ Assign x a → ⊥) → ((a d : ℕ) → m ≡ Seq a d → ⊥) → ((a c d : ℕ) → m ≡ Choice a c d → ⊥) → ((a d : ℕ) → m ≡ Loop a d → ⊥) → ((x : ℕ) → m ≡ Input x → ⊥) → ((a : ℕ) → m ≡ Output a → ⊥) → {k : ℕ} {f : Option ℕ} → k ≡ b → f ≡ None → Comes (cmd_at t n) (holds b) k f
  other_comes m e v w q l i o {k} {f} h none =
      let r = nothing_comes m v w q l i o in
      comes_as (cmd_step t n ∙ ap (cmd_of n (expr_at t) (cmd_at t)) e) (record { set = ap holds h ∙ r.set; fault = none ∙ r.fault })

-- the routine begins with no variable set
pub body_comes : {p c : Cmd ℕ} {b : ℕ} {f : Option ℕ} → p ≡ c → b ≡ 0 → f ≡ lowest (unset (holds b) c) → f ≡ lowest (unset no_vars p)
body_comes {p} {c} {b} {f} e z h = h ∙ ap₂ (λ (s : Vars) (d : Cmd ℕ). lowest (unset s d)) (ap holds z ∙ holds_nothing) (sym e)
