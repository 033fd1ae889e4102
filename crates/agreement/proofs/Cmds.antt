-- The code of a command does what the source run does.
use Rattle.std.proofs.Common.{◌≡◌, ℕ, zero, suc, ◌+◌, ◌-◌, ◌<◌, ◌≤◌, Bool, true, false, cond, ltb, ◌⊎◌, List, [], ◌∷◌, length, get_or, drop, set, ℤ, pos, Some, None, Option, sym, refl, ap, ◌∙◌, subst, inl, inr, arith, length-set, le-ltb, eq-eqb, ne_eqb, le-leb}
use mathlib.Core.Option.{some}
use lib.ListN.{get_elem?}
use borrow.Author.Tests.{lt-leb}
use Rattle.std.proofs.lemmas.List.{get_or-set_same, get_or-set_other}
use Rattle.std.proofs.lemmas.Bool.{cases_eq}
use Rattle.tosca.specs.declared.operators.SimpleType.{SimpleType}
use Rattle.tosca.specs.declared.operators.SimpleType.TheVariants.{Integer, Boolean}
use Rattle.tosca.specs.declared.operators.Value.{Value}
use Rattle.tosca.specs.declared.operators.Value.TheVariants.{Number, Truth}
use Rattle.tosca.specs.Arithmetic.{bit}
use Rattle.tosca.specs.Trees.{Expr, Cmd, skip, assign, seq, choice, loop, input, output}
use Rattle.aida.specs.declared.instructions.Instruction.TheVariants.{Store, Output, Jump, Goto}
use Rattle.aida.specs.declared.instructions.Coded.{Coded}
use Rattle.aida.specs.declared.status.Status.TheVariants.{Ready, Spent}
use Rattle.tosca.specs.Types.{value_type, same_type, Types}
use Rattle.aida.specs.Values.{number, value_of}
use Rattle.aida.specs.Source.{Given, Effects, Variables, updated, Evaluated, eval, State, Outcome, goes_on, stops, stuck, and_then, with_value, set_variable, spend_turn, use_reading, add_send, assigned, received, sent_if, branch, turn_if, pass, iterate, exec}
use Rattle.aida.specs.Machine.{Machine, machine, receive, send_if, transfer, jump_if, perform, step, Reach, here}
use Rattle.aida.specs.Templates.{coded, expr_length, expr_code, cmd_length, cmd_code, input_by}
use Rattle.agreement.specs.Premises.{ExprFits, CmdFits}
use Rattle.agreement.specs.Simulation.{Sits, cell_of, Agrees, ExprRuns, yields, faults, unsaid, beside, CmdRuns, passes, halts, unsaid_cmd, CmdSimulation}
use Rattle.aida.proofs.Steps.{waiting_not, held_not, spent_not, faulted_not}
use Rattle.aida.proofs.Runs.{then, one, onward}
use Rattle.aida.proofs.Codes.{step_at, length_expr_code, length_cmd_code}
use Rattle.agreement.proofs.Sits.{sits_left, sits_right}
use Rattle.agreement.proofs.Exprs.{agrees_keeps, expr_runs}

updated_same : (s : Variables) (x : ℕ) (v : Value) → updated s x v x ≡ Some v
unfolding updated
updated_same s x v = rw (eq-eqb x x refl) refl

updated_other : (s : Variables) (x y : ℕ) (v : Value) → (x ≡ y → ⊥) → updated s x v y ≡ s y
unfolding updated
updated_other s x y v h = rw (ne_eqb x y h) refl

agrees_set : {s : Variables} {start cs : List ℤ} (x : ℕ) (v : Value) → x < 64 → Agrees start s cs → Agrees start (updated s x v) (set cs x (number v))
agrees_set {s} {start} {cs} x v lt h = record { long = length-set cs x (number v) ∙ h.long; holds = λ y ly. pick y ly (cases_eq x y) }
  where
    pick : (y : ℕ) → y < 64 → (x ≡ y) ⊎ (x ≡ y → ⊥) → get_or (set cs x (number v)) y (pos 0) ≡ cell_of (updated s x v y) (get_or start y (pos 0))
    pick y ly (inl e) =
        subst (λ k. get_or (set cs x (number v)) k (pos 0) ≡ cell_of (updated s x v k) (get_or start k (pos 0))) e
        (get_or-set_same cs x (number v) (pos 0) (omega (arith, h.long)) ∙ ap (λ o. cell_of o (get_or start x (pos 0))) (sym (updated_same s x v)))
    pick y ly (inr ne) =
        get_or-set_other cs x y (number v) (pos 0) (λ e. ne (sym e)) ∙ h.holds y ly ∙ ap (λ o. cell_of o (get_or start y (pos 0))) (sym (updated_other s x y v ne))

pub drop_next : (R : List ℤ) (u : ℕ) (z : ℤ) (rs : List ℤ) → drop u R ≡ z ∷ rs → drop (suc u) R ≡ rs
drop_next [] zero z rs e = cc
drop_next [] (suc u) z rs e = cc
drop_next (x ∷ R) zero z rs e = cc
drop_next (x ∷ R) (suc u) z rs e = drop_next R u z rs e

module _ (code : List Coded) (g : Given) (start : List ℤ) where
  abbrev at : ℕ → ℤ → List ℤ → Effects → Machine
  at p a cs d = beside g.readings p a cs d

  abbrev stepped : Machine → Machine
  stepped m = step code g.sends g.turns m

  -- steps in front
  before : {a b : Machine} {q : ℕ} {o : Outcome} → Reach code g.sends g.turns a b → CmdRuns code g start b q o → CmdRuns code g start a q o
  before w (passes z ds u h) = passes z ds (then code g.sends g.turns w u) h
  before w (halts p z ds n u s h) = halts p z ds n (then code g.sends g.turns w u) s h
  before w unsaid_cmd = unsaid_cmd

  -- a command after a command
  after : {a : Machine} {q₁ q : ℕ} {o : Outcome} (k : State → Outcome) → CmdRuns code g start a q₁ o
      → ((t : State) (z : ℤ) (ds : List ℤ) → Reach code g.sends g.turns a (at q₁ z ds t.effects) → Agrees start t.variables ds → CmdRuns code g start (at q₁ z ds t.effects) q (k t))
      → CmdRuns code g start a q (and_then o k)
  unfolding and_then
  after k (passes {s = t} z ds u h) f = before u (f t z ds u h)
  after k (halts p z ds n u s h) f = halts p z ds n u s h
  after k unsaid_cmd f = unsaid_cmd

  -- a command after an expression
  after_expr : {a : Machine} {q₁ q : ℕ} {r : Evaluated} {cs : List ℤ} {p₀ : ℕ} {z₀ : ℤ} (t : State) (k : Value → Outcome) → Agrees start t.variables cs
      → ExprRuns code g.sends g.turns (at p₀ z₀ cs t.effects) 64 cs a q₁ r
      → ((v : Value) (ds : List ℤ) → Agrees start t.variables ds → CmdRuns code g start (at q₁ (number v) ds t.effects) q (k v))
      → CmdRuns code g start a q (with_value t r k)
  unfolding with_value
  after_expr t k h (yields {v} ds u kp) f = before u (f v ds (agrees_keeps (omega arith) h kp))
  after_expr t k h (faults {k = c} {n = n} {p = p} {z = z} ds u s kp) f = halts p z ds (faulted_not c n) u s (agrees_keeps (omega arith) h kp)
  after_expr t k h unsaid f = unsaid_cmd

  -- one instruction, to the end of the command
  steps_to : (p q : ℕ) (z : ℤ) (ds : List ℤ) (t : State) {m : Machine} → p ≡ q → stepped m ≡ at p z ds t.effects → Agrees start t.variables ds → CmdRuns code g start m q (goes_on t)
  steps_to p q z ds t e s h = passes z ds (one code g.sends g.turns (s ∙ ap (λ (k : ℕ). at k z ds t.effects) e) refl) h

  if_same_type : (p q : ℕ) (ds : List ℤ) (t : State) (x : ℕ) (v : Value) (o : Option SimpleType) → suc p ≡ q → x < 64 → stepped (at p (number v) ds t.effects) ≡ at (suc p) (number v) (set ds x (number v)) t.effects → Agrees start t.variables ds
      → CmdRuns code g start (at p (number v) ds t.effects) q (assigned t x v o)
  unfolding assigned
  if_same_type p q ds t x v None e lt s h = unsaid_cmd
  if_same_type p q ds t x v (Some y) e lt s h =
      elim (same_type (value_type v) y) as (λ b. CmdRuns code g start (at p (number v) ds t.effects) q (cond b (goes_on (set_variable t x v)) stuck)) [
        | true ↦ steps_to (suc p) q (number v) (set ds x (number v)) (set_variable t x v) e s (agrees_set x v lt h)
        | false ↦ unsaid_cmd
      ]

  branches : (v : Value) (f k : State → Outcome) (t : State) (n p z q : ℕ) (ds : List ℤ) → get_elem? code p ≡ some (coded n (Jump z)) → p < z
      → CmdRuns code g start (at (suc p) (bit true) ds t.effects) q (f t) → CmdRuns code g start (at z (bit false) ds t.effects) q (k t)
      → CmdRuns code g start (at p (number v) ds t.effects) q (branch v f k t)
  unfolding branch perform jump_if transfer
  branches (Number y) f k t n p z q ds w lt on_t on_f = unsaid_cmd
  branches (Truth true) f k t n p z q ds w lt on_t on_f =
      before (one code g.sends g.turns (step_at code g.sends g.turns (at p (bit true) ds t.effects) (coded n (Jump z)) refl w) refl) on_t
  branches (Truth false) f k t n p z q ds w lt on_t on_f =
      let m = at p (bit false) ds t.effects in
      before (one code g.sends g.turns (step_at code g.sends g.turns m (coded n (Jump z)) refl w ∙ ap (λ (b : Bool). transfer b (ltb t.effects.turns g.turns) z m) (lt-leb z p lt)) refl) on_f

  -- a goto forward
  goes_forward : {a : Machine} {p q : ℕ} {o : Outcome} (n z : ℕ) → get_elem? code p ≡ some (coded n (Goto z)) → p < z → z ≡ q → CmdRuns code g start a p o → CmdRuns code g start a q o
  unfolding perform transfer
  goes_forward {p = p} {q} n z w lt e (passes {s = t} y ds u h) =
      let m = at p y ds t.effects in
      passes y ds (then code g.sends g.turns u (one code g.sends g.turns
      (step_at code g.sends g.turns m (coded n (Goto z)) refl w ∙ ap (λ (b : Bool). transfer b (ltb t.effects.turns g.turns) z m) (lt-leb z p lt) ∙ ap (λ (i : ℕ). at i y ds t.effects) e) refl)) h
  goes_forward n z w lt e (halts p y ds k u s h) = halts p y ds k u s h
  goes_forward n z w lt e unsaid_cmd = unsaid_cmd

  sends_if : (p q : ℕ) (ds : List ℤ) (t : State) (v : Value) (b : Bool) → suc p ≡ q → stepped (at p (number v) ds t.effects) ≡ send_if b (at p (number v) ds t.effects) → Agrees start t.variables ds
      → CmdRuns code g start (at p (number v) ds t.effects) q (sent_if b v t)
  unfolding sent_if send_if
  sends_if p q ds t v true e s h = steps_to (suc p) q (number v) ds (record { variables = t.variables; effects = add_send t.effects (number v) }) e s h
  sends_if p q ds t v false e s h = halts p (number v) ds held_not here s h

  performs_input : (m : Machine) (y : SimpleType) (n : ℕ) → perform g.sends g.turns m (input_by (Some y)) n ≡ receive (λ z. number (value_of y z)) m m.readings
  unfolding perform
  performs_input m Integer n = refl
  performs_input m Boolean n = refl

  receives : (p q : ℕ) (a : ℤ) (cs : List ℤ) (t : State) (n x : ℕ) (y : SimpleType) (rs : List ℤ) → drop t.effects.used g.readings ≡ rs → suc (suc p) ≡ q → x < 64
      → stepped (at p a cs t.effects) ≡ receive (λ z. number (value_of y z)) (at p a cs t.effects) rs → get_elem? code (suc p) ≡ some (coded n (Store x)) → Agrees start t.variables cs
      → CmdRuns code g start (at p a cs t.effects) q (received t x (Some y) rs)
  unfolding received receive perform
  receives p q a cs t n x y [] d e lt s w h = halts p a cs waiting_not here s h
  receives p q a cs t n x y (z ∷ rs) d e lt s w h =
      let v = value_of y z in
      let r : rs ≡ drop (suc t.effects.used) g.readings = sym (drop_next g.readings t.effects.used z rs d) in
      let s₁ = s ∙ ap (λ (l : List ℤ). machine (suc p) (number v) cs t.effects.turns Ready l t.effects.sent) r in
      before (one code g.sends g.turns s₁ refl)
      (steps_to (suc (suc p)) q (number v) (set cs x (number v)) (record { variables = updated t.variables x v; effects = use_reading t.effects }) e
      (step_at code g.sends g.turns (at (suc p) (number v) cs (use_reading t.effects)) (coded n (Store x)) refl w) (agrees_set x v lt h))

  inputs : (p q : ℕ) (a : ℤ) (cs : List ℤ) (t : State) (n x : ℕ) (o : Option SimpleType) → suc (suc p) ≡ q → x < 64
      → get_elem? code p ≡ some (coded n (input_by o)) → get_elem? code (suc p) ≡ some (coded n (Store x)) → Agrees start t.variables cs
      → CmdRuns code g start (at p a cs t.effects) q (received t x o (drop t.effects.used g.readings))
  unfolding received
  inputs p q a cs t n x None e lt w₁ w₂ h = unsaid_cmd
  inputs p q a cs t n x (Some y) e lt w₁ w₂ h =
      let m = at p a cs t.effects in
      receives p q a cs t n x y (drop t.effects.used g.readings) refl e lt (step_at code g.sends g.turns m (coded n (input_by (Some y))) refl w₁ ∙ performs_input m y n) w₂ h

  turns_if : (p z q : ℕ) (a : ℤ) (ds : List ℤ) (t : State) (b : Bool) (k : State → Outcome) → stepped (at p a ds t.effects) ≡ transfer true b z (at p a ds t.effects) → Agrees start t.variables ds
      → CmdRuns code g start (at z a ds (spend_turn t.effects)) q (k (record { variables = t.variables; effects = spend_turn t.effects }))
      → CmdRuns code g start (at p a ds t.effects) q (turn_if b k t)
  unfolding turn_if transfer
  turns_if p z q a ds t true k s h r = before (one code g.sends g.turns s refl) r
  turns_if p z q a ds t false k s h r = halts p a ds spent_not here s h

  runs_expr : (e : Expr ℕ) (p q : ℕ) (a : ℤ) (cs : List ℤ) (t : State) → Sits code p (expr_code 64 e) → q ≡ p + expr_length e → ExprFits e → Agrees start t.variables cs
      → ExprRuns code g.sends g.turns (at p a cs t.effects) 64 cs (at p a cs t.effects) q (eval t.variables e)
  runs_expr e p q a cs t w eq f h = expr_runs code g.sends g.turns (at p a cs t.effects) start t.variables e 64 p q a cs w eq f.0 (omega arith) (omega arith) h

  -- a loop: its test from p, its body from behind the jump at p₁ to the goto at z
  module _ (e : Expr ℕ) (f : State → Outcome) (n p p₁ z q : ℕ) (we : Sits code p (expr_code 64 e)) (e₁ : p₁ ≡ p + expr_length e) (wj : get_elem? code p₁ ≡ some (coded n (Jump q))) (wg : get_elem? code z ≡ some (coded n (Goto p))) (l₁ : p₁ < z) (l₂ : z < q) (fe : ExprFits e)
      (body : (a : ℤ) (cs : List ℤ) (t : State) → Agrees start t.variables cs → CmdRuns code g start (at (suc p₁) a cs t.effects) z (f t)) where
    passes_once : (next : State → Outcome) (a : ℤ) (cs : List ℤ) (t : State) → Agrees start t.variables cs
        → ((u : State) (b : ℤ) (ds : List ℤ) → t.effects.turns ≤ u.effects.turns → Agrees start u.variables ds → CmdRuns code g start (at z b ds u.effects) q (next u))
        → CmdRuns code g start (at p a cs t.effects) q (pass e f next t)
    unfolding pass
    passes_once next a cs t h k =
        after_expr t (λ v. branch v (λ u. and_then (f u) next) goes_on t) h (runs_expr e p p₁ a cs t we e₁ fe h)
        (λ v ds h₁. branches v (λ u. and_then (f u) next) goes_on t n p₁ q q ds wj (omega arith)
        (after next (body (bit true) ds t h₁) (λ u b es r₂ h₂. k u b es (onward code g.sends g.turns r₂).turns h₂))
        (passes (bit false) ds here h₁))

    goes_back : (a : ℤ) (ds : List ℤ) (t : State) → stepped (at z a ds t.effects) ≡ transfer true (ltb t.effects.turns g.turns) p (at z a ds t.effects)
    unfolding perform
    goes_back a ds t =
        step_at code g.sends g.turns (at z a ds t.effects) (coded n (Goto p)) refl wg ∙ ap (λ (b : Bool). transfer b (ltb t.effects.turns g.turns) p (at z a ds t.effects)) (le-leb p z (omega arith))

    iterates : (k : ℕ) (a : ℤ) (cs : List ℤ) (t : State) → g.turns ≤ k + t.effects.turns → Agrees start t.variables cs → CmdRuns code g start (at p a cs t.effects) q (iterate k g e f t)
    unfolding iterate transfer
    iterates zero a cs t le h =
        passes_once (stops Spent) a cs t h
        (λ u b ds lt h₁. halts z b ds spent_not here (goes_back b ds u ∙ ap (λ (c : Bool). transfer true c p (at z b ds u.effects)) (le-ltb u.effects.turns g.turns (omega arith))) h₁)
    iterates (suc k) a cs t le h =
        passes_once (λ u. turn_if (ltb u.effects.turns g.turns) (iterate k g e f) u) a cs t h
        (λ u b ds lt h₁. turns_if z p q b ds u (ltb u.effects.turns g.turns) (iterate k g e f) (goes_back b ds u) h₁
        (iterates k b ds (record { variables = u.variables; effects = spend_turn u.effects }) (omega arith) h₁))

  module _ (ty : Types) where
    pub cmd_runs : (c : Cmd ℕ) (p q : ℕ) (a : ℤ) (cs : List ℤ) (t : State) → Sits code p (cmd_code ty p c) → q ≡ p + cmd_length c → CmdFits c → Agrees start t.variables cs
        → CmdRuns code g start (at p a cs t.effects) q (exec ty g c t)
    unfolding cmd_code cmd_length exec perform
    cmd_runs (skip n) p q a cs t w eq f h =
        passes a cs (subst (λ k. Reach code g.sends g.turns (at p a cs t.effects) (at k a cs t.effects)) (omega arith) here) h
    cmd_runs (assign n x e) p q a cs t w eq f h =
        let p₁ = p + expr_length e in
        after_expr t (λ v. assigned t x v (ty x)) h (runs_expr e p p₁ a cs t (sits_left code (expr_code 64 e) (coded n (Store x) ∷ []) p w) refl f.1 h)
        (λ v ds h₁. if_same_type p₁ q ds t x v (ty x) (omega arith) f.0
        (step_at code g.sends g.turns (at p₁ (number v) ds t.effects) (coded n (Store x)) refl (sits_right code (expr_code 64 e) (coded n (Store x) ∷ []) p p₁ (omega (arith, length_expr_code 64 e)) w).0) h₁)
    cmd_runs (seq n u v) p q a cs t w eq f h =
        after (exec ty g v) (cmd_runs u p (p + cmd_length u) a cs t (sits_left code (cmd_code ty p u) _ p w) refl f.0 h)
        (λ t₁ a₁ ds r h₁. cmd_runs v (p + cmd_length u) q a₁ ds t₁ (sits_right code (cmd_code ty p u) _ p (p + cmd_length u) (omega (arith, length_cmd_code ty p u)) w) (omega arith) f.1 h₁)
    cmd_runs (choice n e u v) p q a cs t w eq f h =
        let p₁ = p + expr_length e in
        let p₂ = suc p₁ + cmd_length u in
        let w₁ = sits_right code (expr_code 64 e) _ p p₁ (omega (arith, length_expr_code 64 e)) w in
        let w₂ = sits_right code (cmd_code ty (suc p₁) u) _ (suc p₁) p₂ (omega (arith, length_cmd_code ty (suc p₁) u)) w₁.1 in
        after_expr t (λ y. branch y (exec ty g u) (exec ty g v) t) h (runs_expr e p p₁ a cs t (sits_left code (expr_code 64 e) _ p w) refl f.0 h)
        (λ y ds h₁. branches y (exec ty g u) (exec ty g v) t n p₁ (suc p₂) q ds w₁.0 (omega arith)
        (goes_forward n (suc p₂ + cmd_length v) w₂.0 (omega arith) (omega arith) (cmd_runs u (suc p₁) p₂ (bit true) ds t (sits_left code (cmd_code ty (suc p₁) u) _ (suc p₁) w₁.1) refl f.1 h₁))
        (cmd_runs v (suc p₂) q (bit false) ds t w₂.1 (omega arith) f.2 h₁))
    cmd_runs (loop n e u) p q a cs t w eq f h =
        let p₁ = p + expr_length e in
        let z = suc p₁ + cmd_length u in
        let q≡ : suc z ≡ q = omega arith in
        let w₁ = sits_right code (expr_code 64 e) _ p p₁ (omega (arith, length_expr_code 64 e)) w in
        let w₂ = sits_right code (cmd_code ty (suc p₁) u) _ (suc p₁) z (omega (arith, length_cmd_code ty (suc p₁) u)) w₁.1 in
        iterates e (exec ty g u) n p p₁ z q (sits_left code (expr_code 64 e) _ p w) refl (w₁.0 ∙ ap (λ (i : ℕ). some (coded n (Jump i))) q≡) w₂.0 (omega arith) (omega arith) f.0
        (λ b ds t₁ h₁. cmd_runs u (suc p₁) z b ds t₁ (sits_left code (cmd_code ty (suc p₁) u) _ (suc p₁) w₁.1) refl f.1 h₁)
        (g.turns - t.effects.turns) a cs t (omega arith) h
    cmd_runs (input n x) p q a cs t w eq f h = inputs p q a cs t n x (ty x) (omega arith) f w.0 w.1.0 h
    cmd_runs (output n e) p q a cs t w eq f h =
        let p₁ = p + expr_length e in
        after_expr t (λ v. sent_if (ltb (length t.effects.sent) g.sends) v t) h (runs_expr e p p₁ a cs t (sits_left code (expr_code 64 e) (coded n Output ∷ []) p w) refl f h)
        (λ v ds h₁. sends_if p₁ q ds t v (ltb (length t.effects.sent) g.sends) (omega arith)
        (step_at code g.sends g.turns (at p₁ (number v) ds t.effects) (coded n Output) refl (sits_right code (expr_code 64 e) (coded n Output ∷ []) p p₁ (omega (arith, length_expr_code 64 e)) w).0) h₁)

pub cmd_simulation : CmdSimulation
cmd_simulation code g start ty b p a cells s w f h = cmd_runs code g start ty b p (p + cmd_length b) a cells s w refl f h
