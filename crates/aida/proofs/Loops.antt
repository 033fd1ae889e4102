-- What a source run does stays within what it is given; the fuel of a loop does not matter, as long as it covers the turns left.
use Rattle.std.proofs.Common.{◌≡◌, ℕ, zero, suc, ◌+◌, ◌-◌, ◌≤◌, Bool, true, false, cond, ltb, List, [], ◌∷◌, length, drop, ℤ, Some, None, Option, sym, refl, ap, ◌∙◌, subst, arith, length-append, length-drop, ltb-true, le-ltb}
use Rattle.tosca.specs.declared.operators.SimpleType.{SimpleType}
use Rattle.tosca.specs.declared.operators.Value.{Value}
use Rattle.tosca.specs.declared.operators.Value.TheVariants.{Number, Truth}
use Rattle.tosca.specs.Trees.{Expr, Cmd, skip, assign, seq, choice, loop, input, output}
use Rattle.aida.specs.declared.status.Status.{Status}
use Rattle.aida.specs.declared.status.Status.TheVariants.{Spent, Finished}
use Rattle.tosca.specs.Types.{Types, type_in, value_type, same_type}
use Rattle.aida.specs.Values.{number}
use Rattle.aida.specs.Source.{Given, Evaluated, value, fault, no_value, eval, State, Outcome, goes_on, stops, stuck, and_then, with_value, set_variable, spend_turn, assigned, received, sent_if, branch, turn_if, pass, iterate, exec, Ended, ended, initial}
use Rattle.aida.specs.SourceLaws.{Loops, Within, Bounded}

-- from s to t: turns are never given back, and no more is used, spent or sent than is given
record Onward (g : Given) (s t : State) : Type 0 where
  turns : s.effects.turns ≤ t.effects.turns
  used : s.effects.used ≤ length g.readings → t.effects.used ≤ length g.readings
  spent : s.effects.turns ≤ g.turns → t.effects.turns ≤ g.turns
  sent : length s.effects.sent ≤ g.sends → length t.effects.sent ≤ g.sends

abbrev Later : Given → State → Outcome → Type 0
Later g s (goes_on t) = Onward g s t
Later g s (stops k t) = Onward g s t
Later g s stuck = Unit {0}

module _ (g : Given) where
  same : (s : State) → Onward g s s
  same s = record { turns = omega arith; used = λ h. h; spent = λ h. h; sent = λ h. h }

  both : {s t u : State} → Onward g s t → Onward g t u → Onward g s u
  both a b = record { turns = omega arith; used = λ h. b.used (a.used h); spent = λ h. b.spent (a.spent h); sent = λ h. b.sent (a.sent h) }

  later_trans : (s t : State) (o : Outcome) → Onward g s t → Later g t o → Later g s o
  later_trans s t (goes_on u) a h = both a h
  later_trans s t (stops k u) a h = both a h
  later_trans s t stuck a h = tt

  later_then : (s : State) (o : Outcome) (k : State → Outcome) → Later g s o → ((t : State) → Later g t (k t)) → Later g s (and_then o k)
  unfolding and_then
  later_then s (goes_on t) k h f = later_trans s t (k t) h (f t)
  later_then s (stops x t) k h f = h
  later_then s stuck k h f = tt

  later_value : (s : State) (r : Evaluated) (k : Value → Outcome) → ((v : Value) → Later g s (k v)) → Later g s (with_value s r k)
  unfolding with_value
  later_value s (value v) k f = f v
  later_value s (fault c n) k f = same s
  later_value s no_value k f = tt

  later_assigned : (s : State) (x : ℕ) (v : Value) (o : Option SimpleType) → Later g s (assigned s x v o)
  unfolding assigned
  later_assigned s x v None = tt
  later_assigned s x v (Some y) =
      elim (same_type (value_type v) y) as (λ b. Later g s (cond b (goes_on (set_variable s x v)) stuck)) [
        | true ↦ record { turns = omega arith; used = λ h. h; spent = λ h. h; sent = λ h. h }
        | false ↦ tt
      ]

  later_received : (s : State) (x : ℕ) (o : Option SimpleType) (rs : List ℤ) → drop s.effects.used g.readings ≡ rs → Later g s (received s x o rs)
  unfolding received
  later_received s x None rs e = tt
  later_received s x (Some y) [] e = same s
  later_received s x (Some y) (z ∷ rs) e =
      record { turns = omega arith; used = λ h. omega (arith, ap length e, length-drop s.effects.used g.readings); spent = λ h. h; sent = λ h. h }

  later_sent : (s : State) (b : Bool) (v : Value) → ltb (length s.effects.sent) g.sends ≡ b → Later g s (sent_if b v s)
  unfolding sent_if
  later_sent s true v e = record {
    turns = omega arith;
    used = λ h. h;
    spent = λ h. h;
    sent = λ h. omega (arith, length-append s.effects.sent (number v ∷ []), ltb-true (length s.effects.sent) g.sends e);
  }
  later_sent s false v e = same s

  later_branch : (s : State) (v : Value) (f k : State → Outcome) → Later g s (f s) → Later g s (k s) → Later g s (branch v f k s)
  unfolding branch
  later_branch s (Truth true) f k a b = a
  later_branch s (Truth false) f k a b = b
  later_branch s (Number z) f k a b = tt

  later_turn : (s : State) (b : Bool) (k : State → Outcome) → ltb s.effects.turns g.turns ≡ b → ((t : State) → Later g t (k t)) → Later g s (turn_if b k s)
  unfolding turn_if
  later_turn s true k e f =
      let t : State = record { variables = s.variables; effects = spend_turn s.effects } in
      later_trans s t (k t) (record { turns = omega arith; used = λ h. h; spent = λ h. ltb-true s.effects.turns g.turns e; sent = λ h. h }) (f t)
  later_turn s false k e f = same s

  later_pass : (e : Expr ℕ) (f next : State → Outcome) → ((t : State) → Later g t (f t)) → ((t : State) → Later g t (next t)) → (s : State) → Later g s (pass e f next s)
  unfolding pass
  later_pass e f next hf hn s =
      later_value s (eval s.variables e) (λ v. branch v (λ t. and_then (f t) next) goes_on s)
      (λ v. later_branch s v (λ t. and_then (f t) next) goes_on (later_then s (f s) next (hf s) hn) (same s))

  later_iterate : (k : ℕ) (e : Expr ℕ) (f : State → Outcome) → ((t : State) → Later g t (f t)) → (s : State) → Later g s (iterate k g e f s)
  unfolding iterate
  later_iterate zero e f hf s = later_pass e f (stops Spent) hf same s
  later_iterate (suc k) e f hf s =
      later_pass e f (λ t. turn_if (ltb t.effects.turns g.turns) (iterate k g e f) t) hf
      (λ t. later_turn t (ltb t.effects.turns g.turns) (iterate k g e f) refl (λ u. later_iterate k e f hf u)) s

  later_exec : (ty : Types) (c : Cmd ℕ) (s : State) → Later g s (exec ty g c s)
  unfolding exec
  later_exec ty (skip n) s = same s
  later_exec ty (assign n x e) s = later_value s (eval s.variables e) (λ v. assigned s x v (ty x)) (λ v. later_assigned s x v (ty x))
  later_exec ty (seq n a b) s = later_then s (exec ty g a s) (exec ty g b) (later_exec ty a s) (λ t. later_exec ty b t)
  later_exec ty (choice n e a b) s =
      later_value s (eval s.variables e) (λ v. branch v (exec ty g a) (exec ty g b) s)
      (λ v. later_branch s v (exec ty g a) (exec ty g b) (later_exec ty a s) (later_exec ty b s))
  later_exec ty (loop n e c) s = later_iterate (g.turns - s.effects.turns) e (exec ty g c) (λ t. later_exec ty c t) s
  later_exec ty (input n x) s = later_received s x (ty x) (drop s.effects.used g.readings) refl
  later_exec ty (output n e) s =
      later_value s (eval s.variables e) (λ v. sent_if (ltb (length s.effects.sent) g.sends) v s) (λ v. later_sent s _ v refl)

-- what comes after the body may be replaced by what is the same from here on
same_then : (g : Given) (s : State) (o : Outcome) (k j : State → Outcome) → Later g s o → ((t : State) → s.effects.turns ≤ t.effects.turns → k t ≡ j t) → and_then o k ≡ and_then o j
unfolding and_then
same_then g s (goes_on t) k j h f = f t h.turns
same_then g s (stops x t) k j h f = refl
same_then g s stuck k j h f = refl

same_value : (s : State) (r : Evaluated) (k j : Value → Outcome) → ((v : Value) → k v ≡ j v) → with_value s r k ≡ with_value s r j
unfolding with_value
same_value s (value v) k j f = f v
same_value s (fault c n) k j f = refl
same_value s no_value k j f = refl

same_branch : (s : State) (v : Value) (f h k : State → Outcome) → f s ≡ h s → branch v f k s ≡ branch v h k s
unfolding branch
same_branch s (Truth true) f h k e = e
same_branch s (Truth false) f h k e = refl
same_branch s (Number z) f h k e = refl

same_turn : (b : Bool) (k j : State → Outcome) (t : State) → k (record { variables = t.variables; effects = spend_turn t.effects }) ≡ j (record { variables = t.variables; effects = spend_turn t.effects }) → turn_if b k t ≡ turn_if b j t
unfolding turn_if
same_turn true k j t e = e
same_turn false k j t e = refl

module _ (g : Given) (e : Expr ℕ) (f : State → Outcome) (hf : (t : State) → Later g t (f t)) where
  same_pass : (k j : State → Outcome) (s : State) → ((t : State) → s.effects.turns ≤ t.effects.turns → k t ≡ j t) → pass e f k s ≡ pass e f j s
  unfolding pass
  same_pass k j s h =
      same_value s (eval s.variables e) (λ v. branch v (λ t. and_then (f t) k) goes_on s) (λ v. branch v (λ t. and_then (f t) j) goes_on s)
      (λ v. same_branch s v (λ t. and_then (f t) k) (λ t. and_then (f t) j) goes_on (same_then g s (f s) k j (hf s) h))

  -- with no turn left
  no_turn : (k : State → Outcome) (t : State) → g.turns ≤ t.effects.turns → stops Spent t ≡ turn_if (ltb t.effects.turns g.turns) k t
  unfolding turn_if
  no_turn k t le = ap (λ (b : Bool). turn_if b k t) (sym (le-ltb t.effects.turns g.turns le))

  same_iterate : (k j : ℕ) (s : State) → g.turns ≤ k + s.effects.turns → g.turns ≤ j + s.effects.turns → iterate k g e f s ≡ iterate j g e f s
  unfolding iterate
  same_iterate zero zero s a b = refl
  same_iterate zero (suc j) s a b = same_pass (stops Spent) (λ t. turn_if (ltb t.effects.turns g.turns) (iterate j g e f) t) s (λ t le. no_turn (iterate j g e f) t (omega arith))
  same_iterate (suc k) zero s a b = same_pass (λ t. turn_if (ltb t.effects.turns g.turns) (iterate k g e f) t) (stops Spent) s (λ t le. sym (no_turn (iterate k g e f) t (omega arith)))
  same_iterate (suc k) (suc j) s a b =
      same_pass (λ t. turn_if (ltb t.effects.turns g.turns) (iterate k g e f) t) (λ t. turn_if (ltb t.effects.turns g.turns) (iterate j g e f) t) s
      (λ t le. same_turn (ltb t.effects.turns g.turns) (iterate k g e f) (iterate j g e f) t
      (same_iterate k j (record { variables = t.variables; effects = spend_turn t.effects }) (omega arith) (omega arith)))

  -- a loop with just the turns that are left
  abbrev looping : State → Outcome
  looping s = iterate (g.turns - s.effects.turns) g e f s

  unrolled : (s : State) → looping s ≡ pass e f (λ t. turn_if (ltb t.effects.turns g.turns) looping t) s
  unfolding iterate
  unrolled s =
      let k = g.turns - s.effects.turns in
      same_iterate k (suc k) s (omega arith) (omega arith)
      ∙ same_pass (λ t. turn_if (ltb t.effects.turns g.turns) (iterate k g e f) t) (λ t. turn_if (ltb t.effects.turns g.turns) looping t) s
      (λ t le. same_turn (ltb t.effects.turns g.turns) (iterate k g e f) looping t
      (same_iterate k _ (record { variables = t.variables; effects = spend_turn t.effects }) (omega arith) (omega arith)))

pub loops : Loops
unfolding exec
loops ty g n e b s = unrolled g e (exec ty g b) (λ t. later_exec g ty b t) s

pub bounded : Bounded
unfolding ended
bounded p g e h = pick (exec (type_in p.decls) g p.body initial) (later_exec g (type_in p.decls) p.body initial) h
  where
    within : (t : Status) (s : State) → Onward g initial s → ◌≡◌ {A = Option Ended} (Some (record { stop = t; state = s })) (Some e) → Within g e
    within t s a f =
        let k : record { stop = t; state = s } ≡ e = cc in
        subst (Within g) k (record { used = a.used (omega arith); turns = a.spent (omega arith); sent = a.sent (omega arith) })

    pick : (o : Outcome) → Later g initial o → ended o ≡ Some e → Within g e
    pick (goes_on s) a f = within Finished s a f
    pick (stops t s) a f = within t s a f
    pick stuck a f = absurd (cc)
