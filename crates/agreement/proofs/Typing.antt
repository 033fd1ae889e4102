-- A command that is well typed and reads only variables that are set is never stuck.
use Rattle.std.proofs.Common.{◌≡◌, ℕ, zero, suc, ◌-◌, Bool, true, false, cond, ◌&&◌, ◌||◌, eqb, ltb, ◌⊎◌, List, [], ◌∷◌, length, drop, ℤ, Some, None, Ok, Err, Option, Result, sym, refl, ap, ◌∙◌, subst, inl, inr, eq-eqb, ne_eqb}
use Rattle.std.proofs.lemmas.Bool.{cases_eq}
use Rattle.tosca.specs.declared.operators.SimpleType.{SimpleType}
use Rattle.tosca.specs.declared.operators.SimpleType.TheVariants.{Integer, Boolean}
use Rattle.tosca.specs.declared.operators.Value.{Value}
use Rattle.tosca.specs.declared.operators.Value.TheVariants.{Number, Truth}
use Rattle.tosca.specs.declared.operators.Cause.{Cause}
use Rattle.tosca.specs.Arithmetic.{unary, binary}
use Rattle.tosca.specs.Trees.{Expr, const, var, uny, bin, Cmd, skip, assign, seq, choice, loop, input, output, Decl, Program}
use Rattle.aida.specs.declared.status.Status.TheVariants.{Spent, Finished}
use Rattle.tosca.specs.Types.{value_type, same_type, unary_type, binary_takes, binary_gives, Types, type_in}
use Rattle.aida.specs.Values.{number, value_of}
use Rattle.aida.specs.Source.{Given, Variables, updated, Evaluated, value, fault, no_value, read, on_value, computed, only_if, eval_unary, eval_binary, eval, State, initial, Outcome, goes_on, stops, stuck, and_then, with_value, spend_turn, assigned, received, sent_if, branch, turn_if, pass, iterate, exec, Ended, ended, source_run}
use Rattle.statics.specs.Typing.{HasType, WellTyped}
use Rattle.statics.specs.Setting.{Vars, no_vars, with, in_both, after}
use Rattle.statics.specs.StaticLaws.{Declares}
use Rattle.agreement.specs.Premises.{ExprSet, CmdSet, Checked}
use Rattle.agreement.specs.NeverStuck.{NeverStuck}
use Rattle.agreement.proofs.Parts.{Each, first_of, second_of, then_of, else_of, body_of, declared_type_lem}
use Rattle.statics.proofs.Booleans.{true_false, both_true}
use Rattle.agreement.proofs.Truths.{both, either}

same_type_lem : (t u : SimpleType) → t ≡ u → same_type t u ≡ true
same_type_lem Integer Integer e = refl
same_type_lem Integer Boolean e = cc
same_type_lem Boolean Integer e = cc
same_type_lem Boolean Boolean e = refl

type_of : (t : SimpleType) (z : ℤ) → value_type (value_of t z) ≡ t
type_of Integer z = refl
type_of Boolean z = refl

-- what is set has its declared type, and what should be set is
abbrev FineAt : Bool → Option Value → Option SimpleType → Type 0
FineAt b None t = b ≡ false
FineAt b (Some v) t = t ≡ Some (value_type v)

abbrev SoundValue : SimpleType → Evaluated → Type 0
SoundValue t (value v) = value_type v ≡ t
SoundValue t (fault c n) = Unit {0}
SoundValue t no_value = ⊥

sound_read : (b : Bool) (o : Option Value) (t : SimpleType) → FineAt b o (Some t) → b ≡ true → SoundValue t (read o)
sound_read b None t h e = true_false (sym e ∙ h)
sound_read b (Some v) t h e = cc

sound_computed : (b : Bool) (n : ℕ) (t : SimpleType) (r : Result ℤ Cause) → b ≡ true → SoundValue t (only_if b (computed n t r))
unfolding only_if computed
sound_computed true n t (Ok z) e = type_of t z
sound_computed true n t (Err c) e = tt
sound_computed false n t r e = true_false (sym e)

sound_on : (t u : SimpleType) (r : Evaluated) (k : Value → Evaluated) → SoundValue t r → ((v : Value) → value_type v ≡ t → SoundValue u (k v)) → SoundValue u (on_value r k)
unfolding on_value
sound_on t u (value v) k h f = f v h
sound_on t u (fault c n) k h f = tt
sound_on t u no_value k h f = h

module _ (ds : List (Decl ℕ)) where
  abbrev ty : Types
  ty = type_in ds

  abbrev Fine : Vars → Variables → Type 0
  Fine S s = (x : ℕ) → FineAt (S x) (s x) (ty x)

  sound_eval : (S : Vars) (s : Variables) → Fine S s → (e : Expr ℕ) (t : SimpleType) → HasType ds e t → ExprSet S e → SoundValue t (eval s e)
  unfolding eval HasType
  sound_eval S s h (const n v) t p r = p
  sound_eval S s h (var n x) t p r = sound_read (S x) (s x) t (subst (FineAt (S x) (s x)) p (h x)) r
  sound_eval S s h (uny n o e) t p r =
      subst (λ u. SoundValue u (on_value (eval s e) (eval_unary n o))) p.0
      (sound_on (unary_type o) (unary_type o) (eval s e) (eval_unary n o) (sound_eval S s h e (unary_type o) p.1 r)
      (λ v f. sound_computed (same_type (value_type v) (unary_type o)) n (unary_type o) (unary o (number v)) (same_type_lem (value_type v) (unary_type o) f)))
  sound_eval S s h (bin n l o r) t p q =
      subst (λ u. SoundValue u (on_value (eval s r) (λ w. on_value (eval s l) (λ v. eval_binary n o v w)))) p.0
      (sound_on (binary_takes o) (binary_gives o) (eval s r) (λ w. on_value (eval s l) (λ v. eval_binary n o v w)) (sound_eval S s h r (binary_takes o) p.2 q.1)
      (λ w fw. sound_on (binary_takes o) (binary_gives o) (eval s l) (λ v. eval_binary n o v w) (sound_eval S s h l (binary_takes o) p.1 q.0)
      (λ v fv. sound_computed (same_type (value_type v) (binary_takes o) && same_type (value_type w) (binary_takes o)) n (binary_gives o) (binary o (number v) (number w))
      (both (same_type (value_type v) (binary_takes o)) (same_type (value_type w) (binary_takes o)) (same_type_lem (value_type v) (binary_takes o) fv) (same_type_lem (value_type w) (binary_takes o) fw)))))

  abbrev Sound : Vars → Outcome → Type 0
  Sound S (goes_on t) = Fine S t.variables
  Sound S (stops k t) = Unit {0}
  Sound S stuck = ⊥

  fewer_at : (b c : Bool) (o : Option Value) (t : Option SimpleType) → (c ≡ true → b ≡ true) → FineAt b o t → FineAt c o t
  fewer_at b true None t f h = true_false (sym (f refl) ∙ h)
  fewer_at b false None t f h = refl
  fewer_at b c (Some v) t f h = h

  fewer : (S Q : Vars) (o : Outcome) → ((x : ℕ) → Q x ≡ true → S x ≡ true) → Sound S o → Sound Q o
  fewer S Q (goes_on t) f h = λ x. fewer_at (S x) (Q x) (t.variables x) (ty x) (f x) (h x)
  fewer S Q (stops k t) f h = tt
  fewer S Q stuck f h = h

  sound_then : (S Q : Vars) (o : Outcome) (k : State → Outcome) → Sound S o → ((t : State) → Fine S t.variables → Sound Q (k t)) → Sound Q (and_then o k)
  unfolding and_then
  sound_then S Q (goes_on t) k h f = f t h
  sound_then S Q (stops u t) k h f = tt
  sound_then S Q stuck k h f = h

  sound_value : (t : SimpleType) (Q : Vars) (s : State) (r : Evaluated) (k : Value → Outcome) → SoundValue t r → ((v : Value) → value_type v ≡ t → Sound Q (k v)) → Sound Q (with_value s r k)
  unfolding with_value
  sound_value t Q s (value v) k h f = f v h
  sound_value t Q s (fault c n) k h f = tt
  sound_value t Q s no_value k h f = h

  sound_updated : (S : Vars) (s : Variables) (x : ℕ) (v : Value) → ty x ≡ Some (value_type v) → Fine S s → Fine (with x S) (updated s x v)
  unfolding updated
  sound_updated S s x v e h = λ y. pick y (cases_eq x y)
    where
      pick : (y : ℕ) → (x ≡ y) ⊎ (x ≡ y → ⊥) → FineAt (eqb x y || S y) (cond (eqb x y) (Some v) (s y)) (ty y)
      pick y (inl f) = rw (eq-eqb x y f) (sym (ap ty f) ∙ e)
      pick y (inr n) = rw (ne_eqb x y n) (h y)

  sound_assigned : (S : Vars) (s : State) (x : ℕ) (v : Value) (y : SimpleType) → ty x ≡ Some y → value_type v ≡ y → Fine S s.variables → Sound (with x S) (assigned s x v (ty x))
  unfolding assigned
  sound_assigned S s x v y e f h =
      subst (λ o. Sound (with x S) (assigned s x v o)) (sym e)
      (rw (same_type_lem (value_type v) y f) (sound_updated S s.variables x v (e ∙ ap (λ (t : SimpleType). Some t) (sym f)) h))

  sound_received : (S : Vars) (s : State) (x : ℕ) (y : SimpleType) (rs : List ℤ) → ty x ≡ Some y → Fine S s.variables → Sound (with x S) (received s x (Some y) rs)
  unfolding received
  sound_received S s x y [] e h = tt
  sound_received S s x y (z ∷ rs) e h = sound_updated S s.variables x (value_of y z) (e ∙ ap (λ (t : SimpleType). Some t) (sym (type_of y z))) h

  sound_branch : (Q : Vars) (v : Value) (f k : State → Outcome) (t : State) → value_type v ≡ Boolean → Sound Q (f t) → Sound Q (k t) → Sound Q (branch v f k t)
  unfolding branch
  sound_branch Q (Number z) f k t e a b = cc
  sound_branch Q (Truth true) f k t e a b = a
  sound_branch Q (Truth false) f k t e a b = b

  sound_sent : (Q : Vars) (b : Bool) (v : Value) (t : State) → Fine Q t.variables → Sound Q (sent_if b v t)
  unfolding sent_if
  sound_sent Q true v t h = h
  sound_sent Q false v t h = tt

  grows : (c : Cmd ℕ) (S : Vars) (x : ℕ) → S x ≡ true → after c S x ≡ true
  unfolding after
  grows (skip n) S x e = e
  grows (assign n y f) S x e = either (eqb y x) (S x) e
  grows (seq n a b) S x e = grows b (after a S) x (grows a S x e)
  grows (choice n f a b) S x e = both (after a S x) (after b S x) (grows a S x e) (grows b S x e)
  grows (loop n f c) S x e = e
  grows (input n y) S x e = either (eqb y x) (S x) e
  grows (output n f) S x e = e

  module _ (g : Given) where
    sound_pass : (S : Vars) (e : Expr ℕ) (f next : State → Outcome) → HasType ds e Boolean → ExprSet S e → ((t : State) → Fine S t.variables → Sound S (f t)) → ((t : State) → Fine S t.variables → Sound S (next t)) → (t : State) → Fine S t.variables → Sound S (pass e f next t)
    unfolding pass
    sound_pass S e f next p r hf hn t h =
        sound_value Boolean S t (eval t.variables e) (λ v. branch v (λ u. and_then (f u) next) goes_on t) (sound_eval S t.variables h e Boolean p r)
        (λ v ev. sound_branch S v (λ u. and_then (f u) next) goes_on t ev (sound_then S S (f t) next (hf t h) hn) h)

    sound_turn : (S : Vars) (b : Bool) (k : State → Outcome) (t : State) → Sound S (k (record { variables = t.variables; effects = spend_turn t.effects })) → Sound S (turn_if b k t)
    unfolding turn_if
    sound_turn S true k t h = h
    sound_turn S false k t h = tt

    sound_iterate : (S : Vars) (e : Expr ℕ) (f : State → Outcome) → HasType ds e Boolean → ExprSet S e → ((t : State) → Fine S t.variables → Sound S (f t)) → (k : ℕ) (t : State) → Fine S t.variables → Sound S (iterate k g e f t)
    unfolding iterate
    sound_iterate S e f p r hf zero t h = sound_pass S e f (stops Spent) p r hf (λ u hu. tt) t h
    sound_iterate S e f p r hf (suc k) t h =
        sound_pass S e f (λ u. turn_if (ltb u.effects.turns g.turns) (iterate k g e f) u) p r hf
        (λ u hu. sound_turn S (ltb u.effects.turns g.turns) (iterate k g e f) u (sound_iterate S e f p r hf k (record { variables = u.variables; effects = spend_turn u.effects }) hu)) t h

    sound_exec : (c : Cmd ℕ) (S : Vars) → WellTyped ds c → Each (Declares ds) c → CmdSet S c → (t : State) → Fine S t.variables → Sound (after c S) (exec ty g c t)
    unfolding after exec WellTyped
    sound_exec (skip n) S p d r t h = h
    sound_exec (assign n x e) S p d r t h =
        sound_value p.0 (with x S) t (eval t.variables e) (λ v. assigned t x v (ty x)) (sound_eval S t.variables h e p.0 p.2 r)
        (λ v ev. sound_assigned S t x v p.0 p.1 ev h)
    sound_exec (seq n a b) S p d r t h =
        sound_then (after a S) (after b (after a S)) (exec ty g a t) (exec ty g b) (sound_exec a S p.0 (first_of (Declares ds) n a b d) r.0 t h) (λ u hu. sound_exec b (after a S) p.1 (second_of (Declares ds) n a b d) r.1 u hu)
    sound_exec (choice n e a b) S p d r t h =
        let Q : Vars = in_both (after a S) (after b S) in
        sound_value Boolean Q t (eval t.variables e) (λ v. branch v (exec ty g a) (exec ty g b) t) (sound_eval S t.variables h e Boolean p.0 r.0)
        (λ v ev. sound_branch Q v (exec ty g a) (exec ty g b) t ev
        (fewer (after a S) Q (exec ty g a t) (λ x q. (both_true (after a S x) (after b S x) q).0) (sound_exec a S p.1 (then_of (Declares ds) n e a b d) r.1 t h))
        (fewer (after b S) Q (exec ty g b t) (λ x q. (both_true (after a S x) (after b S x) q).1) (sound_exec b S p.2 (else_of (Declares ds) n e a b d) r.2 t h)))
    sound_exec (loop n e c) S p d r t h =
        sound_iterate S e (exec ty g c) p.0 r.0 (λ u hu. fewer (after c S) S (exec ty g c u) (λ x q. grows c S x q) (sound_exec c S p.1 (body_of (Declares ds) n e c d) r.1 u hu)) (g.turns - t.effects.turns) t h
    sound_exec (input n x) S p d r t h =
        let y = declared_type_lem ds x (d x (n, inr (inr refl))) in
        subst (λ o. Sound (with x S) (received t x o (drop t.effects.used g.readings))) (sym y.1) (sound_received S t x y.0 (drop t.effects.used g.readings) y.1 h)
    sound_exec (output n e) S p d r t h =
        sound_value p.0 S t (eval t.variables e) (λ v. sent_if (ltb (length t.effects.sent) g.sends) v t) (sound_eval S t.variables h e p.0 p.1 r)
        (λ v ev. sound_sent S (ltb (length t.effects.sent) g.sends) v t h)

-- the source run of a checked routine ends in some way
pub source_ends : (p : Program ℕ) → Checked p → (g : Given) → (e : Ended) × (source_run p g ≡ Some e)
unfolding ended
source_ends p c g = pick (exec (type_in p.decls) g p.body initial) (sound_exec p.decls g p.body no_vars c.typed c.declared c.set initial (λ x. refl))
  where
    pick : (o : Outcome) → Sound p.decls (after p.body no_vars) o → (e : Ended) × (ended o ≡ Some e)
    pick (goes_on s) h = (record { stop = Finished; state = s }, refl)
    pick (stops t s) h = (record { stop = t; state = s }, refl)
    pick stuck h = absurd h

pub never_stuck : NeverStuck
never_stuck p c g e = let s = source_ends p c g in cc
