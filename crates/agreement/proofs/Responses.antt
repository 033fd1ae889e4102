-- Every list of calls is answered, and in one way.
use Rattle.std.proofs.Common.{◌≡◌, ℕ, ◌+◌, Bool, true, false, ltb, List, [], ◌∷◌, ◌++◌, length, ℤ, Some, None, Ok, Err, Option, sym, refl, ap, ◌∙◌, subst, ap₂}
use Rattle.aida.specs.declared.instructions.Coded.{Coded}
use Rattle.aida.specs.declared.status.Status.TheVariants.{Ready}
use Rattle.aida.specs.declared.calls.Refusal.{Refusal}
use Rattle.aida.specs.declared.calls.Refusal.TheVariants.{NoRoom, NoSend}
use Rattle.aida.specs.declared.calls.Call.{Call}
use Rattle.aida.specs.declared.calls.Call.TheVariants.{Feed, Run, Take}
use Rattle.aida.specs.declared.calls.Answer.TheVariants.{Fed, Took, Ran}
use Rattle.aida.specs.Machine.{Machine, with_status, feed, take}
use Rattle.aida.specs.Refusals.{run_refusal}
use Rattle.aida.specs.Plan.{Reply}
use Rattle.agreement.specs.Agreement.{Responds, feeds, no_room, takes, no_send, runs, no_run, RespondsAll, over, call, Answering, OneAnswering}
use Rattle.statics.proofs.Booleans.{true_false}
use Rattle.aida.proofs.Runs.{ending, one_end}

module _ (is : List Coded) (rl sl : ℕ) where
  abbrev Response : Machine → Call → Type 0
  Response m k = (x : Reply) × (b : Machine) × Responds is rl sl m k x b

  feed_by : (m : Machine) (z : ℤ) (b : Bool) → ltb (length m.readings) rl ≡ b → Response m (Feed z)
  feed_by m z true e = (Ok Fed, feed (z ∷ []) m, feeds e)
  feed_by m z false e = (Err NoRoom, m, no_room e)

  take_by : (m : Machine) (zs : List ℤ) → m.sends ≡ zs → Response m Take
  take_by m [] e = (Err NoSend, m, no_send e)
  take_by m (z ∷ zs) e = (Ok (Took z), take 1 m, takes e)

  run_by : (m : Machine) (n : ℕ) (o : Option Refusal) → run_refusal n m.status m.turns ≡ o → Response m (Run n)
  run_by m n (Some r) e = (Err r, m, no_run e)
  run_by m n None e =
      let r = ending is sl (m.turns + n) (with_status Ready m) in
      (Ok (Ran r.0.status r.0.turns), r.0, runs e r.1)

  response : (m : Machine) (k : Call) → Response m k
  response m (Feed z) = feed_by m z _ refl
  response m Take = take_by m _ refl
  response m (Run n) = run_by m n _ refl

  responses : (m : Machine) (ks : List Call) → (xs : List Reply) × (b : Machine) × RespondsAll is rl sl m ks xs b
  responses m [] = ([], m, over)
  responses m (k ∷ ks) =
      let r = response m k in
      let s = responses r.1 ks in
      (r.0 ∷ s.0, s.1, call r.2 s.2)

  -- one answer to a call
  one_response : {m b c : Machine} {k : Call} {x y : Reply} → Responds is rl sl m k x b → Responds is rl sl m k y c → (x ≡ y) × (b ≡ c)
  one_response (feeds e) (feeds f) = (refl, refl)
  one_response (feeds e) (no_room f) = true_false (sym e ∙ f)
  one_response (no_room e) (feeds f) = true_false (sym f ∙ e)
  one_response (no_room e) (no_room f) = (refl, refl)
  one_response (takes e) (takes f) = (cc, refl)
  one_response (takes e) (no_send f) = cc
  one_response (no_send e) (takes f) = cc
  one_response (no_send e) (no_send f) = (refl, refl)
  one_response {m} (runs {grant = n} {b = b} e r) (runs {b = c} f q) =
      let same : b ≡ c = one_end is sl (m.turns + n) (with_status Ready m) b c r q in
      (ap (λ (z : Machine). Ok (Ran z.status z.turns)) same, same)
  one_response (runs e r) (no_run f) = cc
  one_response (no_run e) (runs f q) = cc
  one_response (no_run e) (no_run f) = (cc, refl)

  one_by_one : {m b c : Machine} {ks : List Call} {xs ys : List Reply} → RespondsAll is rl sl m ks xs b → RespondsAll is rl sl m ks ys c → (xs ≡ ys) × (b ≡ c)
  one_by_one over over = (refl, refl)
  one_by_one {c = c} (call {k = k} {ks = ks} d s) (call {xs = ys} f t) =
      let h = one_response d f in
      let r = one_by_one s (subst (λ (n : Machine). RespondsAll is rl sl n ks ys c) (sym h.1) t) in
      (ap₂ {A = Reply} {B = List Reply} {C = List Reply} (λ z zs. z ∷ zs) h.0 r.0, r.1)

  -- one more call
  pub then_one : {m b c : Machine} {ks : List Call} {xs : List Reply} {k : Call} {x : Reply} → RespondsAll is rl sl m ks xs b → Responds is rl sl b k x c → RespondsAll is rl sl m (ks ++ k ∷ []) (xs ++ x ∷ []) c
  then_one over d = call d over
  then_one (call f s) d = call f (then_one s d)

pub answering : Answering
answering is rl sl m ks = responses is rl sl m ks

pub one_answering : OneAnswering
one_answering is rl sl m b c ks xs ys p q = one_by_one is rl sl p q
