-- Runs: every one ends, in one way, and goes on later as if it had been given everything at once.
use Rattle.std.proofs.Common.{◌≡◌, ℕ, zero, suc, ◌+◌, ◌<◌, ◌≤◌, Bool, true, false, ltb, leb, List, [], ◌∷◌, ◌++◌, length, drop, ℤ, Ok, Err, Result, sym, refl, ap, ◌∙◌, subst, arith, length-drop, ltb-true, lt-ltb}
use mathlib.Core.Option.{Option, none, some}
use lib.ListN.{get_elem?}
use Rattle.std.proofs.lemmas.List.{drop-append-le}
use Rattle.std.proofs.lemmas.Bool.Decides.{nat_tests}
use Rattle.tosca.specs.declared.operators.Cause.{Cause}
use Rattle.aida.specs.declared.instructions.Instruction.{Instruction}
use Rattle.aida.specs.declared.instructions.Instruction.TheVariants.{LoadConst, LoadVar, Store, UnaryOp, BinaryOp, Input, InputBit, Output, Jump, Goto}
use Rattle.aida.specs.declared.instructions.Coded.{Coded}
use Rattle.aida.specs.declared.status.Status.{Status}
use Rattle.aida.specs.declared.status.Status.TheVariants.{Ready, Waiting, Held, Spent, Finished, Faulted}
use Rattle.aida.specs.Machine.{Machine, machine, with_status, feed, take, operated, receive, send_if, transfer, jump_if, perform, act, step, Reach, here, on, Runs}
use Rattle.aida.specs.MachineLaws.{Ending, OneEnd, Resumption}
use Rattle.aida.proofs.Steps.{ready, not_ready, either_way, ready_step, was_ready, unaltered, measure, falls, Onward, onward_step}

module _ (code : List Coded) (limit allowed : ℕ) where
  pub then : {a b c : Machine} → Reach code limit allowed a b → Reach code limit allowed b c → Reach code limit allowed a c
  then here k = k
  then (on e r) k = on e (then r k)

  pub one : {a b : Machine} → step code limit allowed a ≡ b → b.status ≡ Ready → Reach code limit allowed a b
  one {a} {b} e r = on (ap (λ (m : Machine). m.status) e ∙ r) (subst (λ m. Reach code limit allowed m b) (sym e) here)

  -- what is reached from a lies before the end that a comes to
  pub rest : {a b c : Machine} → Reach code limit allowed a b → Reach code limit allowed a c → ((step code limit allowed c).status ≡ Ready → ⊥) → Reach code limit allowed b c
  rest here k h = k
  rest (on e r) here h = absurd (h e)
  rest (on e r) (on f k) h = rest r k h

  pub onward : {a b : Machine} → Reach code limit allowed a b → Onward a b
  onward here = record { turns = omega arith; sends = omega arith }
  onward (on {a} e r) =
      let h = onward_step code limit allowed a e in
      let k = onward r in
      record { turns = omega arith; sends = omega arith }

  pub still_ready : {a b : Machine} → a.status ≡ Ready → Reach code limit allowed a b → b.status ≡ Ready
  still_ready s here = s
  still_ready s (on e r) = still_ready e r

  pub no_further : {a b : Machine} (r : Runs code limit allowed a b) → (step code limit allowed r.last).status ≡ Ready → ⊥
  no_further r h = r.stopped (sym (ap (λ (m : Machine). m.status) r.ends) ∙ h)

  same_last : {a c : Machine} → Reach code limit allowed a c → ((step code limit allowed a).status ≡ Ready → ⊥) → a ≡ c
  same_last here h = refl
  same_last (on e r) h = absurd (h e)

  pub same_end : (a b c : Machine) → Runs code limit allowed a b → Runs code limit allowed a c → b ≡ c
  same_end a b c p q =
      sym p.ends ∙ ap (step code limit allowed) (same_last (rest p.reach q.reach (no_further q)) (no_further p)) ∙ q.ends

  further : {a : Machine} → (step code limit allowed a).status ≡ Ready → ((b : Machine) × Runs code limit allowed (step code limit allowed a) b) → (b : Machine) × Runs code limit allowed a b
  further e r = (r.0, record { last = r.1.last; reach = on e r.1.reach; ends = r.1.ends; stopped = r.1.stopped })

  ending_by : (k : ℕ) (a : Machine) → measure code limit allowed a < k → (b : Machine) × Runs code limit allowed a b
  ending_by zero a lt = absurd (omega arith)
  ending_by (suc k) a lt =
      elim (either_way (step code limit allowed a).status) [
        | ready e ↦ further e (ending_by k (step code limit allowed a) (omega (arith, falls code limit allowed a e)))
        | not_ready h ↦ (step code limit allowed a, record { last = a; reach = here; ends = refl; stopped = h })
      ]

pub ending : Ending
ending code limit allowed a = ending_by code limit allowed (suc (measure code limit allowed a)) a (omega arith)

pub one_end : OneEnd
one_end code limit allowed a b c p q = same_end code limit allowed a b c p q

-- More readings, more room, and enough turns allowed: a step that leaves the machine ready is still made.
module _ (rs : List ℤ) (limit more before allowed : ℕ) (le : limit ≤ more) where
  feed_operated : (n : ℕ) (m : Machine) (r : Result ℤ Cause) → operated n (feed rs m) r ≡ feed rs (operated n m r)
  unfolding operated
  feed_operated n m (Ok z) = refl
  feed_operated n m (Err c) = refl

  feed_receive : (f : ℤ → ℤ) (m : Machine) (xs : List ℤ) → (receive f m xs).status ≡ Ready → receive f (feed rs m) (xs ++ rs) ≡ feed rs (receive f m xs)
  unfolding receive
  feed_receive f m [] e = absurd (cc)
  feed_receive f m (x ∷ xs) e = refl

  feed_send : (b : Bool) (n : ℕ) (m : Machine) → ltb n limit ≡ b → (send_if b m).status ≡ Ready → send_if (ltb n more) (feed rs m) ≡ feed rs (send_if b m)
  unfolding send_if
  feed_send true n m e s = ap (λ (b : Bool). send_if b (feed rs m)) (lt-ltb n more (omega (arith, ltb-true n limit e)))
  feed_send false n m e s = absurd (cc)

  feed_transfer : (b c : Bool) (t : ℕ) (m : Machine) → (transfer b c t m).status ≡ Ready → (transfer b c t m).turns ≤ allowed → transfer b (ltb m.turns allowed) t (feed rs m) ≡ feed rs (transfer b c t m)
  unfolding transfer
  feed_transfer false c t m s l = refl
  feed_transfer true true t m s l = ap (λ (c : Bool). transfer true c t (feed rs m)) (lt-ltb m.turns allowed l)
  feed_transfer true false t m s l = absurd (cc)

  feed_jump : (b : Bool) (m g h : Machine) → (g.status ≡ Ready → g.turns ≤ allowed → h ≡ feed rs g) → (jump_if b g m).status ≡ Ready → (jump_if b g m).turns ≤ allowed → jump_if b h (feed rs m) ≡ feed rs (jump_if b g m)
  unfolding jump_if
  feed_jump true m g h f s l = f s l
  feed_jump false m g h f s l = refl

  feed_perform : (m : Machine) (i : Instruction) (n : ℕ) → (perform limit before m i n).status ≡ Ready → (perform limit before m i n).turns ≤ allowed → perform more allowed (feed rs m) i n ≡ feed rs (perform limit before m i n)
  unfolding perform
  feed_perform m (LoadConst v) n s l = refl
  feed_perform m (LoadVar c) n s l = refl
  feed_perform m (Store c) n s l = refl
  feed_perform m (UnaryOp o) n s l = feed_operated n m _
  feed_perform m (BinaryOp o c) n s l = feed_operated n m _
  feed_perform m Input n s l = feed_receive _ m m.readings s
  feed_perform m InputBit n s l = feed_receive _ m m.readings s
  feed_perform m Output n s l = feed_send _ (length m.sends) m refl s
  feed_perform m (Jump t) n s l = feed_jump _ m _ _ (feed_transfer (leb t m.counter) (ltb m.turns before) t m) s l
  feed_perform m (Goto t) n s l = feed_transfer (leb t m.counter) (ltb m.turns before) t m s l

  feed_act : (m : Machine) (o : Option Coded) → (act limit before m Ready o).status ≡ Ready → (act limit before m Ready o).turns ≤ allowed → act more allowed (feed rs m) Ready o ≡ feed rs (act limit before m Ready o)
  unfolding act
  feed_act m none s l = absurd (cc)
  feed_act m (some i) s l = feed_perform m i.instruction i.node s l

  feed_step : (code : List Coded) (m : Machine) → (step code limit before m).status ≡ Ready → (step code limit before m).turns ≤ allowed → step code more allowed (feed rs m) ≡ feed rs (step code limit before m)
  feed_step code m s l =
      let r = was_ready code limit before m s in
      let e = ready_step code limit before m r in
      ready_step code more allowed (feed rs m) r ∙ feed_act m (get_elem? code m.counter) (sym (ap (λ (x : Machine). x.status) e) ∙ s) (subst (λ (x : Machine). x.turns ≤ allowed) e l) ∙ ap (feed rs) (sym e)

  pub feed_reach : {code : List Coded} {a b : Machine} → a.status ≡ Ready → b.turns ≤ allowed → Reach code limit before a b → Reach code more allowed (feed rs a) (feed rs b)
  feed_reach s l here = here
  feed_reach {code} {b = b} s l (on {a} e r) =
      let q = feed_step code a e (omega (arith, (onward code limit before r).turns)) in
      then code more allowed (one code more allowed q e) (feed_reach e l r)

room_same : (s : List ℤ) (k limit : ℕ) → k ≤ length s → ltb (length (drop k s)) limit ≡ ltb (length s) (k + limit)
room_same s k limit le = rw (length-drop k s) (grind (arith, nat_tests))

-- k sends are taken, and there is room for k fewer: the steps are the same.
module _ (k limit allowed : ℕ) where
  take_operated : (n : ℕ) (m : Machine) (r : Result ℤ Cause) → operated n (take k m) r ≡ take k (operated n m r)
  unfolding operated
  take_operated n m (Ok z) = refl
  take_operated n m (Err c) = refl

  take_receive : (f : ℤ → ℤ) (m : Machine) (xs : List ℤ) → receive f (take k m) xs ≡ take k (receive f m xs)
  unfolding receive
  take_receive f m [] = refl
  take_receive f m (x ∷ xs) = refl

  take_send : (b : Bool) (m : Machine) → k ≤ length m.sends → send_if b (take k m) ≡ take k (send_if b m)
  unfolding send_if
  take_send true m le =
      ap (λ (zs : List ℤ). machine (suc m.counter) m.accumulator m.cells m.turns Ready m.readings zs) (sym (drop-append-le k m.sends (m.accumulator ∷ []) le))
  take_send false m le = refl

  take_transfer : (b c : Bool) (t : ℕ) (m : Machine) → transfer b c t (take k m) ≡ take k (transfer b c t m)
  unfolding transfer
  take_transfer false c t m = refl
  take_transfer true true t m = refl
  take_transfer true false t m = refl

  take_jump : (b : Bool) (m g h : Machine) → h ≡ take k g → jump_if b h (take k m) ≡ take k (jump_if b g m)
  unfolding jump_if
  take_jump true m g h e = e
  take_jump false m g h e = refl

  take_perform : (m : Machine) (i : Instruction) (n : ℕ) → k ≤ length m.sends → perform limit allowed (take k m) i n ≡ take k (perform (k + limit) allowed m i n)
  unfolding perform
  take_perform m (LoadConst v) n le = refl
  take_perform m (LoadVar c) n le = refl
  take_perform m (Store c) n le = refl
  take_perform m (UnaryOp o) n le = take_operated n m _
  take_perform m (BinaryOp o c) n le = take_operated n m _
  take_perform m Input n le = take_receive _ m _
  take_perform m InputBit n le = take_receive _ m _
  take_perform m Output n le = ap (λ (b : Bool). send_if b (take k m)) (room_same m.sends k limit le) ∙ take_send _ m le
  take_perform m (Jump t) n le = take_jump _ m _ _ (take_transfer (leb t m.counter) (ltb m.turns allowed) t m)
  take_perform m (Goto t) n le = take_transfer (leb t m.counter) (ltb m.turns allowed) t m

  take_act : (m : Machine) (s : Status) (o : Option Coded) → k ≤ length m.sends → act limit allowed (take k m) s o ≡ take k (act (k + limit) allowed m s o)
  unfolding act
  take_act m Ready none le = refl
  take_act m Ready (some i) le = take_perform m i.instruction i.node le
  take_act m Waiting o le = refl
  take_act m Held o le = refl
  take_act m Spent o le = refl
  take_act m Finished o le = refl
  take_act m (Faulted c n) o le = refl

  pub take_step : (code : List Coded) (m : Machine) → k ≤ length m.sends → step code limit allowed (take k m) ≡ take k (step code (k + limit) allowed m)
  unfolding step
  take_step code m le = take_act m m.status (get_elem? code m.counter) le

  pub take_reach : {code : List Coded} {a b : Machine} → k ≤ length a.sends → Reach code (k + limit) allowed a b → Reach code limit allowed (take k a) (take k b)
  take_reach le here = here
  take_reach {code} {b = b} le (on {a} e r) =
      then code limit allowed (one code limit allowed (take_step code a le) e) (take_reach (omega (arith, (onward_step code (k + limit) allowed a e).sends)) r)

  pub take_runs : {code : List Coded} {a b : Machine} → a.status ≡ Ready → k ≤ length a.sends → Runs code (k + limit) allowed a b → Runs code limit allowed (take k a) (take k b)
  take_runs {code} s le r = record {
    last = take k r.last;
    reach = take_reach le r.reach;
    ends = take_step code r.last (omega (arith, (onward code (k + limit) allowed r.reach).sends)) ∙ ap (take k) r.ends;
    stopped = r.stopped;
  }

-- what was reached with less goes on with all that is given now
pub goes_on : {code : List Coded} {less more before allowed : ℕ} (rs : List ℤ) {a b c : Machine} → a.status ≡ Ready → less ≤ more → Reach code less before a b → b.turns ≤ allowed
    → Runs code more allowed (feed rs a) c → Runs code more allowed (feed rs b) c
goes_on {code} {less} {more} {before} {allowed} rs s room r le q =
    let w = feed_reach rs less more before allowed room s le r in
    record { last = q.last; reach = rest code more allowed w q.reach (no_further code more allowed q); ends = q.ends; stopped = q.stopped }

-- where a run ends, made ready again, is the last machine of its steps
pub at_last : {code : List Coded} {limit allowed : ℕ} {a b : Machine} → a.status ≡ Ready → (r : Runs code limit allowed a b) → r.last ≡ with_status Ready b
at_last {code} {limit} {allowed} {a} {b} s r =
    let still : r.last.status ≡ Ready = still_ready code limit allowed s r.reach in
    let e : b ≡ with_status b.status r.last =
    sym r.ends ∙ unaltered code limit allowed r.last (no_further code limit allowed r) ∙ ap (λ (m : Machine). with_status m.status r.last) r.ends in
    ap (λ (t : Status). with_status t r.last) still ∙ ap (with_status Ready) (sym e)

pub resumption : Resumption
resumption code limit before allowed k rs a b c s p le few q =
    let e : p.last ≡ with_status Ready b = at_last s p in
    let r = goes_on rs s (omega arith) (subst (Reach code limit before a) e p.reach) le q in
    take_runs k limit allowed refl few r
