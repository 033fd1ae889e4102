-- One step, by what it does, and what follows of every step.
use Rattle.std.proofs.Common.{◌≡◌, ℕ, zero, suc, ◌+◌, ◌-◌, ◌*◌, ◌<◌, ◌≤◌, Bool, true, false, ltb, leb, List, [], ◌∷◌, ◌++◌, length, get_or, set, ℤ, pos, Ok, Err, Result, sym, refl, ap, ◌∙◌, subst, mul-le-mul_right, arith, length-append, ltb-true, leb-false}
use mathlib.Core.Option.{Option, none, some}
use lib.ListN.{get_elem?}
use Rattle.tosca.specs.declared.operators.Cause.{Cause}
use Rattle.aida.specs.declared.instructions.Instruction.{Instruction}
use Rattle.aida.specs.declared.instructions.Instruction.TheVariants.{LoadConst, LoadVar, Store, UnaryOp, BinaryOp, Input, InputBit, Output, Jump, Goto}
use Rattle.aida.specs.declared.instructions.Coded.{Coded}
use Rattle.aida.specs.declared.status.Status.{Status}
use Rattle.aida.specs.declared.status.Status.TheVariants.{Ready, Waiting, Held, Spent, Finished, Faulted}
use Rattle.aida.specs.Machine.{Machine, machine, with_status, operated, receive, send_if, transfer, jump_if, perform, act, step}

-- what a step of a ready machine does
pub data Transition (code : List Coded) (allowed : ℕ) (m : Machine) : Machine → Type 0 where
  advances : (a : ℤ) (cs : List ℤ) → m.counter < length code → Transition code allowed m (machine (suc m.counter) a cs m.turns Ready m.readings m.sends)
  reads : (a z : ℤ) (rs : List ℤ) → m.counter < length code → m.readings ≡ z ∷ rs → Transition code allowed m (machine (suc m.counter) a m.cells m.turns Ready rs m.sends)
  sends_one : (z : ℤ) → m.counter < length code → Transition code allowed m (machine (suc m.counter) m.accumulator m.cells m.turns Ready m.readings (m.sends ++ z ∷ []))
  goes_forward : (t : ℕ) → m.counter < length code → m.counter < t → Transition code allowed m (machine t m.accumulator m.cells m.turns Ready m.readings m.sends)
  goes_back : (t : ℕ) → m.counter < length code → m.turns < allowed → Transition code allowed m (machine t m.accumulator m.cells (suc m.turns) Ready m.readings m.sends)
  halts : (s : Status) → (s ≡ Ready → ⊥) → Transition code allowed m (with_status s m)

pub get_lt : {A : Type 0} (xs : List A) (u : ℕ) (z : A) → get_elem? xs u ≡ some z → u < length xs
get_lt [] u z e = absurd (cc)
get_lt (x ∷ xs) zero z e = omega arith
get_lt (x ∷ xs) (suc u) z e = let k = get_lt xs u z e in omega arith

pub waiting_not : Waiting ≡ Ready → ⊥
waiting_not e = cc

pub held_not : Held ≡ Ready → ⊥
held_not e = cc

pub spent_not : Spent ≡ Ready → ⊥
spent_not e = cc

pub finished_not : Finished ≡ Ready → ⊥
finished_not e = cc

pub faulted_not : (c : Cause) (n : ℕ) → Faulted c n ≡ Ready → ⊥
faulted_not c n e = cc

module _ (code : List Coded) (limit allowed : ℕ) where
  does_operate : (n : ℕ) (m : Machine) (r : Result ℤ Cause) → m.counter < length code → Transition code allowed m (operated n m r)
  unfolding operated
  does_operate n m (Ok z) lt = advances z m.cells lt
  does_operate n m (Err c) lt = halts (Faulted c n) (faulted_not c n)

  does_receive : (f : ℤ → ℤ) (m : Machine) (rs : List ℤ) → m.readings ≡ rs → m.counter < length code → Transition code allowed m (receive f m rs)
  unfolding receive
  does_receive f m [] e lt = halts Waiting waiting_not
  does_receive f m (z ∷ rs) e lt = reads (f z) z rs lt e

  does_send : (b : Bool) (m : Machine) → m.counter < length code → Transition code allowed m (send_if b m)
  unfolding send_if
  does_send true m lt = sends_one m.accumulator lt
  does_send false m lt = halts Held held_not

  does_transfer : (b c : Bool) (t : ℕ) (m : Machine) → leb t m.counter ≡ b → ltb m.turns allowed ≡ c → m.counter < length code → Transition code allowed m (transfer b c t m)
  unfolding transfer
  does_transfer false c t m e f lt = goes_forward t lt (leb-false t m.counter e)
  does_transfer true true t m e f lt = goes_back t lt (ltb-true m.turns allowed f)
  does_transfer true false t m e f lt = halts Spent spent_not

  does_jump : (b : Bool) (gone m : Machine) → m.counter < length code → Transition code allowed m gone → Transition code allowed m (jump_if b gone m)
  unfolding jump_if
  does_jump true gone m lt d = d
  does_jump false gone m lt d = advances m.accumulator m.cells lt

  does_perform : (m : Machine) (i : Instruction) (n : ℕ) → m.counter < length code → Transition code allowed m (perform limit allowed m i n)
  unfolding perform
  does_perform m (LoadConst v) n lt = advances v m.cells lt
  does_perform m (LoadVar c) n lt = advances (get_or m.cells c (pos 0)) m.cells lt
  does_perform m (Store c) n lt = advances m.accumulator (set m.cells c m.accumulator) lt
  does_perform m (UnaryOp o) n lt = does_operate n m _ lt
  does_perform m (BinaryOp o c) n lt = does_operate n m _ lt
  does_perform m Input n lt = does_receive _ m _ refl lt
  does_perform m InputBit n lt = does_receive _ m _ refl lt
  does_perform m Output n lt = does_send _ m lt
  does_perform m (Jump t) n lt = does_jump _ _ m lt (does_transfer _ _ t m refl refl lt)
  does_perform m (Goto t) n lt = does_transfer _ _ t m refl refl lt

  does_act : (m : Machine) (o : Option Coded) → get_elem? code m.counter ≡ o → Transition code allowed m (act limit allowed m Ready o)
  unfolding act
  does_act m none e = halts Finished finished_not
  does_act m (some i) e = does_perform m i.instruction i.node (get_lt code m.counter i e)

  pub ready_step : (m : Machine) → m.status ≡ Ready → step code limit allowed m ≡ act limit allowed m Ready (get_elem? code m.counter)
  unfolding step
  ready_step m e = ap (λ (s : Status). act limit allowed m s (get_elem? code m.counter)) e

  pub transition : (m : Machine) → m.status ≡ Ready → Transition code allowed m (step code limit allowed m)
  transition m e = subst (Transition code allowed m) (sym (ready_step m e)) (does_act m (get_elem? code m.counter) refl)

-- only a ready machine acts
idle_act : (limit allowed : ℕ) (m : Machine) (s : Status) (o : Option Coded) → (s ≡ Ready → ⊥) → act limit allowed m s o ≡ m
unfolding act
idle_act limit allowed m Ready o h = absurd (h refl)
idle_act limit allowed m Waiting o h = refl
idle_act limit allowed m Held o h = refl
idle_act limit allowed m Spent o h = refl
idle_act limit allowed m Finished o h = refl
idle_act limit allowed m (Faulted c n) o h = refl

pub data EitherWay (s : Status) : Type 0 where
  ready : s ≡ Ready → EitherWay s
  not_ready : (s ≡ Ready → ⊥) → EitherWay s

pub either_way : (s : Status) → EitherWay s
either_way Ready = ready refl
either_way Waiting = not_ready waiting_not
either_way Held = not_ready held_not
either_way Spent = not_ready spent_not
either_way Finished = not_ready finished_not
either_way (Faulted c n) = not_ready (faulted_not c n)

-- from a to b turns are never given back, and sends never taken back
pub record Onward (a b : Machine) : Type 0 where
  pub turns : a.turns ≤ b.turns
  pub sends : length a.sends ≤ length b.sends

module _ (code : List Coded) (limit allowed : ℕ) where
  pub idle : (m : Machine) → (m.status ≡ Ready → ⊥) → step code limit allowed m ≡ m
  unfolding step
  idle m h = idle_act limit allowed m m.status (get_elem? code m.counter) h

  -- a machine that acts to become ready was so
  pub was_ready : (m : Machine) → (step code limit allowed m).status ≡ Ready → m.status ≡ Ready
  was_ready m e = pick (either_way m.status)
    where
      pick : EitherWay m.status → m.status ≡ Ready
      pick (ready h) = h
      pick (not_ready h) = sym (ap (λ (x : Machine). x.status) (idle m h)) ∙ e

  -- a step after which the machine is not ready alters only the status
  unaltered_by : (m b : Machine) → Transition code allowed m b → (b.status ≡ Ready → ⊥) → b ≡ with_status b.status m
  unaltered_by m b (advances a cs lt) h = absurd (h refl)
  unaltered_by m b (reads a z rs lt e) h = absurd (h refl)
  unaltered_by m b (sends_one z lt) h = absurd (h refl)
  unaltered_by m b (goes_forward t lt l) h = absurd (h refl)
  unaltered_by m b (goes_back t lt l) h = absurd (h refl)
  unaltered_by m b (halts s n) h = refl

  pub unaltered : (m : Machine) → ((step code limit allowed m).status ≡ Ready → ⊥) → step code limit allowed m ≡ with_status (step code limit allowed m).status m
  unaltered m h = pick (either_way m.status)
    where
      pick : EitherWay m.status → step code limit allowed m ≡ with_status (step code limit allowed m).status m
      pick (ready e) = unaltered_by m (step code limit allowed m) (transition code limit allowed m e) h
      pick (not_ready n) = subst (λ (x : Machine). x ≡ with_status x.status m) (sym (idle m n)) refl

  abbrev pub measure : Machine → ℕ
  measure m = (allowed - m.turns) * suc (length code) + (length code - m.counter)

  falls_by : (m b : Machine) → Transition code allowed m b → b.status ≡ Ready → measure b < measure m
  falls_by m b (advances a cs lt) e = omega arith
  falls_by m b (reads a z rs lt h) e = omega arith
  falls_by m b (sends_one z lt) e = omega arith
  falls_by m b (goes_forward t lt l) e = omega arith
  falls_by m b (goes_back t lt l) e =
      let h : suc (allowed - suc m.turns) ≤ allowed - m.turns = omega arith in
      omega (arith, mul-le-mul_right (suc (length code)) h)
  falls_by m b (halts s n) e = absurd (n e)

  pub falls : (m : Machine) → (step code limit allowed m).status ≡ Ready → measure (step code limit allowed m) < measure m
  falls m e = falls_by m (step code limit allowed m) (transition code limit allowed m (was_ready m e)) e

  onward_by : (m b : Machine) → Transition code allowed m b → Onward m b
  onward_by m b (advances a cs lt) = record { turns = omega arith; sends = omega arith }
  onward_by m b (reads a z rs lt h) = record { turns = omega arith; sends = omega arith }
  onward_by m b (sends_one z lt) = record { turns = omega arith; sends = omega (arith, length-append m.sends (z ∷ [])) }
  onward_by m b (goes_forward t lt l) = record { turns = omega arith; sends = omega arith }
  onward_by m b (goes_back t lt l) = record { turns = omega arith; sends = omega arith }
  onward_by m b (halts s n) = record { turns = omega arith; sends = omega arith }

  pub onward_step : (m : Machine) → (step code limit allowed m).status ≡ Ready → Onward m (step code limit allowed m)
  onward_step m e = onward_by m (step code limit allowed m) (transition code limit allowed m (was_ready m e))
