-- A machine beside its line answers every call as the plan does.
use Rattle.std.specs.Prelude.{◌≡◌, ℕ, ◌+◌, ◌<◌, true, false, List, [], ◌∷◌, length, ℤ, pos, Some, None, Ok, Err, nat_lt, slice_index_or}
use Rattle.tosca.specs.Trees.{Program}
use Rattle.aida.specs.declared.instructions.Coded.{Coded}
use Rattle.aida.specs.declared.status.Status.TheVariants.{Ready}
use Rattle.aida.specs.declared.calls.Refusal.{Refusal}
use Rattle.aida.specs.declared.calls.Refusal.TheVariants.{NoRoom, NoSend}
use Rattle.aida.specs.declared.calls.Call.{Call}
use Rattle.aida.specs.declared.calls.Call.TheVariants.{Feed, Run, Take}
use Rattle.aida.specs.declared.calls.Answer.TheVariants.{Fed, Took, Ran}
use Rattle.aida.specs.Machine.{Machine, with_status, started, feed, take, Runs}
use Rattle.aida.specs.Templates.{code}
use Rattle.aida.specs.Refusals.{run_refusal}
use Rattle.aida.specs.Plan.{Reply, Plan, new_plan, readings_waiting, sends_waiting, answers, plan_after}
use Rattle.agreement.specs.Premises.{Checked}
use Rattle.agreement.specs.Simulation.{cell_of, cell_count}

-- a call on the machine m beside a line with these limits, its answer, and the machine after it
pub data Responds (is : List Coded) (reading_limit send_limit : ℕ) (m : Machine) : Call → Reply → Machine → Type 0 where
  feeds : {z : ℤ} → nat_lt (length m.readings) reading_limit ≡ true → Responds is reading_limit send_limit m (Feed z) (Ok Fed) (feed (z ∷ []) m)
  no_room : {z : ℤ} → nat_lt (length m.readings) reading_limit ≡ false → Responds is reading_limit send_limit m (Feed z) (Err NoRoom) m
  takes : {z : ℤ} {zs : List ℤ} → m.sends ≡ z ∷ zs → Responds is reading_limit send_limit m Take (Ok (Took z)) (take 1 m)
  no_send : m.sends ≡ [] → Responds is reading_limit send_limit m Take (Err NoSend) m
  -- a run makes the machine ready first
  runs : {grant : ℕ} {b : Machine} → run_refusal grant m.status m.turns ≡ None → Runs is send_limit (m.turns + grant) (with_status Ready m) b
      → Responds is reading_limit send_limit m (Run grant) (Ok (Ran b.status b.turns)) b
  no_run : {grant : ℕ} {r : Refusal} → run_refusal grant m.status m.turns ≡ Some r → Responds is reading_limit send_limit m (Run grant) (Err r) m

-- calls one after another, with their answers
pub data RespondsAll (is : List Coded) (reading_limit send_limit : ℕ) : Machine → List Call → List Reply → Machine → Type 0 where
  over : {m : Machine} → RespondsAll is reading_limit send_limit m [] [] m
  call : {m b c : Machine} {k : Call} {x : Reply} {ks : List Call} {xs : List Reply}
      → Responds is reading_limit send_limit m k x b → RespondsAll is reading_limit send_limit b ks xs c → RespondsAll is reading_limit send_limit m (k ∷ ks) (x ∷ xs) c

-- whatever the code, every list of calls is answered, and in one way
abbrev pub Answering : Type 0
Answering =
    (is : List Coded) (reading_limit send_limit : ℕ) (m : Machine) (ks : List Call)
    → (xs : List Reply) × (b : Machine) × RespondsAll is reading_limit send_limit m ks xs b

abbrev pub OneAnswering : Type 0
OneAnswering =
    (is : List Coded) (reading_limit send_limit : ℕ) (m b c : Machine) (ks : List Call) (xs ys : List Reply)
    → RespondsAll is reading_limit send_limit m ks xs b → RespondsAll is reading_limit send_limit m ks ys c → (xs ≡ ys) × (b ≡ c)

-- the machine stands as the plan says, where its store held `start` before the start
pub record Stands (start : List ℤ) (p : Plan) (m : Machine) : Type 0 where
  pub status : m.status ≡ p.stop
  pub turns : m.turns ≡ p.turns
  pub readings : m.readings ≡ readings_waiting p
  pub sends : m.sends ≡ sends_waiting p
  pub long : length m.cells ≡ cell_count
  pub cells : (x : ℕ) → x < 64 → slice_index_or m.cells x (pos 0) ≡ cell_of (p.variables x) (slice_index_or start x (pos 0))

-- the routine's machine, started on any store beside a line where these readings wait, answers any calls as the plan does,
-- and then stands as the plan says
abbrev pub AgreesWithPlan : Program ℕ → Type 0
AgreesWithPlan p =
    (start first : List ℤ) → length start ≡ cell_count → (reading_limit send_limit : ℕ) (ks : List Call)
    → (m : Machine) × RespondsAll (code p) reading_limit send_limit (started start first) ks (answers p reading_limit send_limit (new_plan first) ks) m
    × Stands start (plan_after p reading_limit send_limit (new_plan first) ks) m

abbrev pub Agreement : Type 0
Agreement = (p : Program ℕ) → Checked p → AgreesWithPlan p
