-- The plan: what a panel with its line must answer to each call, and what it then holds.
-- Each run is a source run from the beginning with all that was given so far.
use Rattle.std.specs.Prelude.{ℕ, suc, ◌+◌, Bool, true, false, List, [], ◌∷◌, ◌++◌, length, drop, ℤ, Some, None, Ok, Err, Option, Result, nat_lt}
use Rattle.tosca.specs.Trees.{Program}
use Rattle.aida.specs.declared.status.Status.{Status}
use Rattle.aida.specs.declared.status.Status.TheVariants.{Ready}
use Rattle.aida.specs.declared.calls.Refusal.{Refusal}
use Rattle.aida.specs.declared.calls.Refusal.TheVariants.{NoRoom, NoSend}
use Rattle.aida.specs.declared.calls.Call.{Call}
use Rattle.aida.specs.declared.calls.Call.TheVariants.{Feed, Run, Take}
use Rattle.aida.specs.declared.calls.Answer.{Answer}
use Rattle.aida.specs.declared.calls.Answer.TheVariants.{Fed, Took, Ran}
use Rattle.aida.specs.Source.{Given, Variables, Ended, source_run}
use Rattle.aida.specs.Refusals.{run_refusal}

pub record Plan : Type 0 where
  -- the readings accepted, and how many of them are used
  pub accepted : List ℤ
  pub used : ℕ
  -- the sends made, and how many of them are taken
  pub sent : List ℤ
  pub taken : ℕ
  pub turns : ℕ
  pub stop : Status
  pub variables : Variables

-- a plan that starts with these readings waiting
abbrev pub new_plan : List ℤ → Plan
new_plan rs = record { accepted = rs; used = 0; sent = []; taken = 0; turns = 0; stop = Ready; variables = λ x. None }

abbrev pub readings_waiting : Plan → List ℤ
readings_waiting p = drop p.used p.accepted

abbrev pub sends_waiting : Plan → List ℤ
sends_waiting p = drop p.taken p.sent

-- what a call comes to: what it does, or why it is refused
abbrev pub Reply : Type 0
Reply = Result Answer Refusal

-- a reply, and the plan after it
pub record Planned : Type 0 where
  pub answer : Reply
  pub after : Plan

-- a refusal alters nothing
abbrev pub refuse : Refusal → Plan → Planned
refuse r p = record { answer = Err r; after = p }

unfoldable pub feed_if : Bool → ℤ → Plan → Planned
feed_if true z p = record {
  answer = Ok Fed;
  after = record { accepted = p.accepted ++ z ∷ []; used = p.used; sent = p.sent; taken = p.taken; turns = p.turns; stop = p.stop; variables = p.variables };
}
feed_if false z p = refuse NoRoom p

unfoldable pub take_from : List ℤ → Plan → Planned
take_from [] p = refuse NoSend p
take_from (z ∷ zs) p = record {
  answer = Ok (Took z);
  after = record { accepted = p.accepted; used = p.used; sent = p.sent; taken = suc p.taken; turns = p.turns; stop = p.stop; variables = p.variables };
}

-- what a run leaves: readings used, sends, turns, stop and variables are those of the source run.
-- A stuck one has none of them; then nothing is altered
unfoldable pub keep : Option Ended → Plan → Planned
keep (Some e) p = record {
  answer = Ok (Ran e.stop e.state.effects.turns);
  after = record {
    accepted = p.accepted;
    used = e.state.effects.used;
    sent = e.state.effects.sent;
    taken = p.taken;
    turns = e.state.effects.turns;
    stop = e.stop;
    variables = e.state.variables;
  };
}
keep None p = record { answer = Ok (Ran p.stop p.turns); after = p }

-- all that was given so far: the readings accepted, the turns and the grant, the sends taken and the send limit
abbrev pub given_so_far : ℕ → Plan → ℕ → Given
given_so_far send_limit p grant = record { readings = p.accepted; turns = p.turns + grant; sends = p.taken + send_limit }

unfoldable pub run_unless : Option Refusal → Program ℕ → Given → Plan → Planned
run_unless (Some r) t g p = refuse r p
run_unless None t g p = keep (source_run t g) p

-- one call, for the routine t and a line with these two limits
unfoldable pub plan : Program ℕ → (reading_limit send_limit : ℕ) → Plan → Call → Planned
plan t reading_limit send_limit p (Feed z) = feed_if (nat_lt (length (readings_waiting p)) reading_limit) z p
plan t reading_limit send_limit p Take = take_from (sends_waiting p) p
plan t reading_limit send_limit p (Run grant) = run_unless (run_refusal grant p.stop p.turns) t (given_so_far send_limit p grant) p

-- calls one after another: their answers, and the plan after them
unfoldable pub answers : Program ℕ → (reading_limit send_limit : ℕ) → Plan → List Call → List Reply
answers t reading_limit send_limit p [] = []
answers t reading_limit send_limit p (k ∷ ks) =
    (plan t reading_limit send_limit p k).answer ∷ answers t reading_limit send_limit (plan t reading_limit send_limit p k).after ks

unfoldable pub plan_after : Program ℕ → (reading_limit send_limit : ℕ) → Plan → List Call → Plan
plan_after t reading_limit send_limit p [] = p
plan_after t reading_limit send_limit p (k ∷ ks) = plan_after t reading_limit send_limit (plan t reading_limit send_limit p k).after ks
