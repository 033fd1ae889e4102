-- The machine, going on from where it stopped, answers as the plan does, which begins anew at each run.
use Rattle.std.proofs.Common.{◌≡◌, ℕ, suc, ◌+◌, ◌<◌, ◌≤◌, Bool, List, [], ◌∷◌, ◌++◌, length, drop, ℤ, pos, Some, Ok, Err, Option, sym, refl, ap, ◌∙◌, subst, ap₂, arith, length-append, length-drop}
use Rattle.std.proofs.lemmas.List.{drop-append-le, append_assoc, append-nil}
use Rattle.tosca.specs.Trees.{Program}
use Rattle.aida.specs.declared.status.Status.{Status}
use Rattle.aida.specs.declared.status.Status.TheVariants.{Ready, Finished}
use Rattle.aida.specs.declared.calls.Refusal.{Refusal}
use Rattle.aida.specs.declared.calls.Refusal.TheVariants.{NoRoom, NoSend}
use Rattle.aida.specs.declared.calls.Call.{Call}
use Rattle.aida.specs.declared.calls.Answer.TheVariants.{Fed, Took, Ran}
use Rattle.tosca.specs.Types.{type_in}
use Rattle.aida.specs.Source.{Given, Effects, initial, Outcome, Ended, ended, source_run}
use Rattle.aida.specs.Machine.{Machine, machine, with_status, started, feed, take, Reach, here, Runs}
use Rattle.aida.specs.Templates.{cmd_length, code}
use Rattle.aida.specs.Plan.{Reply, Plan, new_plan, sends_waiting, Planned, feed_if, take_from, keep, given_so_far, run_unless, plan, answers, plan_after}
use Rattle.agreement.specs.Premises.{Checked}
use Rattle.agreement.specs.Simulation.{Agrees, beside, CmdRuns, passes, halts, unsaid_cmd, RunsAs, RoutineSimulation}
use Rattle.agreement.specs.Agreement.{Responds, feeds, no_room, takes, no_send, runs, no_run, RespondsAll, over, call, Stands, Agreement}
use Rattle.aida.proofs.Steps.{finished_not}
use Rattle.aida.proofs.Runs.{goes_on, take_runs, onward, at_last, one_end}
use Rattle.aida.proofs.Codes.{step_end, length_cmd_code}
use Rattle.agreement.proofs.Sits.{sits_whole}
use Rattle.agreement.proofs.Cmds.{drop_next, cmd_runs}
use Rattle.agreement.proofs.Responses.{answering}
use Rattle.aida.proofs.Loops.{bounded}
use Rattle.agreement.proofs.Typing.{source_ends}

-- The run of the code, from the source run

runs_as : (p : Program ℕ) (g : Given) (start : List ℤ) (e : Ended) (o : Outcome) → CmdRuns (code p) g start (started start g.readings) (cmd_length p.body) o → ended o ≡ Some e → RunsAs p g start e
unfolding ended
runs_as p g start e o (passes {s = s} z cells r h) q =
    let f : record { stop = Finished; state = s } ≡ e = cc in
    let m = beside g.readings (cmd_length p.body) z cells s.effects in
    subst (RunsAs p g start) f
    (record {
      counter = cmd_length p.body;
      accumulator = z;
      cells = cells;
      runs = record { last = m; reach = r; ends = step_end (code p) g.sends g.turns m refl (sym (length_cmd_code (type_in p.decls) 0 p.body)); stopped = finished_not };
      agrees = h;
    })
runs_as p g start e o (halts {t = t} {s = s} c z cells n r w h) q =
    let f : record { stop = t; state = s } ≡ e = cc in
    subst (RunsAs p g start) f
    (record {
      counter = c;
      accumulator = z;
      cells = cells;
      runs = record { last = beside g.readings c z cells s.effects; reach = r; ends = w; stopped = n };
      agrees = h;
    })
runs_as p g start e o unsaid_cmd q = cc

start_agrees : (start : List ℤ) → length start ≡ 96 → Agrees start initial.variables start
start_agrees start long = record { long = long; holds = λ x h. refl }

pub routine_simulation : RoutineSimulation
routine_simulation p g start e fits long q =
    runs_as p g start e _
    (cmd_runs (code p) g start (type_in p.decls) p.body 0 (cmd_length p.body) (pos 0) start initial (sits_whole (code p)) (omega arith) fits (start_agrees start long)) q

-- The agreement

abbrev effects_of : Plan → Effects
effects_of pl = record { used = pl.used; sent = pl.sent; turns = pl.turns }

-- the machine that the plan stands for, at some place
abbrev standing : Plan → ℕ → ℤ → List ℤ → Machine
standing pl c a cells = take pl.taken (beside pl.accepted c a cells (effects_of pl))

module _ (p : Program ℕ) (checked : Checked p) (start : List ℤ) (long : length start ≡ 96) (rl sl : ℕ) where
  -- the plan's machine was reached from the start with what had been given at the last run
  record Inv (pl : Plan) (m : Machine) : Type 0 where
    counter : ℕ
    accumulator : ℤ
    cells : List ℤ
    is : m ≡ with_status pl.stop (standing pl counter accumulator cells)
    room : ℕ
    granted : ℕ
    given : List ℤ
    extra : List ℤ
    accepted : pl.accepted ≡ given ++ extra
    few : room ≤ pl.taken + sl
    reach : Reach (code p) room granted (started start given) (beside given counter accumulator cells (effects_of pl))
    used : pl.used ≤ length given
    taken : pl.taken ≤ length pl.sent
    agrees : Agrees start pl.variables cells

  abbrev agrees_to : Planned → Reply → Machine → Type 0
  agrees_to t x m = (x ≡ t.answer) × Inv t.after m

  self : {pl : Plan} {m : Machine} (v : Inv pl m) → Inv pl (with_status pl.stop (standing pl v.counter v.accumulator v.cells))
  self v = record {
    counter = v.counter;
    accumulator = v.accumulator;
    cells = v.cells;
    is = refl;
    room = v.room;
    granted = v.granted;
    given = v.given;
    extra = v.extra;
    accepted = v.accepted;
    few = v.few;
    reach = v.reach;
    used = v.used;
    taken = v.taken;
    agrees = v.agrees;
  }

  abbrev fed_plan : Plan → ℤ → Plan
  fed_plan pl z = record { accepted = pl.accepted ++ z ∷ []; used = pl.used; sent = pl.sent; taken = pl.taken; turns = pl.turns; stop = pl.stop; variables = pl.variables }

  abbrev taken_plan : Plan → Plan
  taken_plan pl = record { accepted = pl.accepted; used = pl.used; sent = pl.sent; taken = suc pl.taken; turns = pl.turns; stop = pl.stop; variables = pl.variables }

  used_all : {pl : Plan} {m : Machine} → Inv pl m → pl.used ≤ length pl.accepted
  used_all {pl} v = omega (arith, v.used, ap length v.accepted, length-append v.given v.extra)

  after_feed : (pl : Plan) {m : Machine} (v : Inv pl m) (z : ℤ) → Inv (fed_plan pl z) (feed (z ∷ []) (with_status pl.stop (standing pl v.counter v.accumulator v.cells)))
  after_feed pl v z = record {
    counter = v.counter;
    accumulator = v.accumulator;
    cells = v.cells;
    is = ap (λ (rs : List ℤ). machine v.counter v.accumulator v.cells pl.turns pl.stop rs (drop pl.taken pl.sent)) (sym (drop-append-le pl.used pl.accepted (z ∷ []) (used_all v)));
    room = v.room;
    granted = v.granted;
    given = v.given;
    extra = v.extra ++ z ∷ [];
    accepted = ap (λ (l : List ℤ). l ++ z ∷ []) v.accepted ∙ append_assoc v.given v.extra (z ∷ []);
    few = v.few;
    reach = v.reach;
    used = v.used;
    taken = v.taken;
    agrees = v.agrees;
  }

  drop_one : (k : ℕ) (l : List ℤ) (z : ℤ) (zs : List ℤ) → drop k l ≡ z ∷ zs → drop 1 (drop k l) ≡ drop (suc k) l
  drop_one k l z zs e = ap (drop 1) e ∙ sym (drop_next l k z zs e)

  some_left : (k : ℕ) (l : List ℤ) (z : ℤ) (zs : List ℤ) → drop k l ≡ z ∷ zs → k < length l
  some_left k l z zs e = omega (arith, ap length e, length-drop k l)

  on_take : (pl : Plan) {m : Machine} (v : Inv pl m) (z : ℤ) (zs : List ℤ) → drop pl.taken pl.sent ≡ z ∷ zs
      → agrees_to (take_from (sends_waiting pl) pl) (Ok (Took z)) (take 1 (with_status pl.stop (standing pl v.counter v.accumulator v.cells)))
  unfolding take_from
  on_take pl v z zs e =
      subst (λ (l : List ℤ). agrees_to (take_from l pl) (Ok (Took z)) (take 1 (with_status pl.stop (standing pl v.counter v.accumulator v.cells)))) (sym e) (
        refl,
        record {
          counter = v.counter;
          accumulator = v.accumulator;
          cells = v.cells;
          is = ap (λ (zs : List ℤ). machine v.counter v.accumulator v.cells pl.turns pl.stop (drop pl.used pl.accepted) zs) (drop_one pl.taken pl.sent z zs e);
          room = v.room;
          granted = v.granted;
          given = v.given;
          extra = v.extra;
          accepted = v.accepted;
          few = omega (arith, v.few);
          reach = v.reach;
          used = v.used;
          taken = some_left pl.taken pl.sent z zs e;
          agrees = v.agrees;
        },
      )

  on_run : (pl : Plan) {m : Machine} (v : Inv pl m) (n : ℕ) (b : Machine) (e : Ended) → source_run p (given_so_far sl pl n) ≡ Some e
      → Runs (code p) sl (pl.turns + n) (standing pl v.counter v.accumulator v.cells) b
      → agrees_to (keep (source_run p (given_so_far sl pl n)) pl) (Ok (Ran b.status b.turns)) b
  unfolding keep
  on_run pl v n b e q r =
      let g = given_so_far sl pl n in
      let C = routine_simulation p g start e checked.fits long q in
      let before : Machine = beside v.given v.counter v.accumulator v.cells (effects_of pl) in
      let now : Machine = beside pl.accepted v.counter v.accumulator v.cells (effects_of pl) in
      let c : Machine = with_status e.stop (beside pl.accepted C.counter C.accumulator C.cells e.state.effects) in
      let whole : Runs (code p) (pl.taken + sl) (pl.turns + n) (feed v.extra (started start v.given)) c =
      subst (λ (l : List ℤ). Runs (code p) (pl.taken + sl) (pl.turns + n) (started start l) c) v.accepted C.runs in
      let same_lists : drop pl.used v.given ++ v.extra ≡ drop pl.used pl.accepted =
      sym (drop-append-le pl.used v.given v.extra v.used) ∙ ap (drop pl.used) (sym v.accepted) in
      let rest : Runs (code p) (pl.taken + sl) (pl.turns + n) now c =
      subst (λ (l : List ℤ). Runs (code p) (pl.taken + sl) (pl.turns + n) (machine v.counter v.accumulator v.cells pl.turns Ready l pl.sent) c) same_lists
      (goes_on v.extra {b = before} refl v.few v.reach (omega arith) whole) in
      let grown : length pl.sent ≤ length e.state.effects.sent =
      subst (λ (x : Machine). length pl.sent ≤ length x.sends) (at_last {a = now} refl rest) (onward (code p) (pl.taken + sl) (pl.turns + n) {a = now} rest.reach).sends in
      let same : b ≡ take pl.taken c = one_end (code p) sl (pl.turns + n) (standing pl v.counter v.accumulator v.cells) b (take pl.taken c) r (take_runs pl.taken sl (pl.turns + n) refl v.taken rest) in
      subst (λ (o : Option Ended). agrees_to (keep o pl) (Ok (Ran b.status b.turns)) b) (sym q) (
        ap₂ {A = Status} {B = ℕ} {C = Reply} (λ s n. Ok (Ran s n)) (ap (λ (x : Machine). x.status) same) (ap (λ (x : Machine). x.turns) same),
        record {
          counter = C.counter;
          accumulator = C.accumulator;
          cells = C.cells;
          is = same;
          room = pl.taken + sl;
          granted = pl.turns + n;
          given = pl.accepted;
          extra = [];
          accepted = sym (append-nil pl.accepted);
          few = omega arith;
          reach = subst (Reach (code p) (pl.taken + sl) (pl.turns + n) (started start pl.accepted)) (at_last {a = started start pl.accepted} refl C.runs) C.runs.reach;
          used = (bounded p g e q).used;
          taken = omega (arith, v.taken);
          agrees = C.agrees;
        },
      )

  on_call : (pl : Plan) {m : Machine} (v : Inv pl m) (k : Call) (x : Reply) (b : Machine) → Responds (code p) rl sl (with_status pl.stop (standing pl v.counter v.accumulator v.cells)) k x b → agrees_to (plan p rl sl pl k) x b
  unfolding plan feed_if take_from run_unless
  on_call pl v k x b (feeds {z} e) =
      subst (λ (c : Bool). agrees_to (feed_if c z pl) (Ok Fed) (feed (z ∷ []) (with_status pl.stop (standing pl v.counter v.accumulator v.cells)))) (sym e) (refl, after_feed pl v z)
  on_call pl v k x b (no_room {z} e) =
      subst (λ (c : Bool). agrees_to (feed_if c z pl) (Err NoRoom) (with_status pl.stop (standing pl v.counter v.accumulator v.cells))) (sym e) (refl, self v)
  on_call pl v k x b (takes {z} {zs} e) = on_take pl v z zs e
  on_call pl v k x b (no_send e) =
      subst (λ (l : List ℤ). agrees_to (take_from l pl) (Err NoSend) (with_status pl.stop (standing pl v.counter v.accumulator v.cells))) (sym e) (refl, self v)
  on_call pl v k x b (runs {grant = n} {b = c} e r) =
      let s = source_ends p checked (given_so_far sl pl n) in
      subst (λ (o : Option Refusal). agrees_to (run_unless o p (given_so_far sl pl n) pl) (Ok (Ran c.status c.turns)) c) (sym e) (on_run pl v n c s.0 s.1 r)
  on_call pl v k x b (no_run {grant = n} {r = r} e) =
      subst (λ (o : Option Refusal). agrees_to (run_unless o p (given_so_far sl pl n) pl) (Err r) (with_status pl.stop (standing pl v.counter v.accumulator v.cells))) (sym e) (refl, self v)

  all_agree : {m b : Machine} {ks : List Call} {xs : List Reply} (pl : Plan) → Inv pl m → RespondsAll (code p) rl sl m ks xs b → (xs ≡ answers p rl sl pl ks) × Inv (plan_after p rl sl pl ks) b
  unfolding answers plan_after
  all_agree pl v over = (refl, v)
  all_agree pl v (call {b = b} {k = k} {x = x} {xs = xs} d s) =
      let h = on_call pl v k x b (subst (λ (y : Machine). Responds (code p) rl sl y k x b) v.is d) in
      let r = all_agree (plan p rl sl pl k).after h.1 s in
      (ap₂ {A = Reply} {B = List Reply} {C = List Reply} (λ y ys. y ∷ ys) h.0 r.0, r.1)

  first_inv : (first : List ℤ) → Inv (new_plan first) (started start first)
  first_inv first = record {
    counter = 0;
    accumulator = pos 0;
    cells = start;
    is = refl;
    room = 0;
    granted = 0;
    given = first;
    extra = [];
    accepted = sym (append-nil first);
    few = omega arith;
    reach = here;
    used = omega arith;
    taken = omega arith;
    agrees = start_agrees start long;
  }

  stands : (pl : Plan) (m : Machine) → Inv pl m → Stands start pl m
  stands pl m v =
      subst (Stands start pl) (sym v.is) (record { status = refl; turns = refl; readings = refl; sends = refl; long = v.agrees.long; cells = v.agrees.holds })

pub agreement : Agreement
agreement p checked start first long rl sl ks =
    let r = answering (code p) rl sl (started start first) ks in
    let a = all_agree p checked start long rl sl (new_plan first) (first_inv p checked start long rl sl first) r.2 in (
      r.1,
      subst (λ (xs : List Reply). RespondsAll (code p) rl sl (started start first) ks xs r.1) a.0 r.2,
      stands p checked start long rl sl _ r.1 a.1,
    )
