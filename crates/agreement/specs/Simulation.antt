-- The code of a tree does what the source run does.
use Rattle.std.specs.Prelude.{◌≡◌, ℕ, suc, ◌+◌, ◌<◌, ◌≤◌, List, [], ◌∷◌, length, drop, ℤ, pos, Some, None, Option, ◌≢◌, slice_index_or}
use Rattle.std.proofs.Math.Option.{some}
use Rattle.std.proofs.Math.ListN.{get_elem?}
use Rattle.tosca.specs.declared.operators.Value.{Value}
use Rattle.tosca.specs.declared.operators.Cause.{Cause}
use Rattle.tosca.specs.Trees.{Expr, Cmd, Program}
use Rattle.aida.specs.declared.instructions.Coded.{Coded}
use Rattle.aida.specs.declared.status.Status.{Status}
use Rattle.aida.specs.declared.status.Status.TheVariants.{Ready, Faulted}
use Rattle.tosca.specs.Types.{Types}
use Rattle.aida.specs.Values.{number}
use Rattle.aida.specs.Source.{Given, Effects, Variables, Evaluated, value, fault, no_value, eval, State, Outcome, goes_on, stops, stuck, exec, Ended, source_run}
use Rattle.aida.specs.Machine.{Machine, machine, with_status, started, step, Reach, Runs}
use Rattle.aida.specs.Templates.{expr_length, expr_code, cmd_length, cmd_code, code}
use Rattle.statics.specs.Temporaries.{need}
use Rattle.agreement.specs.Premises.{ExprNames, CmdFits}

-- the instructions stand in the code from number p on
abbrev pub Sits : List Coded → ℕ → List Coded → Type 0
Sits code p [] = Unit {0}
Sits code p (i ∷ is) = (get_elem? code p ≡ some i) × Sits code (suc p) is

-- what the cell of a variable holds: its value, or while it is unset what it did before the start
abbrev pub cell_of : Option Value → ℤ → ℤ
cell_of (Some v) z = number v
cell_of None z = z

abbrev pub cell_count : ℕ
cell_count = 96

-- the cells of the variables, where the store held `start` before the start
pub record Agrees (start : List ℤ) (s : Variables) (cells : List ℤ) : Type 0 where
  pub long : length cells ≡ cell_count
  pub holds : (x : ℕ) → x < 64 → slice_index_or cells x (pos 0) ≡ cell_of (s x) (slice_index_or start x (pos 0))

-- the cells below c are as they were
pub record Keeps (c : ℕ) (old new : List ℤ) : Type 0 where
  pub long : length new ≡ length old
  pub keeps : (k : ℕ) → k < c → slice_index_or new k (pos 0) ≡ slice_index_or old k (pos 0)

-- the machine m, ready at another place
abbrev pub placed : Machine → ℕ → ℤ → List ℤ → Machine
placed m p a cells = machine p a cells m.turns Ready m.readings m.sends

-- where the code of an expression leads the machine m, from a: to q with the value in the accumulator, or to its fault.
-- Turns, readings and sends are as they were, and so are the cells below c. Of a stuck expression nothing is said
pub data ExprRuns (code : List Coded) (limit allowed : ℕ) (m : Machine) (c : ℕ) (cells : List ℤ) (a : Machine) (q : ℕ) : Evaluated → Type 0 where
  yields : {v : Value} (new : List ℤ) → Reach code limit allowed a (placed m q (number v) new) → Keeps c cells new → ExprRuns code limit allowed m c cells a q (value v)
  faults : {k : Cause} {n p : ℕ} {z : ℤ} (new : List ℤ) → Reach code limit allowed a (placed m p z new)
      → step code limit allowed (placed m p z new) ≡ with_status (Faulted k n) (placed m p z new) → Keeps c cells new → ExprRuns code limit allowed m c cells a q (fault k n)
  unsaid : ExprRuns code limit allowed m c cells a q no_value

-- wherever the code of an expression stands, with its temporaries among the cells from c on
abbrev pub ExprSimulation : Type 0
ExprSimulation =
    (code : List Coded) (limit allowed : ℕ) (m : Machine) (start : List ℤ) (s : Variables) (e : Expr ℕ) (c p : ℕ) (a : ℤ) (cells : List ℤ)
    → Sits code p (expr_code c e) → ExprNames e → 64 ≤ c → c + need e ≤ cell_count → Agrees start s cells
    → ExprRuns code limit allowed m c cells (placed m p a cells) (p + expr_length e) (eval s e)

-- the machine of a run that is given the readings, at p, where the source run has had these effects
abbrev pub beside : List ℤ → ℕ → ℤ → List ℤ → Effects → Machine
beside readings p a cells d = machine p a cells d.turns Ready (drop d.used readings) d.sent

-- where the code of a command leads from the machine a, by what its source run comes to
pub data CmdRuns (code : List Coded) (g : Given) (start : List ℤ) (a : Machine) (q : ℕ) : Outcome → Type 0 where
  passes : {s : State} (z : ℤ) (cells : List ℤ) → Reach code g.sends g.turns a (beside g.readings q z cells s.effects) → Agrees start s.variables cells → CmdRuns code g start a q (goes_on s)
  halts : {t : Status} {s : State} (p : ℕ) (z : ℤ) (cells : List ℤ) → (t ≢ Ready) → Reach code g.sends g.turns a (beside g.readings p z cells s.effects)
      → step code g.sends g.turns (beside g.readings p z cells s.effects) ≡ with_status t (beside g.readings p z cells s.effects) → Agrees start s.variables cells → CmdRuns code g start a q (stops t s)
  unsaid_cmd : CmdRuns code g start a q stuck

-- wherever the code of a command stands, with the limits of the source run
abbrev pub CmdSimulation : Type 0
CmdSimulation =
    (code : List Coded) (g : Given) (start : List ℤ) (ty : Types) (b : Cmd ℕ) (p : ℕ) (a : ℤ) (cells : List ℤ) (s : State)
    → Sits code p (cmd_code ty p b) → CmdFits b → Agrees start s.variables cells
    → CmdRuns code g start (beside g.readings p a cells s.effects) (p + cmd_length b) (exec ty g b s)

-- the run of a routine's code ends as its source run does, with cells that agree
pub record RunsAs (p : Program ℕ) (g : Given) (start : List ℤ) (e : Ended) : Type 0 where
  pub counter : ℕ
  pub accumulator : ℤ
  pub cells : List ℤ
  pub runs : Runs (code p) g.sends g.turns (started start g.readings) (with_status e.stop (beside g.readings counter accumulator cells e.state.effects))
  pub agrees : Agrees start e.state.variables cells

abbrev pub RoutineSimulation : Type 0
RoutineSimulation =
    (p : Program ℕ) (g : Given) (start : List ℤ) (e : Ended) → CmdFits p.body → length start ≡ cell_count → source_run p g ≡ Some e → RunsAs p g start e
