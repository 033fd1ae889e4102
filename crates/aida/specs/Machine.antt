-- Aida's machine: its state with the readings and sends that wait on its line, one step, and runs.
use Rattle.std.specs.Prelude.{◌≡◌, ℕ, suc, Bool, true, false, not, List, [], ◌∷◌, ◌++◌, length, drop, ℤ, pos, Ok, Err, Result, nat_le, nat_lt, slice_index_or, slice_set}
use Rattle.std.proofs.Math.Option.{Option, none, some}
use Rattle.std.proofs.Math.ListN.{get_elem?}
use Rattle.tosca.specs.declared.operators.Cause.{Cause}
use Rattle.tosca.specs.Arithmetic.{unary, binary, bit, is_zero}
use Rattle.aida.specs.declared.instructions.Instruction.{Instruction}
use Rattle.aida.specs.declared.instructions.Instruction.TheVariants.{LoadConst, LoadVar, Store, UnaryOp, BinaryOp, Input, InputBit, Output, Jump, Goto}
use Rattle.aida.specs.declared.instructions.Coded.{Coded}
use Rattle.aida.specs.declared.status.Status.{Status}
use Rattle.aida.specs.declared.status.Status.TheVariants.{Ready, Waiting, Held, Spent, Finished, Faulted}

pub record Machine : Type 0 where
  pub counter : ℕ
  pub accumulator : ℤ
  -- the store
  pub cells : List ℤ
  -- spent over all runs
  pub turns : ℕ
  pub status : Status
  -- waiting on the line
  pub readings : List ℤ
  pub sends : List ℤ

abbrev pub machine : ℕ → ℤ → List ℤ → ℕ → Status → List ℤ → List ℤ → Machine
machine p a cs t s rs zs = record { counter = p; accumulator = a; cells = cs; turns = t; status = s; readings = rs; sends = zs }

abbrev pub with_status : Status → Machine → Machine
with_status s m = machine m.counter m.accumulator m.cells m.turns s m.readings m.sends

-- a machine as it starts on a store, with these readings waiting
abbrev pub started : List ℤ → List ℤ → Machine
started store readings = machine 0 (pos 0) store 0 Ready readings []

-- its line is fed readings, and the first k sends are taken from it
abbrev pub feed : List ℤ → Machine → Machine
feed rs m = machine m.counter m.accumulator m.cells m.turns m.status (m.readings ++ rs) m.sends

abbrev pub take : ℕ → Machine → Machine
take k m = machine m.counter m.accumulator m.cells m.turns m.status m.readings (drop k m.sends)

-- on to the next instruction, with a in the accumulator
abbrev pub next : ℤ → Machine → Machine
next a m = machine (suc m.counter) a m.cells m.turns Ready m.readings m.sends

-- what an operator at the node n comes to
unfoldable pub operated : ℕ → Machine → Result ℤ Cause → Machine
operated n m (Ok z) = next z m
operated n m (Err c) = with_status (Faulted c n) m

-- the first reading that waits goes into the accumulator, as f has it
unfoldable pub receive : (ℤ → ℤ) → Machine → List ℤ → Machine
receive f m [] = with_status Waiting m
receive f m (z ∷ rs) = machine (suc m.counter) (f z) m.cells m.turns Ready rs m.sends

-- the accumulator is sent, if there is room
unfoldable pub send_if : Bool → Machine → Machine
send_if true m = machine (suc m.counter) m.accumulator m.cells m.turns Ready m.readings (m.sends ++ m.accumulator ∷ [])
send_if false m = with_status Held m

-- a transfer that goes to the target t; one that goes back, not after itself, costs a turn if one is left
unfoldable pub transfer : (back left : Bool) → ℕ → Machine → Machine
transfer false left t m = machine t m.accumulator m.cells m.turns Ready m.readings m.sends
transfer true true t m = machine t m.accumulator m.cells (suc m.turns) Ready m.readings m.sends
transfer true false t m = with_status Spent m

-- a jump goes if the accumulator is 0
unfoldable pub jump_if : Bool → Machine → Machine → Machine
jump_if true gone m = gone
jump_if false gone m = next m.accumulator m

-- any value but 0 is T
abbrev pub as_bit : ℤ → ℤ
as_bit z = bit (not (is_zero z))

abbrev pub go_to : ℕ → ℕ → Machine → Machine
go_to allowed t m = transfer (nat_le t m.counter) (nat_lt m.turns allowed) t m

-- an instruction of the node n, where at most `limit` sends may wait, and turns are allowed up to `allowed` over all runs
unfoldable pub perform : (limit allowed : ℕ) → Machine → Instruction → ℕ → Machine
perform limit allowed m (LoadConst v) n = next v m
perform limit allowed m (LoadVar c) n = next (slice_index_or m.cells c (pos 0)) m
perform limit allowed m (Store c) n =
    machine (suc m.counter) m.accumulator (slice_set m.cells c m.accumulator) m.turns Ready m.readings m.sends
perform limit allowed m (UnaryOp o) n = operated n m (unary o m.accumulator)
perform limit allowed m (BinaryOp o c) n = operated n m (binary o m.accumulator (slice_index_or m.cells c (pos 0)))
perform limit allowed m Input n = receive (λ z. z) m m.readings
perform limit allowed m InputBit n = receive as_bit m m.readings
perform limit allowed m Output n = send_if (nat_lt (length m.sends) limit) m
perform limit allowed m (Jump t) n = jump_if (is_zero m.accumulator) (go_to allowed t m) m
perform limit allowed m (Goto t) n = go_to allowed t m

-- what a machine does hangs on its status and the instruction at its counter together: only a ready one acts
unfoldable pub act : (limit allowed : ℕ) → Machine → Status → Option Coded → Machine
act limit allowed m Ready none = with_status Finished m
act limit allowed m Ready (some i) = perform limit allowed m i.instruction i.node
act limit allowed m Waiting i = m
act limit allowed m Held i = m
act limit allowed m Spent i = m
act limit allowed m Finished i = m
act limit allowed m (Faulted c n) i = m

unfoldable pub step : List Coded → (limit allowed : ℕ) → Machine → Machine
step code limit allowed m = act limit allowed m m.status (get_elem? code m.counter)

-- c is reached from a by steps after which the machine is ready
pub data Reach (code : List Coded) (limit allowed : ℕ) : Machine → Machine → Type 0 where
  here : {a : Machine} → Reach code limit allowed a a
  on : {a c : Machine} → (step code limit allowed a).status ≡ Ready → Reach code limit allowed (step code limit allowed a) c → Reach code limit allowed a c

-- a run from a ends in b: its last step leaves the machine not ready
pub record Runs (code : List Coded) (limit allowed : ℕ) (a b : Machine) : Type 0 where
  pub last : Machine
  pub reach : Reach code limit allowed a last
  pub ends : step code limit allowed last ≡ b
  pub stopped : b.status ≡ Ready → ⊥
