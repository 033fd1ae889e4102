-- Why a call is refused, and the numbers of the refusals.
use Rattle.std.specs.Prelude.{ℕ, ◌+◌, Bool, true, false, cond, Some, None, Option, nat_lt}
use Rattle.aida.specs.declared.status.Status.{Status}
use Rattle.aida.specs.declared.status.Status.TheVariants.{Ready, Waiting, Held, Spent, Finished, Faulted}
use Rattle.aida.specs.declared.calls.Refusal.{Refusal}
use Rattle.aida.specs.declared.calls.Refusal.TheVariants.{NoRoom, NoSend, GrantTooLarge, Ended, TooManyTurns}

abbrev pub refusal_number : Refusal → ℕ
refusal_number NoRoom = 51
refusal_number NoSend = 52
refusal_number GrantTooLarge = 61
refusal_number Ended = 62
refusal_number TooManyTurns = 63

abbrev pub max_grant : ℕ
max_grant = 65535

abbrev pub max_turns : ℕ
max_turns = 4294967295

abbrev pub has_ended : Status → Bool
has_ended Ready = false
has_ended Waiting = false
has_ended Held = false
has_ended Spent = false
has_ended Finished = true
has_ended (Faulted c n) = true

-- the first no to a run with this grant, after this stop and these turns
unfoldable pub run_refusal : ℕ → Status → ℕ → Option Refusal
run_refusal grant stop turns =
    cond (nat_lt max_grant grant) (Some GrantTooLarge) (cond (has_ended stop) (Some Ended) (cond (nat_lt max_turns (turns + grant)) (Some TooManyTurns) None))
