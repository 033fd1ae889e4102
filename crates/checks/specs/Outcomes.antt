-- What passing a draft gives.
use Rattle.std.specs.Prelude.{◌≡◌, Ok, Err, Result}
use Rattle.draft.specs.declared.draft.Draft.{Draft}
use Rattle.statics.specs.declared.rules.Violation.{Violation}
use Rattle.checks.specs.declared.state.Checked.{Checked}

-- the answer alone
abbrev pub outcome_of : Result Checked (Draft × Violation) → Result (Unit {0}) Violation
outcome_of (Ok c) = Ok tt
outcome_of (Err e) = Err e.1

-- the draft is in the state that it passed to, or comes back as it was
abbrev pub Kept : Draft → Result Checked (Draft × Violation) → Type 0
Kept d (Ok c) = c.draft ≡ d
Kept d (Err e) = e.0 ≡ d
