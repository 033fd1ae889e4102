-- A routine that passes the check: its code's targets and cells exist, and its machine answers every call as the plan does.
use Rattle.std.specs.Prelude.{◌≡◌, ◌*◌, ◌≤◌, true, List, length, None, Ok, ◌≢◌}
use Rattle.tosca.specs.declared.table.Entry.{Entry}
use Rattle.tosca.specs.Decode.{program_of}
use Rattle.draft.specs.Forming.{is_formed}
use Rattle.statics.specs.Checking.{checking}
use Rattle.aida.specs.Source.{Given, source_run}
use Rattle.aida.specs.Templates.{code}
use Rattle.aida.specs.TemplateLaws.{all_addressed}
use Rattle.agreement.specs.Agreement.{AgreesWithPlan}

-- a formed table whose routine the check passes
pub record Passed (t : List Entry) : Type 0 where
  pub formed : is_formed t ≡ true
  pub passes : checking (program_of t) ≡ Ok tt

-- its code's targets and cells exist
abbrev pub PassedCode : Type 0
PassedCode = (t : List Entry) → Passed t → all_addressed (length (code (program_of t))) (code (program_of t)) ≡ true

-- at most two instructions an entry, of any formed table
abbrev pub FewInstructions : Type 0
FewInstructions = (t : List Entry) → is_formed t ≡ true → length (code (program_of t)) ≤ 2 * length t

-- it is never stuck
abbrev pub PassedRuns : Type 0
PassedRuns = (t : List Entry) → Passed t → (g : Given) → source_run (program_of t) g ≢ None

-- its machine answers any calls as the plan does
abbrev pub PassedAgreement : Type 0
PassedAgreement = (t : List Entry) → Passed t → AgreesWithPlan (program_of t)
