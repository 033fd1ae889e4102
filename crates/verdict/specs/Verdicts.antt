-- The verdict on a text: what reading says if it refuses, else what checking says, with the place of the node at fault.
use Rattle.std.specs.Prelude.{◌≡◌, ℕ, List, length, get_or, Ok, Err, Result, slice_index_or}
use Rattle.tosca.specs.declared.table.Entry.{Entry}
use Rattle.tosca.specs.Table.{blank}
use Rattle.tosca.specs.Decode.{program_of}
use Rattle.grammar.specs.Listing.{Listing}
use Rattle.grammar.specs.Limits.{Outcome, accepted, refused, unended}
use Rattle.lexer.specs.Lexemes.{number_of}
use Rattle.reader.specs.Reading.{outcome}
use Rattle.statics.specs.declared.rules.Violation.{Violation}
use Rattle.statics.specs.Checking.{rule_number, checking}
use Rattle.verdict.specs.declared.rejection.Rejection.{Rejection}
use Rattle.verdict.specs.declared.rejection.Rejection.TheVariants.{Unread, Unsound}

-- a number and a place in the text
pub record Verdict : Type 0 where
  pub number : ℕ
  pub place : ℕ

abbrev pub said : ℕ → ℕ → Verdict
said n p = record { number = n; place = p }

-- of a routine with the entries t: zeros, or the rule and the place of the node at fault
abbrev pub checked : List Entry → Result (Unit {0}) Violation → Verdict
checked t (Ok u) = said 0 0
checked t (Err v) = said (rule_number v.rule) (get_or t v.node blank).place

abbrev pub by_outcome : Outcome Listing → Verdict
by_outcome (accepted s) = checked s.entries (checking (program_of s.entries))
by_outcome (refused n p) = said n p
by_outcome unended = said 0 0

-- of a text, read into a table of 1,024 entries
unfoldable pub verdict_of : List ℕ → Verdict
verdict_of bs = by_outcome (outcome 1024 bs)

abbrev pub rejected_number : Rejection → ℕ
rejected_number (Unread e) = number_of e.question
rejected_number (Unsound v e) = rule_number v.rule

abbrev pub rejected_place : Rejection → ℕ
rejected_place (Unread e) = e.place
rejected_place (Unsound v e) = e.place

-- what a judgement says of the text
abbrev pub Judged : List ℕ → Result ℕ Rejection → Type 0
Judged bs (Ok n) = (s : Listing) × (outcome 1024 bs ≡ accepted s) × (length s.entries ≡ n) × (checking (program_of s.entries) ≡ Ok tt)
Judged bs (Err (Unread e)) = outcome 1024 bs ≡ refused (number_of e.question) e.place
Judged bs (Err (Unsound v e)) = (s : Listing) × (outcome 1024 bs ≡ accepted s) × (checking (program_of s.entries) ≡ Err v) × (e ≡ slice_index_or s.entries v.node blank)
