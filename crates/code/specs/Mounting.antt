-- What mounting a table gives: its code, or the first question with a no.
use Rattle.std.specs.Prelude.{◌≡◌, ℕ, ◌-◌, true, List, map, take, drop, replicate, Some, None, Ok, Err, Option, Result}
use Rattle.std.proofs.Math.Option as maybe
use Rattle.aida.specs.declared.instructions.Coded.{Coded}
use Rattle.aida.specs.TemplateLaws.{addressed}
use Rattle.code.specs.declared.table.CodeEntry.{CodeEntry}
use Rattle.code.specs.declared.mounted.Mounted.{Mounted}
use Rattle.code.specs.declared.unmountable.Unmountable.{Unmountable}
use Rattle.code.specs.declared.unmountable.Unmountable.TheVariants.{Count, Entry, Address}
use Rattle.code.specs.CodeTable.{coded_of}
use Rattle.code.specs.Questions.{blank_coded, said_by_all, Mounting, mounts, refused}

-- a refusal's number, as users see it
abbrev pub unmountable_number : Unmountable → ℕ
unmountable_number Count = 41
unmountable_number Entry = 42
unmountable_number Address = 43

-- the program's answer in the words of the questions
abbrev pub answered : {A : Type 0} → Result A Unmountable → Mounting
answered (Ok a) = mounts
answered (Err e) = refused (unmountable_number e)

-- the mounted code
abbrev pub code_of : Mounted → List Coded
code_of m = take m.count m.code

-- it is what the first n entries of the table t say, each of them says an instruction, and blank ones follow
pub record Holds (t : List CodeEntry) (n : ℕ) (m : Mounted) : Type 0 where
  pub count : m.count ≡ n
  pub code : code_of m ≡ said_by_all (take n t)
  pub each : map coded_of (take n t) ≡ map (λ (i : Coded). Some i) (code_of m)
  pub rest : drop n m.code ≡ replicate (2048 - n) blank_coded

abbrev pub Made : List CodeEntry → ℕ → Result Mounted Unmountable → Type 0
Made t n (Ok m) = Holds t n m
Made t n (Err e) = Unit {0}

-- an element of a list as the program has it
abbrev pub found : {A : Type 0} → maybe.Option A → Option A
found maybe.none = None
found (maybe.some a) = Some a

-- the target and the cell of an instruction of the mounted code exist
abbrev pub Within : Mounted → Option Coded → Type 0
Within m None = Unit {0}
Within m (Some i) = addressed m.count i.instruction ≡ true
