-- What opening a table gives: a draft of its entries, or the first question with a no.
use Rattle.std.specs.Prelude.{◌≡◌, ℕ, ◌-◌, List, ◌++◌, take, replicate, Ok, Err, Result}
use Rattle.tosca.specs.declared.table.Entry.{Entry}
use Rattle.tosca.specs.Table.{blank}
use Rattle.tosca.specs.Decode.{program_of}
use Rattle.tosca.specs.Opens.{Opening, opened, refused}
use Rattle.tosca.specs.Trees as tree
use Rattle.draft.specs.declared.draft.Draft.{Draft}
use Rattle.draft.specs.declared.malformed.Malformed.{Malformed}
use Rattle.draft.specs.declared.malformed.Malformed.TheVariants.{Count, Entry as WrongEntry, Part, Arrangement}
use Rattle.draft.specs.OneTree.{OneTree}

-- a refusal's number, as users see it
abbrev pub malformed_number : Malformed → ℕ
malformed_number Count = 11
malformed_number WrongEntry = 12
malformed_number Part = 13
malformed_number Arrangement = 14

-- the routine's entries
abbrev pub entries_of : Draft → List Entry
entries_of d = take d.count d.nodes

-- the routine's tree
abbrev pub tree_of : Draft → tree.Program ℕ
tree_of d = program_of (entries_of d)

-- the program's answer in the words of the questions
abbrev pub answered : {A : Type 0} → Result A Malformed → Opening
answered (Ok a) = opened
answered (Err e) = refused (malformed_number e)

-- a draft has the first n entries of the table t and nothing else, and these list one tree
abbrev pub Made : List Entry → ℕ → Result Draft Malformed → Type 0
Made t n (Ok d) = (d.count ≡ n) × (d.nodes ≡ take n t ++ replicate (1024 - n) blank) × OneTree (take n t) (tree_of d)
Made t n (Err e) = Unit {0}
