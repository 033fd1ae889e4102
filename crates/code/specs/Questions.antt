-- The questions that a code table is asked before it is mounted: 41, 42 and 43, in this order.
use Rattle.std.specs.Prelude.{ℕ, Bool, cond, ◌&&◌, List, map, length, take, pos, is_some, nat_le}
use Rattle.std.specs.List.{list_all}
use Rattle.std.specs.Option.{unwrap_or}
use Rattle.aida.specs.declared.instructions.Instruction.TheVariants.{LoadConst}
use Rattle.aida.specs.declared.instructions.Coded.{Coded}
use Rattle.aida.specs.Templates.{coded}
use Rattle.aida.specs.TemplateLaws.{all_addressed}
use Rattle.code.specs.declared.table.CodeEntry.{CodeEntry}
use Rattle.code.specs.CodeTable.{coded_of}

-- what stands where there is no instruction
abbrev pub blank_coded : Coded
blank_coded = coded 0 (LoadConst (pos 0))

-- the instructions of entries; once 42 has a yes, each says one
abbrev pub said : CodeEntry → Coded
said e = unwrap_or (coded_of e) blank_coded

abbrev pub said_by_all : List CodeEntry → List Coded
said_by_all es = map said es

-- 41, of a table with room for cap entries: the count is at most 2,048 and within the table
abbrev pub counted : ℕ → ℕ → Bool
counted cap n = nat_le n 2048 && nat_le n cap

-- 42: every entry has a known kind, and a known operator if its kind has one
abbrev pub known : CodeEntry → Bool
known e = is_some (coded_of e)

abbrev pub are_known : List CodeEntry → Bool
are_known = list_all known

-- 43: every target is at most the count n, and every cell at most 95
abbrev pub are_within : ℕ → List CodeEntry → Bool
are_within n es = all_addressed n (said_by_all es)

pub data Mounting : Type 0 where
  mounts : Mounting
  refused : ℕ → Mounting

-- the questions of the entries that count
abbrev pub entries_mount : ℕ → List CodeEntry → Mounting
entries_mount n es = cond (are_known es) (cond (are_within n es) mounts (refused 43)) (refused 42)

-- what mounting a table with its count gives: yes, or the first question with a no
abbrev pub mounting : List CodeEntry → ℕ → Mounting
mounting t n = cond (counted (length t) n) (entries_mount n (take n t)) (refused 41)
