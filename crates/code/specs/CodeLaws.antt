-- The table's format loses nothing, and code whose targets and cells exist mounts as it is.
use Rattle.std.specs.Prelude.{◌≡◌, ◌≤◌, true, List, [], ◌∷◌, ◌++◌, map, length, take, pos, Some, None}
use Rattle.tosca.specs.declared.operators.Binary.TheVariants.{Subtract}
use Rattle.aida.specs.declared.instructions.Instruction.TheVariants.{LoadConst, LoadVar, Store, BinaryOp}
use Rattle.aida.specs.declared.instructions.Coded.{Coded}
use Rattle.aida.specs.Templates.{coded}
use Rattle.aida.specs.TemplateLaws.{all_addressed}
use Rattle.code.specs.declared.table.CodeEntry.{CodeEntry}
use Rattle.code.specs.CodeTable.{code_fields, no_code, code_entry, coded_of}
use Rattle.code.specs.Questions.{said_by_all, mounting, mounts}

-- what is written as an entry is read again
pub record Faithful : Type 0 where
  pub said : (i : Coded) → coded_of (code_entry i) ≡ Some i
  pub nothing : coded_of no_code ≡ None

-- a table that begins with the entries of the code `is`
abbrev pub written : List Coded → List CodeEntry → List CodeEntry
written is rest = map code_entry is ++ rest

-- it mounts, and what is mounted is that code
pub record Remounts (is : List Coded) (rest : List CodeEntry) : Type 0 where
  pub mounting_is : mounting (written is rest) (length is) ≡ mounts
  pub code_is : said_by_all (take (length is) (written is rest)) ≡ is

abbrev pub AddressedMounts : Type 0
AddressedMounts = (is : List Coded) (rest : List CodeEntry) → length is ≤ 2048 → all_addressed (length is) is ≡ true → Remounts is rest

-- the code of `m := m - 5`, with m in the cell 0 and temporaries from the cell 64 on
abbrev pub Worked : Type 0
Worked =
    map code_entry (coded 2 (LoadConst (pos 5)) ∷ coded 3 (Store 64) ∷ coded 1 (LoadVar 0) ∷ coded 3 (BinaryOp Subtract 64) ∷ coded 4 (Store 0) ∷ [])
    ≡ code_fields 1 0 (pos 5) 0 0 2 ∷ code_fields 3 0 (pos 0) 64 0 3 ∷ code_fields 2 0 (pos 0) 0 0 1 ∷ code_fields 5 4 (pos 0) 64 0 3 ∷ code_fields 3 0 (pos 0) 0 0 4 ∷ []
