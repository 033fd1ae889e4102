-- What translating a routine gives, and what the code table holds afterwards.
use Rattle.std.specs.Prelude.{◌≡◌, ℕ, ◌-◌, cond, List, ◌++◌, map, length, take, replicate, Ok, Err, Result, nat_le}
use Rattle.tosca.specs.Trees.{Program}
use Rattle.aida.specs.Templates.{code}
use Rattle.code.specs.declared.table.CodeEntry.{CodeEntry}
use Rattle.code.specs.CodeTable.{code_entry, no_code}
use Rattle.code.specs.Questions.{said_by_all, mounting, mounts}
use Rattle.translator.specs.declared.unfit.Unfit.{Unfit}
use Rattle.translator.specs.declared.unfit.Unfit.TheVariants.{TooShort}

-- the count of instructions, if a table of cap entries holds so many
abbrev pub fits : ℕ → ℕ → Result ℕ Unfit
fits cap count = cond (nat_le count cap) (Ok count) (Err TooShort)

-- a table that does not hold so many instructions is emptied
abbrev pub emptied : ℕ → List CodeEntry → List CodeEntry
emptied count table = cond (nat_le count (length table)) table (replicate (length table) no_code)

-- the answer for a table of cap entries
abbrev pub outcome : ℕ → Program ℕ → Result ℕ Unfit
outcome cap p = fits cap (length (code p))

-- the routine's code and then blank entries, or blank entries alone
abbrev pub table_after : ℕ → Program ℕ → List CodeEntry
table_after cap p = cond (nat_le (length (code p)) cap) (map code_entry (code p) ++ replicate (cap - length (code p)) no_code) (replicate cap no_code)

-- a count that is given is that of a table which mounts, and the mounted code is the routine's
abbrev pub Mounts : Program ℕ → List CodeEntry → Result ℕ Unfit → Type 0
Mounts p table (Ok count) = (mounting table count ≡ mounts) × (said_by_all (take count table) ≡ code p)
Mounts p table (Err e) = Unit {0}
