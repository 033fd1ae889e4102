-- Which number a place holds.
use Rattle.std.specs.Prelude.{ℕ, ℤ, pos, slice_index_or}
use Rattle.line.specs.declared.bank.Bank.{Bank}
use Rattle.line.specs.declared.numbers.Numbers.{Numbers}
use Rattle.line.specs.Registers.{number_at}

-- a place is an element
abbrev pub number_cell : Numbers → ℕ → ℤ
number_cell numbers place = slice_index_or numbers.elements place (pos 0)

-- a place is two registers
abbrev pub register_cell : Bank → ℕ → ℤ
register_cell bank place = number_at bank.bytes place
