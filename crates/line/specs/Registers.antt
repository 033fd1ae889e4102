-- Numbers in registers of 16 bits, two to a number, the high one first, each register's high byte first.
use Rattle.std.specs.Prelude.{ℕ, ◌+◌, ◌*◌, cond, List, ℤ, pos, ◌+ℤ◌, ◌-ℤ◌, ◌*ℤ◌, nat_lt, slice_index}

-- the register of an index, from 0 to 65,535
abbrev pub register : List ℕ → ℕ → ℕ
register bytes index = 256 * slice_index bytes (2 * index) + slice_index bytes (2 * index + 1)

-- a register as a two's complement number, from -32,768 to 32,767
abbrev pub signed : ℕ → ℤ
signed value = cond (nat_lt value 32768) (pos value) (pos value -ℤ pos 65536)

-- the number of two registers
abbrev pub number_of : ℕ → ℕ → ℤ
number_of high low = (pos 65536 *ℤ signed high) +ℤ pos low

-- the number at a place: of the registers 2 place and 2 place + 1, so of the four bytes from 4 place on
abbrev pub number_at : List ℕ → ℕ → ℤ
number_at bytes place = number_of (register bytes (2 * place)) (register bytes (2 * place + 1))
