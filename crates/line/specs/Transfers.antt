-- How many numbers are moved at once.
use Rattle.std.specs.Prelude.{ℕ, ◌-◌, min, List, length, ℤ}

-- of so many numbers, as many as a list has room for
abbrev pub accepted_count : ℕ → List ℤ → ℕ → ℕ
accepted_count limit numbers count = min count (limit - length numbers)

-- into so many places, as many as a list has numbers
abbrev pub removed_count : List ℤ → ℕ → ℕ
removed_count numbers count = min count (length numbers)
