-- What a queue in places that are used in turn holds.
use Rattle.std.specs.Prelude.{ℕ, ◌+◌, ◌-◌, cond, List, map, ℤ, nat_lt}
use Rattle.std.specs.List.{range_with_len}

-- the place that comes k after head, the first again after the last: head + k modulo the size, as head is below it and k not above it
abbrev pub place : ℕ → ℕ → ℕ → ℕ
place size head k = cond (nat_lt (head + k) size) (head + k) (head + k - size)

-- the numbers of so many places from head on, where cell says which number a place holds
abbrev pub held : ℕ → (ℕ → ℤ) → ℕ → ℕ → List ℤ
held size cell head len = map (λ k. cell (place size head k)) (range_with_len 0 len)
