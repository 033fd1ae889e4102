-- One digit more.
use Rattle.std.specs.Prelude.{ℕ, ◌+◌, ◌-◌, ◌*◌, cond, Some, None, Option, nat_le}

-- the number n with the digit b after it, where it is at most this
abbrev pub longer : ℕ → ℕ → ℕ → Option ℕ
longer most n b = cond (nat_le (10 * n + (b - 48)) most) (Some (10 * n + (b - 48))) None
