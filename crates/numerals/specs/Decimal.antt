-- Numbers in words.
use Rattle.std.specs.Prelude.{ℕ, zero, suc, ◌+◌, ◌-◌, ◌*◌, Bool, cond, ◌&&◌, List, [], ◌∷◌, ℤ, pos, negsuc, Some, None, Option, ◌==◌, nat_le}
use Rattle.std.specs.List.{list_all}
use Rattle.lexer.specs.Spelling.{digit, value}

abbrev pub digits : List ℕ → Bool
digits bs = list_all digit bs

-- the number of a word of digits, one or more, if it is at most this
abbrev pub natural_of : ℕ → List ℕ → Option ℕ
natural_of most [] = None
natural_of most (b ∷ bs) = cond (digits (b ∷ bs) && nat_le (value (b ∷ bs)) most) (Some (value (b ∷ bs))) None

-- a number with a byte more, if it is a digit and the number is at most this
abbrev pub longer : ℕ → ℕ → ℕ → Option ℕ
longer most n b = cond (digit b && nat_le (10 * n + (b - 48)) most) (Some (10 * n + (b - 48))) None

-- a number above 0 below it, and no other
abbrev pub below : Option ℕ → Option ℤ
below None = None
below (Some zero) = None
below (Some (suc n)) = Some (negsuc n)

abbrev pub above : Option ℕ → Option ℤ
above None = None
above (Some n) = Some (pos n)

-- the number of 32 bits of a word, with a minus in front if below 0
abbrev pub integer_of : List ℕ → Option ℤ
integer_of [] = None
integer_of (b ∷ bs) = cond (b == 45) (below (natural_of 2147483648 bs)) (above (natural_of 2147483647 (b ∷ bs)))
