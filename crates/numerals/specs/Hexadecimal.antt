-- Bytes written as two small hexadecimal digits each.
use Rattle.std.specs.Prelude.{ℕ, ◌+◌, ◌-◌, ◌*◌, cond, ◌&&◌, List, [], ◌∷◌, Some, None, Option, nat_le}

-- 0 to 9 and a to f
abbrev pub digit_of : ℕ → Option ℕ
digit_of b = cond (nat_le 48 b && nat_le b 57) (Some (b - 48)) (cond (nat_le 97 b && nat_le b 102) (Some (b - 87)) None)

abbrev pub pair : Option ℕ → Option ℕ → Option ℕ
pair None y = None
pair (Some x) None = None
pair (Some x) (Some y) = Some (16 * x + y)

abbrev pub byte_of : ℕ → ℕ → Option ℕ
byte_of a b = pair (digit_of a) (digit_of b)

abbrev pub front : Option ℕ → Option (List ℕ) → Option (List ℕ)
front None bs = None
front (Some b) None = None
front (Some b) (Some bs) = Some (b ∷ bs)

-- the bytes that digits write, if they are all digits and even in number
abbrev pub bytes_of : List ℕ → Option (List ℕ)
bytes_of [] = Some []
bytes_of (a ∷ []) = None
bytes_of (a ∷ b ∷ ds) = front (byte_of a b) (bytes_of ds)
