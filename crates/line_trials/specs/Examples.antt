-- The numbers that bytes hold.
use Rattle.std.specs.Prelude.{◌≡◌, ℕ, List, [], ◌∷◌, pos, negsuc}
use Rattle.line.specs.Registers.{register, number_at}

-- 100,000 and then -2: 00 01 86 A0 FF FF FF FE
abbrev pub two : List ℕ
two = 0 ∷ 1 ∷ 134 ∷ 160 ∷ 255 ∷ 255 ∷ 255 ∷ 254 ∷ []

-- 80 00 00 00, the lowest number, and 7F FF FF FF, the highest
abbrev pub ends : List ℕ
ends = 128 ∷ 0 ∷ 0 ∷ 0 ∷ 127 ∷ 255 ∷ 255 ∷ 255 ∷ []

pub record Bytes : Type 0 where
  pub register_0 : register two 0 ≡ 1
  pub register_1 : register two 1 ≡ 34464
  pub register_2 : register two 2 ≡ 65535
  pub register_3 : register two 3 ≡ 65534
  pub number_0 : number_at two 0 ≡ pos 100000
  pub number_1 : number_at two 1 ≡ negsuc 1
  pub lowest : number_at ends 0 ≡ negsuc 2147483647
  pub highest : number_at ends 1 ≡ pos 2147483647
