-- Bytes: letters, digits, blanks, and runs of them.
use Rattle.std.specs.Prelude.{ℕ, ◌+◌, ◌-◌, ◌*◌, Bool, ◌||◌, List, [], ◌∷◌, map, ◌==◌}
use Rattle.std.specs.List.{prefix_len}
use Rattle.std.specs.Char.{is_ascii_alphabetic, is_ascii_digit, is_ascii_alphanumeric, to_ascii_lowercase}
use Rattle.std.specs.Str.{bytes_eq}

-- A to Z and a to z
abbrev pub letter : ℕ → Bool
letter b = is_ascii_alphabetic b

-- 0 to 9
abbrev pub digit : ℕ → Bool
digit b = is_ascii_digit b

abbrev pub alphanumeric : ℕ → Bool
alphanumeric b = is_ascii_alphanumeric b

-- space, tab, carriage return, line feed
abbrev pub blank : ℕ → Bool
blank b = b == 32 || (b == 9 || (b == 13 || b == 10))

-- capitals count as small letters
abbrev pub lowered : List ℕ → List ℕ
lowered bs = map to_ascii_lowercase bs

-- the same bytes
abbrev pub same : List ℕ → List ℕ → Bool
same bs cs = bytes_eq bs cs

-- the length of the longest front of bytes that pass the test
abbrev pub run : (ℕ → Bool) → List ℕ → ℕ
run p bs = prefix_len p bs

-- the number that digits spell, after those that spell n
abbrev pub value_from : ℕ → List ℕ → ℕ
value_from n [] = n
value_from n (d ∷ ds) = value_from (10 * n + (d - 48)) ds

abbrev pub value : List ℕ → ℕ
value ds = value_from 0 ds
