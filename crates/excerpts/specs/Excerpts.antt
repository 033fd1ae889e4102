-- The part of a line that is shown: 120 bytes at most, about evenly before and after the place.
use Rattle.std.specs.Prelude.{ℕ, ◌+◌, ◌-◌, min, max, List, take, drop}
use Rattle.excerpts.specs.Lines.{line_start, line_end}

abbrev pub from : List ℕ → ℕ → ℕ
from text k = max (line_start text k) (min (k - 60) (line_end text k - 120))

abbrev pub to : List ℕ → ℕ → ℕ
to text k = min (line_end text k) (from text k + 120)

abbrev pub shown_line : List ℕ → ℕ → List ℕ
shown_line text k = take (to text k - from text k) (drop (from text k) text)

-- what of it stands before the place
abbrev pub shown_before : List ℕ → ℕ → List ℕ
shown_before text k = take (k - from text k) (drop (from text k) text)
