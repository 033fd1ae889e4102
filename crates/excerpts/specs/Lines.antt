-- Lines of a text: a line feed ends its line.
use Rattle.std.specs.Prelude.{ℕ, ◌+◌, ◌-◌, min, Bool, not, List, ◌++◌, length, take, drop, codes, decimal, count_by, ◌==◌}
use Rattle.std.specs.List.{prefix_len, suffix_len}
use Rattle.excerpts.specs.declared.position.Position.{Position}

abbrev pub feed : ℕ → Bool
feed b = b == 10

abbrev pub in_line : ℕ → Bool
in_line b = not (feed b)

-- an offset past the end counts as the end
abbrev pub within : List ℕ → ℕ → ℕ
within text k = min k (length text)

-- where the line of offset k starts: after the last line feed before k
abbrev pub line_start : List ℕ → ℕ → ℕ
line_start text k = k - suffix_len in_line (take k text)

-- where it ends: at the first line feed from k on, or at the end of the text
abbrev pub line_end : List ℕ → ℕ → ℕ
line_end text k = k + prefix_len in_line (drop k text)

-- one more than the line feeds before k, and one more than the bytes of the line before k
abbrev pub position : List ℕ → ℕ → Position
position text k = record { line = 1 + count_by feed (take k text); column = 1 + (k - line_start text k) }

abbrev pub position_text : Position → List ℕ
position_text p = decimal p.line ++ (codes ":" ++ decimal p.column)
