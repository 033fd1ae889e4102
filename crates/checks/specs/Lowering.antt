-- The lower of two nodes at fault, where there are any.
use Rattle.std.specs.Prelude.{ℕ, Some, None, Option}
use Rattle.statics.specs.Choosing.{least}

abbrev pub lower_of : Option ℕ → Option ℕ → Option ℕ
lower_of None b = b
lower_of (Some k) b = Some (least k b)
