-- Whether a routine keeps the static rules, as a test.
use Rattle.std.specs.Prelude.{ℕ, Bool, is_ok}
use Rattle.tosca.specs.Trees.{Program}
use Rattle.statics.specs.Checking.{checking}

abbrev pub is_passed : Program ℕ → Bool
is_passed p = is_ok (checking p)
