-- The number of the refusal.
use Rattle.std.specs.Prelude.{ℕ}
use Rattle.translator.specs.declared.unfit.Unfit.{Unfit}
use Rattle.translator.specs.declared.unfit.Unfit.TheVariants.{TooShort}

-- as users see it
abbrev pub unfit_number : Unfit → ℕ
unfit_number TooShort = 31
