-- How a byte of a text is shown.
use Rattle.std.specs.Prelude.{ℕ, cond, ◌&&◌, ◌||◌, ◌==◌, nat_le}
use Rattle.excerpts.specs.declared.printable.Style.{Style}
use Rattle.excerpts.specs.declared.printable.Style.TheVariants.{Text, Blank}

-- printable ASCII and tabs as they are, a carriage return as a blank, any other byte as a question mark
abbrev pub printed : ℕ → ℕ
printed b = cond (b == 9 || (nat_le 32 b && nat_le b 126)) b (cond (b == 13) 32 63)

-- a tab as it is, any other byte as a blank
abbrev pub blanked : ℕ → ℕ
blanked b = cond (b == 9) 9 32

abbrev pub shown_as : Style → ℕ → ℕ
shown_as Text b = printed b
shown_as Blank b = blanked b
