use Rattle.std.proofs.Common.{map, take}
use Rattle.std.specs.Fmt.{IsPlainFormatter, HasWritten}
use Rattle.excerpts.specs.Shown.{shown_as}
use Rattle.excerpts.proofs.printable.PrintableDisplay.fmt.Given as goal

abbrev pub invariant-loop-b : goal.invariant-loop-b
invariant-loop-b g l = IsPlainFormatter l.initial.f → HasWritten g.W.Write.write_str_gives l.initial.f (map (shown_as l.self.style) (take l.b-index l.b-items)) l.f
