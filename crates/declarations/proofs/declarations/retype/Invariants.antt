use Rattle.std.proofs.Common.{◌≡◌}
use Rattle.declarations.specs.Declaring.{retyped}
use Rattle.declarations.proofs.declarations.retype.Given as goal

abbrev pub invariant-loop-entry : goal.invariant-loop-entry
invariant-loop-entry l = l.declared ≡ retyped l.typ 0 l.entry-index l.initial.declared
