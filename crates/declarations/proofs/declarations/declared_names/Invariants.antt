use Rattle.parser.specs.Feeds.{unread}
use Rattle.declarations.proofs.DeclarNames.{Naming}
use Rattle.declarations.proofs.declarations.declared_names.Given as goal

abbrev pub invariant-loop-parser : goal.invariant-loop-parser
invariant-loop-parser l = Naming l.initial.parser l.initial.table l.parser l.table

abbrev pub decreases-loop-parser : goal.decreases-loop-parser
decreases-loop-parser l = unread l.parser
