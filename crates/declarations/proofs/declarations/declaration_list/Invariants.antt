use Rattle.parser.specs.Feeds.{unread}
use Rattle.declarations.proofs.DeclarList.{Declaring}
use Rattle.declarations.proofs.declarations.declaration_list.Given as goal

abbrev pub invariant-loop-parser : goal.invariant-loop-parser
invariant-loop-parser l = Declaring l.initial.parser l.initial.table l.parser l.table

abbrev pub decreases-loop-parser : goal.decreases-loop-parser
decreases-loop-parser l = unread l.parser
