use Rattle.std.proofs.Common.{◌≡◌, ◌≤◌, length}
use Rattle.lexer.specs.Scan.{scan, limited}
use Rattle.lexer.specs.Names.{nothing}
use Rattle.parser.specs.Feeds.{known_of}
use Rattle.reader.specs.Naming.{gathered}
use Rattle.reader.proofs.naming.names_of.Given as goal

abbrev pub invariant-loop-lexeme : goal.invariant-loop-lexeme
invariant-loop-lexeme l = (gathered (known_of l.names) (limited (scan l.at.place l.at.rest.now)) ≡ gathered nothing (limited (scan 0 l.text))) × (l.names.count ≤ 64)

abbrev pub decreases-loop-lexeme : goal.decreases-loop-lexeme
decreases-loop-lexeme l = length l.at.rest.now
