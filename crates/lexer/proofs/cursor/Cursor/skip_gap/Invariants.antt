use Rattle.std.proofs.Common.{◌≡◌, length}
use Rattle.lexer.specs.Lexemes.{skip}
use Rattle.lexer.proofs.cursor.Cursor.skip_gap.Given as goal

abbrev pub invariant-loop-at : goal.invariant-loop-at
invariant-loop-at l = skip l.at.place l.at.rest.now ≡ skip l.self.place l.self.rest.now

abbrev pub decreases-loop-at : goal.decreases-loop-at
decreases-loop-at l = length l.at.rest.now
