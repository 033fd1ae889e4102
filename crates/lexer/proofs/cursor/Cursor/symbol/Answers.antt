use Rattle.std.proofs.Common.{arith}
use Rattle.std.proofs.lemmas.Grind.{common_steps}
use Rattle.lexer.proofs.cursor.Cursor.symbol.Goals as goal

pub returns-in_ok-token-in-len1-up : goal.returns-in_ok-token-in-len1-up
returns-in_ok-token-in-len1-up c = grind (arith, common_steps)
