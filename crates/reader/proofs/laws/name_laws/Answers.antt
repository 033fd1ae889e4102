use Rattle.lexer.proofs.Numbering.{same_number, name_law}
use Rattle.reader.proofs.laws.name_laws.Goals as goal

pub returns : goal.returns
returns c = (same_number, name_law)
