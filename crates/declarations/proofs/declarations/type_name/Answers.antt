use Rattle.std.proofs.Common.{ap, subst}
use Rattle.std.proofs.lemmas.Result.{err_from_is_err_and}
use Rattle.lexer.specs.Names.{tok}
use Rattle.lexer.specs.Lexemes.{meant}
use Rattle.parser.specs.Feeds.{known_of}
use Rattle.parser.specs.Advancing.{Broken}
use Rattle.declarations.specs.Declaring.{cut}
use Rattle.declarations.proofs.declarations.type_name.Goals as goal

pub returns-in_err-advance-in-TypeName : goal.returns-in_err-advance-in-TypeName
returns-in_err-advance-in-TypeName c =
    let x = err_from_is_err_and c.from_residual.result c.from_residual.ensures.1 in
    rw (x.1, x.2) (cut c.in-TypeName.typ (subst (λ t. Broken c.args.parser.now t c.in_err-advance-in-TypeName.field-0.0) (ap (λ t. tok (known_of c.args.parser.now.names) (meant t)) c.in-TypeName.is) c.in_err-advance-in-TypeName.ensures))
