use Rattle.std.proofs.Common.{sym, subst}
use Rattle.std.proofs.lemmas.Result.{err_from_is_err_and}
use Rattle.parser.specs.Fetching.{Fetched}
use Rattle.parser.proofs.StepToken.{fetched, not_fetched}
use Rattle.parser.proofs.parser.Parser.fetch.Goals as goal

pub returns : goal.returns
returns c = subst (Fetched c.args.self.now) (sym c.put.ensures) (fetched c.args.self.now c.in_ok-lexeme.lexeme c.requires.0 c.requires.1 c.in_ok-lexeme.ensures)

pub returns-in_err-lexeme : goal.returns-in_err-lexeme
returns-in_err-lexeme c =
    let x = err_from_is_err_and c.from_residual.result c.from_residual.ensures.1 in
    rw (x.1, x.2) (not_fetched c.args.self.now c.in_err-lexeme.field-0.0 c.requires.1 c.in_err-lexeme.ensures)
