use Rattle.std.proofs.lemmas.Result.{err_from_is_err_and}
use Rattle.parser.proofs.StepToken.{named, name_cut, name_many}
use Rattle.parser.proofs.parser.Parser.name.Goals as goal

pub returns : goal.returns
returns c = named c.args.self.now c.fetch.new.self c.in-Name.word c.number.new.self c.in-Some.number c.requires c.in-Name.is c.in-Some.ensures c.in_ok-fetch.ensures

pub returns-in_default-number : goal.returns-in_default-number
returns-in_default-number c = name_many c.args.self.now c.in-Name.word c.number.new.self c.refuse-in_default-number.result c.in-Name.is c.in_default-number.ensures c.refuse-in_default-number.ensures

pub returns-in_err-fetch : goal.returns-in_err-fetch
returns-in_err-fetch c =
    let x = err_from_is_err_and c.from_residual.result c.from_residual.ensures.1 in
    rw (x.1, x.2) (name_cut c.args.self.now c.in-Name.word c.number.new.self c.in-Some.number c.in_err-fetch.field-0.0 c.in-Name.is c.in-Some.ensures c.in_err-fetch.ensures)
