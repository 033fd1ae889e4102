use Rattle.std.proofs.Common.{sym, refl, subst, ◌∙◌}
use Rattle.std.proofs.lemmas.Result.{err_from_is_err_and}
use Rattle.parser.specs.Fetching.{Fresh, onto}
use Rattle.parser.proofs.StepToken.{begun, not_begun, at_front}
use Rattle.parser.proofs.parser.Parser.new.Goals as goal

pub returns : goal.returns
returns c =
    let front = at_front c.new.result.place c.new.result.rest.now c.args.text.now c.new.ensures.place c.new.ensures.rest in
    subst (Fresh c.args.text.now) (sym c.at.ensures) (begun c.args.text.now (onto c.in_ok-first.first c.new-2.result 0) c.requires c.new-2.ensures.0 c.new-2.ensures.1 refl (c.in_ok-first.ensures ∙ front))

pub returns-in_err-first : goal.returns-in_err-first
returns-in_err-first c =
    let front = at_front c.new.result.place c.new.result.rest.now c.args.text.now c.new.ensures.place c.new.ensures.rest in
    let x = err_from_is_err_and c.from_residual.result c.from_residual.ensures.1 in
    rw (x.1, x.2) (not_begun c.args.text.now c.in_err-first.field-0.0 (c.in_err-first.ensures ∙ front))
