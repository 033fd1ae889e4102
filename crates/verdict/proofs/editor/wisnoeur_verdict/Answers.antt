use Rattle.std.proofs.Common.{ap, ◌∙◌}
use Rattle.verdict.specs.Verdicts.{Verdict}
use Rattle.verdict.proofs.Answering.{ok_verdict, err_verdict}
use Rattle.verdict.proofs.editor.wisnoeur_verdict.Goals as goal

pub returns-in-Ok : goal.returns-in-Ok
returns-in-Ok c =
    let e = ok_verdict c.args.text.now c.in-Ok.field-0 c.in-Ok.ensures in
    record { number = ap (λ (v : Verdict). v.number) e; place = ap (λ (v : Verdict). v.place) e }

pub returns-in-Err : goal.returns-in-Err
returns-in-Err c =
    let e = err_verdict c.args.text.now c.in-Err.rejection c.in-Err.ensures in
    record { number = c.from.ensures.0 ∙ ap (λ (v : Verdict). v.number) e; place = c.from.ensures.1 ∙ ap (λ (v : Verdict). v.place) e }
