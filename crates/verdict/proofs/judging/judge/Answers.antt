use Rattle.std.proofs.Common.{rules, ◌≡◌, List, get_or, sym, ap, ◌∙◌}
use Rattle.std.proofs.lemmas.Result.{err_from_is_err_and}
use Rattle.tosca.specs.declared.table.Entry.{Entry}
use Rattle.tosca.specs.Table.{blank}
use Rattle.tosca.specs.Decode.{program_of}
use Rattle.statics.specs.Checking.{checking}
use Rattle.draft.specs.Opening.{entries_of}
use Rattle.reader.specs.Reading.{outcome}
use Rattle.verdict.specs.declared.rejection.Rejection.TheVariants.{Unsound}
use Rattle.verdict.proofs.Answering.{refused_by, drafted, unmapped_ok, unmapped_err}
use Rattle.verdict.proofs.judging.judge.Goals as goal

pub returns-in_err-count : goal.returns-in_err-count
returns-in_err-count c =
    let refusal = c.in_err-count.field-0.0 in
    let p = err_from_is_err_and c.from_residual.result c.from_residual.ensures.1 in
    rw (p.1, p.2) (refused_by (outcome 1024 c.args.text.now) refusal.question refusal.place c.in_err-count.ensures.is)

pub returns-in_err-map_err : goal.returns-in_err-map_err
returns-in_err-map_err c =
    let d = c.unwrap-draft.result in
    let s = drafted (outcome 1024 c.args.text.now) c.read.new.table c.in_ok-count.count c.open.result d c.in_ok-count.ensures.is c.in_ok-count.ensures.table c.in_ok-count.ensures.explained.opens c.open.ensures.made c.unwrap-draft.ensures in
    let p = err_from_is_err_and c.from_residual-in_err-map_err.result c.from_residual-in_err-map_err.ensures.1 in
    let u = unmapped_err c.check.result c.map_err.result c.in_err-map_err.field-0.0 _ c.map_err.ensures.cases c.in_err-map_err.was in
    let m : c.in_err-map_err.field-0.0 ≡ Unsound u.0 (get_or (entries_of d) u.0.node blank) = search (rules, u.2) in
    rw (p.1, p.2, m)
    (s.0, s.1, ap (λ (t : List Entry). checking (program_of t)) (sym s.3) ∙ sym c.check.ensures.is ∙ u.1, ap (λ (t : List Entry). get_or t u.0.node blank) s.3)

pub returns : goal.returns
returns c =
    let s = drafted (outcome 1024 c.args.text.now) c.read.new.table c.in_ok-count.count c.open.result c.unwrap-draft.result c.in_ok-count.ensures.is c.in_ok-count.ensures.table c.in_ok-count.ensures.explained.opens c.open.ensures.made c.unwrap-draft.ensures in
    let u = unmapped_ok c.check.result c.map_err.result c.map_err.ensures.variant c.in_ok-map_err.was in
    (s.0, s.1, s.2, ap (λ (t : List Entry). checking (program_of t)) (sym s.3) ∙ sym c.check.ensures.is ∙ u)
