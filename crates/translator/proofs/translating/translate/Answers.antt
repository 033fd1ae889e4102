use Rattle.std.proofs.Common.{length, ◌∙◌}
use Rattle.draft.specs.Opening.{tree_of}
use Rattle.aida.specs.Templates.{code}
use Rattle.translator.proofs.Wholes.{few_code, answer_is, table_is, mounts_always}
use Rattle.translator.proofs.translating.translate.Goals as goal

pub returns : goal.returns
returns c =
    let d = c.args.routine.now.draft in
    let is = code (tree_of d) in
    let e = c.emit_all-count.ensures in
    let s = c.settle.ensures in
    let cap = length c.args.table.now in
    let answer = s.is ∙ answer_is is cap c.empty.ensures e.table e.count in
    let left = s.table ∙ table_is is cap c.empty.ensures e.table e.count in
    record { is = answer; table = left; few = few_code d; mounts = mounts_always c.args.routine.now cap answer left }
