use Rattle.std.proofs.Common.{rules, tests, arith, take, reverse, ◌∙◌}
use Rattle.std.proofs.lemmas.Iterator.Adapters.{YieldsList-from_rev_slice}
use Rattle.std.proofs.lemmas.Iterator.Consumers.{count_from_yields_List}
use Rattle.std.proofs.lemmas.Iterator.Search.{YieldsList-from_take_while}
use Rattle.std.proofs.lemmas.List.Folds.{length-prefix_len}
use Rattle.excerpts.specs.Lines.{in_line}
use Rattle.excerpts.proofs.position.line_start.Goals as goal

pub returns : goal.returns
returns c =
    let before = take c.args.offset c.args.text.now in
    let n = count_from_yields_List c.take_while-line.result _ c.count.ensures.ran (YieldsList-from_take_while _ in_line (YieldsList-from_rev_slice before (cc)) c.take_while-line.ensures.closure c.take_while-line.ensures.done (λ x b q k. search (rules, tests))) ∙ length-prefix_len in_line (reverse before) in
    (omega (arith, n), omega arith)
