use Rattle.std.proofs.Common.{rules, tests, arith, ◌-◌, length, take, drop, length-drop, ap, ◌∙◌}
use Rattle.std.proofs.lemmas.Iterator.{YieldsList-from_slice}
use Rattle.std.proofs.lemmas.Iterator.Consumers.{count_from_yields_List}
use Rattle.std.proofs.lemmas.Iterator.Search.{YieldsList-from_take_while}
use Rattle.std.proofs.lemmas.List.{take_rest}
use Rattle.std.proofs.lemmas.List.Folds.{length-prefix_len}
use Rattle.std.proofs.lemmas.List.Sums.{prefix_len-le-length}
use Rattle.std.specs.List.{prefix_len}
use Rattle.excerpts.specs.Lines.{in_line}
use Rattle.excerpts.proofs.position.line_end.Goals as goal

pub returns : goal.returns
returns c =
    let text = c.args.text.now in
    let k = c.args.offset in
    let rest = take (length text - k) (drop k text) in
    let n = count_from_yields_List c.take_while-line.result _ c.count.ensures.ran (YieldsList-from_take_while _ in_line (YieldsList-from_slice rest (cc)) c.take_while-line.ensures.closure c.take_while-line.ensures.done (λ x b q k. search (rules, tests))) ∙ length-prefix_len in_line rest ∙ ap (prefix_len in_line) (take_rest text k) in
    omega (arith, n, prefix_len-le-length in_line (drop k text), length-drop k text)
