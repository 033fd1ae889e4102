use Rattle.std.proofs.Common.{rules, arith, ℕ, cond}
use Rattle.std.proofs.lemmas.Iterator.{YieldsList-from_slice, YieldsList-from_map}
use Rattle.std.proofs.lemmas.Iterator.Consumers.{sum_by_from_yields_List, fits_by_from_yields_list}
use Rattle.std.proofs.lemmas.List.Sums.{count_by-le-length}
use Rattle.excerpts.specs.Lines.{feed}
use Rattle.excerpts.proofs.position.line_feeds.Goals as goal

abbrev one : ℕ → ℕ
one b = cond (feed b) 1 0

pub sum-requires-clause-fits : goal.sum-requires-clause-fits
sum-requires-clause-fits c =
    let bytes = c.args.bytes.now in
    fits_by_from_yields_list one bytes c.map.result _ (YieldsList-from_map _ one (YieldsList-from_slice bytes (cc)) c.map.ensures.closure (λ x r q k. search rules)) (omega (arith, count_by-le-length feed bytes))

pub returns : goal.returns
returns c =
    let bytes = c.args.bytes.now in
    let n = sum_by_from_yields_List one bytes c.map.result _ c.sum.ensures.ran (YieldsList-from_map _ one (YieldsList-from_slice bytes (cc)) c.map.ensures.closure (λ x r q k. search rules)) in
    (n, omega (arith, n, count_by-le-length feed bytes))
