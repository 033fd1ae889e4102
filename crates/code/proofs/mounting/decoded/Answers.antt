use Rattle.std.proofs.Common.{rules, get_or}
use Rattle.code.specs.Questions.{blank_coded, said_by_all}
use Rattle.code.proofs.Decoded.{made_each, padded}
use Rattle.code.proofs.mounting.decoded.Goals as goal

pub returns : goal.returns
returns c =
    let es = c.args.entries.now in
    padded 2048 es c.from_fn.result c.requires c.from_fn.ensures.items.long
    (made_each _ _ c.from_fn.result blank_coded (λ k. get_or (said_by_all es) k blank_coded) (λ i y q call. search rules) 2048 c.from_fn.ensures.items)
