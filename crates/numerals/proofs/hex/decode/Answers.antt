use Rattle.std.proofs.Common.{◌<◌, length, vec_items, ap, ◌∙◌, arith, ltb-false}
use Rattle.numerals.specs.Hexadecimal.{bytes_of}
use Rattle.numerals.proofs.Decoded.{after, behind, after_more}
use Rattle.numerals.proofs.hex.decode.Goals as goal

pub loop-rest-preserved : goal.loop-rest-preserved
loop-rest-preserved c =
    let ds = c.loop-rest.rest.now in
    let two : 1 < length ds = omega (arith, ltb-false) in
    ap (λ xs. after xs (bytes_of (behind ds))) c.in_ok-push-in-Some.ensures.items ∙ after_more (vec_items c.loop-rest.bytes) ds c.in-Some.b two c.in-Some.ensures ∙ c.loop-rest.invariant
