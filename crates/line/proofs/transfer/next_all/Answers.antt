use Rattle.std.proofs.Common.{◌<◌, length, set, ap, ◌∙◌, arith, w32, SFits, rules}
use Rattle.std.proofs.lemmas.Int.{to_z-of_z}
use Rattle.line.proofs.Moving.{more_left, removed_is, removed_more, written_more}
use Rattle.line.proofs.transfer.next_all.Goals as goal

pub loop-count-preserved : goal.loop-count-preserved
loop-count-preserved g c =
    let line = g.L.Line in
    let now = line.readings c.loop-count.line in
    let start = line.readings c.args.line.now in
    let i = c.loop-count.count in
    let inv = c.loop-count.invariant in
    let number = c.in-Some.number in
    let some = c.in-Some.ensures.answer in
    let fits : SFits w32 number = search rules in
    let left : i < length start = more_left start now i inv.1 number some in
    let room : i < length c.args.places.now = omega arith in
    let same = to_z-of_z w32 number fits ∙ removed_is start now i inv.1 number some in (
      omega (arith, left),
      c.next.ensures.readings ∙ removed_more start now i inv.1 number some,
      ap (λ x. set c.loop-count.places i x) same ∙ written_more start c.loop-count.places c.args.places.now i left room inv.2,
      c.next.ensures.sends ∙ inv.3,
    )
