use Rattle.std.proofs.Common.{◌≡◌, ap, ◌∙◌}
use Rattle.std.proofs.lemmas.Int.{to_z-of_z}
use Rattle.line.specs.Queues.{enqueued}
use Rattle.line.specs.Places.{place}
use Rattle.line.proofs.Holding.{appended}
use Rattle.line.proofs.queue.Queue.push.Goals as goal

pub returns-clause-after : goal.returns-clause-after
returns-clause-after g c =
    let q = c.self.inside in
    let size = g.C.Cells.SIZE in
    let cell = g.C.Cells.cell in
    let now = c.args.self.now in
    let after = cell c.write.new.self in
    let end = c.place_after-end.result in
    let is = c.place_after-end.ensures.is ∙ ap (λ n. place n q.head q.len) c.SIZE.ensures in
    let fits = c.ranges.number in
    let here : after end ≡ c.args.number = simp to_z-of_z at c.write.ensures.here in
    appended size (cell q.cells) q.head q.len now c.self.view_is after end c.self.invariant.0 c.if-not-has_room.ensures is c.write.ensures.elsewhere
    ∙ ap (λ n. enqueued size n now) here
