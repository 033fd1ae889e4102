use Rattle.std.proofs.Common.{arith}
use Rattle.std.proofs.lemmas.List.{length-take}
use Rattle.draft.specs.Opening.{entries_of}
use Rattle.walk.proofs.Meanings.{needs_filled}
use Rattle.walk.proofs.temporaries.temporaries.Goals as goal

pub returns : goal.returns
returns c =
    let d = c.args.draft.now in
    needs_filled (entries_of d) (omega (arith, length-take d.count d.nodes, d.few)) c.args.answers.now c.walk.new.answers c.walk.ensures
