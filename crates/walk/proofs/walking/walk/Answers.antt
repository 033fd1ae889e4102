use Rattle.walk.proofs.Filling.{turn_ready, turn_some, turn_none, turn_last}
use Rattle.walk.proofs.walking.walk.Goals as goal
use Rattle.walk.proofs.walking.walk.Goals.{in-Some, in_default}

pub answer-requires : goal.answer-requires
answer-requires g c =
    turn_ready _ _ c.args.draft.now.formed _ _ _ c.loop-n.invariant _ c.entries-entries.ensures _ c.min-room.ensures c.loop-n-test.true _ c.node.ensures

pub loop-n-preserved : goal.loop-n-preserved
loop-n-preserved g c =
    elim c.match-answer.branch [
      | in-Some w ↦
          turn_some _ _ c.args.draft.now.formed _ _ _ c.loop-n.invariant _ c.entries-entries.ensures _ c.min-room.ensures c.loop-n-test.true _ c.node.ensures _ c.answer.ensures
          _ w.in-Some.is _ w.answers-is
      | in_default w ↦
          turn_none _ _ c.args.draft.now.formed _ _ _ c.loop-n.invariant _ c.entries-entries.ensures _ c.min-room.ensures c.loop-n-test.true _ c.node.ensures _ c.answer.ensures
          w.in_default.is _ w.answers-is
    ]

pub returns : goal.returns
returns g c = turn_last _ _ c.args.draft.now.formed _ _ _ c.loop-n.invariant _ c.entries-entries.ensures _ c.min-room.ensures c.loop-n-test.false
