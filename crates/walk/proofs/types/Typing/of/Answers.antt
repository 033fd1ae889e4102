use Rattle.std.proofs.Common.{refl, ap, ◌∙◌}
use Rattle.walk.specs.declared.types.Typing.{Typing}
use Rattle.walk.proofs.Declaring.{gathered_none, gathered_more, gathered_same, gathered_all, name_below}
use Rattle.walk.proofs.types.Typing.of.Goals as goal
use Rattle.walk.proofs.types.Typing.of.Goals.{in-Some, in_default}

pub declare-requires : goal.declare-requires
declare-requires c =
    name_below _ c.args.draft.now.formed _ _ c.loop-entry.invariant _ c.entries-entry-items.ensures c.loop-entry-test.true _ c.node.ensures _ c.declaration.ensures
    _ _ c.in-Some.is

pub loop-entry-preserved : goal.loop-entry-preserved
loop-entry-preserved c =
    elim c.match-declaration.branch [
      | in-Some w ↦
          gathered_more _ c.args.draft.now.formed _ _ c.loop-entry.invariant _ c.entries-entry-items.ensures c.loop-entry-test.true _ c.node.ensures _ c.declaration.ensures
          _ _ w.in-Some.is _ (ap (λ (s : Typing). s.types) w.typing-is ∙ w.declare.ensures)
      | in_default w ↦
          gathered_same _ c.args.draft.now.formed _ _ c.loop-entry.invariant _ c.entries-entry-items.ensures c.loop-entry-test.true _ c.node.ensures _ c.declaration.ensures
          w.in_default.is _ (ap (λ (s : Typing). s.types) w.typing-is)
    ]

pub loop-entry-init : goal.loop-entry-init
loop-entry-init c = gathered_none _ _ refl

pub returns : goal.returns
returns c = gathered_all _ _ _ c.loop-entry.invariant _ c.entries-entry-items.ensures c.loop-entry-test.false
