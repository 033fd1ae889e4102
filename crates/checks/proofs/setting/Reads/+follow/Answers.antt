use Rattle.std.proofs.Common.{arith}
use Rattle.draft.proofs.Facts.{assign_fact, seq_fact, choice_fact, loop_fact, input_fact, output_fact}
use Rattle.checks.proofs.Unset.{part}
use Rattle.checks.proofs.Flows.{assign_comes, seq_comes, choice_comes, loop_comes, input_comes, output_comes, other_comes}
use Rattle.checks.proofs.setting.Reads.+follow.Goals as goal

pub assigned-requires : goal.assigned-requires
assigned-requires t c =
    let f = assign_fact _ c.args.self.now.draft.now.formed _ c.requires.below c.in-Assign.ensures in
    record { named = f.0; value = part c.requires f.1 f.2 }

pub follow-first-requires : goal.follow-first-requires
follow-first-requires t c =
    let f = seq_fact _ c.args.self.now.draft.now.formed _ c.requires.below c.in-Seq.ensures in
    (omega (arith, c.decreases, f.0), part c.requires f.0 f.1)

pub follow-requires : goal.follow-requires
follow-requires t c =
    let f = seq_fact _ c.args.self.now.draft.now.formed _ c.requires.below c.in-Seq.ensures in
    (omega (arith, c.decreases, f.2), part c.requires f.2 f.3)

pub follow-yes-requires : goal.follow-yes-requires
follow-yes-requires t c =
    let f = choice_fact _ c.args.self.now.draft.now.formed _ c.requires.below c.in-Choice.ensures in
    (omega (arith, c.decreases, f.2), part c.requires f.2 f.3)

pub follow-no-requires : goal.follow-no-requires
follow-no-requires t c =
    let f = choice_fact _ c.args.self.now.draft.now.formed _ c.requires.below c.in-Choice.ensures in
    (omega (arith, c.decreases, f.4), part c.requires f.4 f.5)

pub value-requires : goal.value-requires
value-requires t c =
    let f = choice_fact _ c.args.self.now.draft.now.formed _ c.requires.below c.in-Choice.ensures in
    part c.requires f.0 f.1

pub value-requires-in-Loop : goal.value-requires-in-Loop
value-requires-in-Loop t c =
    let f = loop_fact _ c.args.self.now.draft.now.formed _ c.requires.below c.in-Loop.ensures in
    part c.requires f.0 f.1

pub follow-requires-in-Loop : goal.follow-requires-in-Loop
follow-requires-in-Loop t c =
    let f = loop_fact _ c.args.self.now.draft.now.formed _ c.requires.below c.in-Loop.ensures in
    (omega (arith, c.decreases, f.2), part c.requires f.2 f.3)

pub setting-requires : goal.setting-requires
setting-requires t c = input_fact _ c.args.self.now.draft.now.formed _ c.requires.below c.in-Input.ensures

pub value-requires-in-Output : goal.value-requires-in-Output
value-requires-in-Output t c =
    let f = output_fact _ c.args.self.now.draft.now.formed _ c.requires.below c.in-Output.ensures in
    part c.requires f.0 f.1

pub returns-in-Assign : goal.returns-in-Assign
returns-in-Assign t c = assign_comes _ c.args.self.now.draft.now.formed _ c.requires.below c.args.before c.in-Assign.ensures c.assigned.ensures.set c.assigned.ensures.fault

pub returns-in-Seq : goal.returns-in-Seq
returns-in-Seq t c = seq_comes _ c.args.self.now.draft.now.formed _ c.requires.below c.args.before c.in-Seq.ensures c.follow-first.ensures c.follow.ensures c.then.ensures.set c.then.ensures.fault

pub returns-in-Choice : goal.returns-in-Choice
returns-in-Choice t c = choice_comes _ c.args.self.now.draft.now.formed _ c.requires.below c.args.before c.in-Choice.ensures c.value.ensures.fault c.follow-yes.ensures c.follow-no.ensures (cc) (cc)

pub returns-in-Loop : goal.returns-in-Loop
returns-in-Loop t c = loop_comes _ c.args.self.now.draft.now.formed _ c.requires.below c.args.before c.in-Loop.ensures c.value-in-Loop.ensures.fault c.follow-in-Loop.ensures (cc) c.repeating.ensures.fault

pub returns-in-Input : goal.returns-in-Input
returns-in-Input t c = input_comes _ c.args.self.now.draft.now.formed _ c.requires.below c.args.before c.in-Input.ensures (cc) (cc)

pub returns-in-Output : goal.returns-in-Output
returns-in-Output t c = output_comes _ c.args.self.now.draft.now.formed _ c.requires.below c.args.before c.in-Output.ensures c.value-in-Output.ensures.set c.value-in-Output.ensures.fault

pub returns-in_default : goal.returns-in_default
returns-in_default t c =
    let o = c.in_default in
    other_comes _ c.args.self.now.draft.now.formed _ c.requires.below c.args.before c.node_at.result c.node_at.ensures o.not-Assign o.not-Seq o.not-Choice o.not-Loop o.not-Input o.not-Output c.start-in_default.ensures.set c.start-in_default.ensures.fault
