use Rattle.std.proofs.Common.{arith}
use Rattle.walk.specs.Readings.{types_of}
use Rattle.translator.proofs.Cmds.{skip_done, assign_value, assign_room, assign_done, output_value, output_room, output_done, input_name, input_room, input_done, seq_first, seq_second, seq_done, choice_test, choice_jump, choice_then, choice_goto, choice_else, choice_done, loop_test, loop_jump, loop_body, loop_back, loop_done}
use Rattle.translator.proofs.commands.+command.Goals as goal

pub expression-requires : goal.expression-requires
expression-requires t c =
    assign_value _ c.args.draft.now.formed (types_of c.args.typing.now) c.args.code.now c.requires c.in-Assign.ensures

pub emit-requires : goal.emit-requires
emit-requires t c =
    assign_room _ c.args.draft.now.formed (types_of c.args.typing.now) c.args.code.now c.requires c.in-Assign.ensures c.expression.ensures

pub command-requires : goal.command-requires
command-requires t c =
    let f = seq_first _ c.args.draft.now.formed (types_of c.args.typing.now) c.args.code.now c.requires c.in-Seq.ensures in
    (omega (arith, c.decreases, f.0), f.1)

pub command-requires-in-Seq : goal.command-requires-in-Seq
command-requires-in-Seq t c =
    let f = seq_second _ c.args.draft.now.formed (types_of c.args.typing.now) c.args.code.now c.requires c.in-Seq.ensures c.command.ensures in
    (omega (arith, c.decreases, f.0), f.1)

pub expression-requires-in-Choice : goal.expression-requires-in-Choice
expression-requires-in-Choice t c = choice_test _ c.args.draft.now.formed (types_of c.args.typing.now) c.args.code.now c.requires c.in-Choice.ensures

pub reserve-to_else-requires : goal.reserve-to_else-requires
reserve-to_else-requires t c = choice_jump _ c.args.draft.now.formed (types_of c.args.typing.now) c.args.code.now c.requires c.in-Choice.ensures c.expression-in-Choice.ensures

pub command-requires-in-Choice : goal.command-requires-in-Choice
command-requires-in-Choice t c =
    let f = choice_then _ c.args.draft.now.formed (types_of c.args.typing.now) c.args.code.now c.requires c.in-Choice.ensures c.expression-in-Choice.ensures c.reserve-to_else.ensures.skips in
    (omega (arith, c.decreases, f.0), f.1)

pub reserve-to_end-requires : goal.reserve-to_end-requires
reserve-to_end-requires t c = choice_goto _ c.args.draft.now.formed (types_of c.args.typing.now) c.args.code.now c.requires c.in-Choice.ensures c.expression-in-Choice.ensures c.reserve-to_else.ensures.skips c.command-in-Choice.ensures

pub command-requires-in-Choice-2 : goal.command-requires-in-Choice-2
command-requires-in-Choice-2 t c =
    let f = choice_else _ c.args.draft.now.formed (types_of c.args.typing.now) c.args.code.now c.requires c.in-Choice.ensures c.expression-in-Choice.ensures c.reserve-to_else.ensures.skips c.command-in-Choice.ensures c.reserve-to_end.ensures.skips c.jump_here.ensures in
    (omega (arith, c.decreases, f.0), f.1)

pub expression-requires-in-Loop : goal.expression-requires-in-Loop
expression-requires-in-Loop t c = loop_test _ c.args.draft.now.formed (types_of c.args.typing.now) c.args.code.now c.requires c.in-Loop.ensures

pub reserve-out-requires : goal.reserve-out-requires
reserve-out-requires t c = loop_jump _ c.args.draft.now.formed (types_of c.args.typing.now) c.args.code.now c.requires c.in-Loop.ensures c.expression-in-Loop.ensures

pub command-requires-in-Loop : goal.command-requires-in-Loop
command-requires-in-Loop t c =
    let f = loop_body _ c.args.draft.now.formed (types_of c.args.typing.now) c.args.code.now c.requires c.in-Loop.ensures c.expression-in-Loop.ensures c.reserve-out.ensures.skips in
    (omega (arith, c.decreases, f.0), f.1)

pub go_back-requires : goal.go_back-requires
go_back-requires t c = loop_back _ c.args.draft.now.formed (types_of c.args.typing.now) c.args.code.now c.requires c.in-Loop.ensures c.expression-in-Loop.ensures c.reserve-out.ensures.skips c.command-in-Loop.ensures

pub input_by-requires : goal.input_by-requires
input_by-requires t c =
    input_name _ c.args.draft.now.formed (types_of c.args.typing.now) c.args.code.now c.requires c.in-Input.ensures

pub emit-requires-in-Input : goal.emit-requires-in-Input
emit-requires-in-Input t c =
    omega (arith, input_room _ c.args.draft.now.formed (types_of c.args.typing.now) c.args.code.now c.requires c.in-Input.ensures)

pub emit-requires-in-Input-2 : goal.emit-requires-in-Input-2
emit-requires-in-Input-2 t c =
    omega (arith, input_room _ c.args.draft.now.formed (types_of c.args.typing.now) c.args.code.now c.requires c.in-Input.ensures, c.emit-in-Input.ensures.next)

pub expression-requires-in-Output : goal.expression-requires-in-Output
expression-requires-in-Output t c =
    output_value _ c.args.draft.now.formed (types_of c.args.typing.now) c.args.code.now c.requires c.in-Output.ensures

pub emit-requires-in-Output : goal.emit-requires-in-Output
emit-requires-in-Output t c =
    output_room _ c.args.draft.now.formed (types_of c.args.typing.now) c.args.code.now c.requires c.in-Output.ensures c.expression-in-Output.ensures

pub returns-in-Skip : goal.returns-in-Skip
returns-in-Skip t c =
    skip_done _ c.args.draft.now.formed (types_of c.args.typing.now) c.args.code.now c.requires c.in-Skip.ensures

pub returns-in-Assign : goal.returns-in-Assign
returns-in-Assign t c =
    assign_done _ c.args.draft.now.formed (types_of c.args.typing.now) c.args.code.now c.requires c.in-Assign.ensures c.expression.ensures c.emit.ensures

pub returns-in-Seq : goal.returns-in-Seq
returns-in-Seq t c =
    seq_done _ c.args.draft.now.formed (types_of c.args.typing.now) c.args.code.now c.requires c.in-Seq.ensures c.command.ensures c.command-in-Seq.ensures

pub returns-in-Choice : goal.returns-in-Choice
returns-in-Choice t c = choice_done _ c.args.draft.now.formed (types_of c.args.typing.now) c.args.code.now c.requires c.in-Choice.ensures c.expression-in-Choice.ensures c.reserve-to_else.ensures.skips c.command-in-Choice.ensures c.reserve-to_end.ensures.skips c.jump_here.ensures c.command-in-Choice-2.ensures c.reserve-to_else.ensures.number c.reserve-to_end.ensures.number c.go_here.ensures

pub returns-in-Loop : goal.returns-in-Loop
returns-in-Loop t c = loop_done _ c.args.draft.now.formed (types_of c.args.typing.now) c.args.code.now c.requires c.in-Loop.ensures c.expression-in-Loop.ensures c.reserve-out.ensures.skips c.command-in-Loop.ensures c.go_back.ensures c.reserve-out.ensures.number c.jump_here-in-Loop.ensures

pub returns-in-Input : goal.returns-in-Input
returns-in-Input t c =
    input_done _ c.args.draft.now.formed (types_of c.args.typing.now) c.args.code.now c.requires c.in-Input.ensures c.input_by.ensures c.emit-in-Input.ensures c.emit-in-Input-2.ensures

pub returns-in-Output : goal.returns-in-Output
returns-in-Output t c =
    output_done _ c.args.draft.now.formed (types_of c.args.typing.now) c.args.code.now c.requires c.in-Output.ensures c.expression-in-Output.ensures c.emit-in-Output.ensures
