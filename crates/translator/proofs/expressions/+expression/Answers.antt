use Rattle.std.proofs.Common.{arith, rules}
use Rattle.translator.proofs.Exprs.{const_room, const_done, var_room, var_done, uny_part, uny_room, uny_done, bin_cell, bin_first, bin_keep, bin_last, bin_room, bin_done}
use Rattle.translator.proofs.expressions.+expression.Goals as goal

pub emit-requires : goal.emit-requires
emit-requires t c = const_room _ c.args.draft.now.formed c.args.code.now c.requires c.in-Const.ensures

pub emit-requires-in-Var : goal.emit-requires-in-Var
emit-requires-in-Var t c = var_room _ c.args.draft.now.formed c.args.code.now c.requires c.in-Var.ensures

pub expression-requires : goal.expression-requires
expression-requires t c =
    let f = uny_part _ c.args.draft.now.formed c.args.code.now c.requires c.in-Uny.ensures in
    (omega (arith, c.decreases, f.0), f.1)

pub emit-requires-in-Uny : goal.emit-requires-in-Uny
emit-requires-in-Uny t c = uny_room _ c.args.draft.now.formed c.args.code.now c.requires c.in-Uny.ensures c.expression.ensures

pub expression-requires-in-Bin : goal.expression-requires-in-Bin
expression-requires-in-Bin t c =
    let o = c.in_order-operands.ensures in
    let f = bin_first _ c.args.draft.now.formed c.args.code.now c.requires c.in-Bin.ensures o.first o.last in
    (omega (arith, c.decreases, f.0), f.1)

pub emit-requires-in-Bin : goal.emit-requires-in-Bin
emit-requires-in-Bin t c =
    let o = c.in_order-operands.ensures in
    bin_keep _ c.args.draft.now.formed c.args.code.now c.requires c.in-Bin.ensures o.first o.last c.expression-in-Bin.ensures

pub next_cell-requires : goal.next_cell-requires
next_cell-requires t c =
    let o = c.in_order-operands.ensures in
    bin_cell _ c.args.draft.now.formed c.args.code.now c.requires c.in-Bin.ensures o.first o.last

pub expression-requires-in-Bin-2 : goal.expression-requires-in-Bin-2
expression-requires-in-Bin-2 t c =
    let o = c.in_order-operands.ensures in
    let f = bin_last _ c.args.draft.now.formed c.args.code.now c.requires c.in-Bin.ensures o.first o.last c.expression-in-Bin.ensures c.emit-in-Bin.ensures c.next_cell.ensures in
    (omega (arith, c.decreases, f.0), f.1)

pub emit-requires-in-Bin-2 : goal.emit-requires-in-Bin-2
emit-requires-in-Bin-2 t c =
    let o = c.in_order-operands.ensures in
    bin_room _ c.args.draft.now.formed c.args.code.now c.requires c.in-Bin.ensures o.first o.last c.expression-in-Bin.ensures c.emit-in-Bin.ensures c.next_cell.ensures c.expression-in-Bin-2.ensures

pub returns-in-Const : goal.returns-in-Const
returns-in-Const t c =
    const_done _ c.args.draft.now.formed c.args.code.now c.requires c.in-Const.ensures c.emit.ensures (search rules)

pub returns-in-Var : goal.returns-in-Var
returns-in-Var t c =
    var_done _ c.args.draft.now.formed c.args.code.now c.requires c.in-Var.ensures c.emit-in-Var.ensures

pub returns-in-Uny : goal.returns-in-Uny
returns-in-Uny t c =
    uny_done _ c.args.draft.now.formed c.args.code.now c.requires c.in-Uny.ensures c.expression.ensures c.emit-in-Uny.ensures

pub returns-in-Bin : goal.returns-in-Bin
returns-in-Bin t c =
    let o = c.in_order-operands.ensures in
    bin_done _ c.args.draft.now.formed c.args.code.now c.requires c.in-Bin.ensures o.first o.last c.expression-in-Bin.ensures c.emit-in-Bin.ensures c.next_cell.ensures c.expression-in-Bin-2.ensures c.emit-in-Bin-2.ensures
