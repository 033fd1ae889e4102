use Rattle.std.proofs.Common.{sym, subst, arith}
use Rattle.std.proofs.lemmas.Result.{err_from_is_err_and}
use Rattle.tosca.specs.declared.table.Node.TheVariants.{Skip, Loop, Choice}
use Rattle.grammar.specs.declared.symbols.Mark.TheVariants.{Then, Do, End}
use Rattle.grammar.specs.declared.symbols.Start.TheVariants.{Begin, If, While}
use Rattle.grammar.specs.Tokens.{start, else', mark}
use Rattle.parser.specs.Feeds.{known_of, next}
use Rattle.parser.specs.Advancing.{Read}
use Rattle.parser.proofs.CommandSteps as token
use Rattle.parser.proofs.CommandSteps.{reads_as}
use Rattle.commands.proofs.CommandRing.{blocks, less_after, less_slack, less_looped, less_chosen, less_skipped, less_ended, choosing, looping, test_wrong, test_alone, body_wrong, looped, else_wrong, chosen, skipped, no_else_lem, with_else, one_more, next_wrong, next_broken, ended, unended}
use Rattle.commands.proofs.commands.+alternative_block_choice_cmd_cmds_repetition.Goals as goal

pub alternative-advance-requires : goal.alternative-advance-requires
alternative-advance-requires t c = (c.requires.0, token.plain_else (known_of c.args.parser.now.names) c.args.parser.now.lookahead.token (sym c.if-not-is_else.ensures))

pub alternative-returns : goal.alternative-returns
alternative-returns t c =
    let a = subst (λ v. Read c.args.parser.now v c.advance.new.self) (token.is_else_lem (next c.args.parser.now) (sym c.if-not-is_else.ensures)) c.in_ok-advance.ensures in
    record {
      less = less_after 1 1 c.args.parser.now c.advance.new.self c.cmd.new.parser else' c.cmd.result (omega arith) a c.cmd.ensures.less;
      is = with_else c.args.depth.level c.args.parser.now c.advance.new.self c.cmd.new.parser c.args.table.now c.cmd.new.table c.cmd.result c.args.depth.within a c.cmd.ensures.is;
    }

pub alternative-returns-then-not-is_else : goal.alternative-returns-then-not-is_else
alternative-returns-then-not-is_else t c = record {
  less = less_skipped c.args.parser.now c.skip.new.parser c.args.table.now c.skip.new.table Skip c.args.parser.now.lookahead.place c.skip.result c.requires.0 c.requires.1 c.skip.ensures;
  is = no_else_lem c.args.depth.level c.args.parser.now c.skip.new.parser c.args.table.now c.skip.new.table c.skip.result (sym c.if-not-is_else.ensures) c.skip.ensures;
}

pub block-returns : goal.block-returns
block-returns t c =
    let i = c.in_ok-inner.ensures in
    let a = reads_as c.args.parser.now c.advance.new.self (start Begin) c.requires.1 c.in_ok-advance.ensures in
    record {
      less = less_after 0 0 c.args.parser.now c.advance.new.self c.cmds.new.parser (start Begin) c.cmds.result (omega arith) a c.cmds.ensures.less;
      is = blocks c.args.depth.level c.in_ok-inner.inner.level c.args.parser.now c.advance.new.self c.cmds.new.parser c.args.table.now c.cmds.new.table c.cmds.result i.0 i.1 a c.cmds.ensures.is;
    }

pub choice-returns-in_err-test : goal.choice-returns-in_err-test
choice-returns-in_err-test t c =
    let x = err_from_is_err_and c.from_residual-in_err-test.result c.from_residual-in_err-test.ensures.1 in
    let i = c.in_ok-inner.ensures in
    let a = reads_as c.args.parser.now c.advance.new.self (start If) c.requires.1 c.in_ok-advance.ensures in
    let g = choosing c.args.depth.level c.in_ok-inner.inner.level c.args.parser.now c.advance.new.self c.args.table.now i.0 i.1 a in
    rw (x.1, x.2) (record { less = tt; is = test_wrong g c.expr.new.parser c.expr.new.parser c.expr.new.table c.expr.new.table c.in_err-test.field-0.0 c.in_err-test.ensures.is })

pub choice-returns-in_err-expect : goal.choice-returns-in_err-expect
choice-returns-in_err-expect t c =
    let x = err_from_is_err_and c.from_residual-in_err-expect.result c.from_residual-in_err-expect.ensures.1 in
    let i = c.in_ok-inner.ensures in
    let a = reads_as c.args.parser.now c.advance.new.self (start If) c.requires.1 c.in_ok-advance.ensures in
    let g = choosing c.args.depth.level c.in_ok-inner.inner.level c.args.parser.now c.advance.new.self c.args.table.now i.0 i.1 a in
    rw (x.1, x.2) (record { less = tt; is = test_alone g c.expr.new.parser c.expect.new.self c.expr.new.table c.expr.new.table c.in_ok-test.test c.in_err-expect.field-0.0 c.in_ok-test.ensures.is c.in_err-expect.ensures })

pub choice-returns-in_err-yes : goal.choice-returns-in_err-yes
choice-returns-in_err-yes t c =
    let x = err_from_is_err_and c.from_residual-in_err-yes.result c.from_residual-in_err-yes.ensures.1 in
    let i = c.in_ok-inner.ensures in
    let a = reads_as c.args.parser.now c.advance.new.self (start If) c.requires.1 c.in_ok-advance.ensures in
    let g = choosing c.args.depth.level c.in_ok-inner.inner.level c.args.parser.now c.advance.new.self c.args.table.now i.0 i.1 a in
    rw (x.1, x.2) (record { less = tt; is = body_wrong g c.expr.new.parser c.expect.new.self c.cmd.new.parser c.cmd.new.parser c.expr.new.table c.cmd.new.table c.cmd.new.table c.in_ok-test.test c.in_err-yes.field-0.0 c.in_ok-test.ensures.is c.in_ok-expect.ensures c.in_err-yes.ensures.is })

pub choice-returns-in_err-no : goal.choice-returns-in_err-no
choice-returns-in_err-no t c =
    let x = err_from_is_err_and c.from_residual-in_err-no.result c.from_residual-in_err-no.ensures.1 in
    let i = c.in_ok-inner.ensures in
    let a = reads_as c.args.parser.now c.advance.new.self (start If) c.requires.1 c.in_ok-advance.ensures in
    let g = choosing c.args.depth.level c.in_ok-inner.inner.level c.args.parser.now c.advance.new.self c.args.table.now i.0 i.1 a in
    rw (x.1, x.2) (record { less = tt; is = else_wrong c.args.depth.level c.in_ok-inner.inner.level c.args.parser.now c.advance.new.self c.expr.new.parser c.expect.new.self c.cmd.new.parser c.alternative.new.parser c.alternative.new.parser c.args.table.now c.expr.new.table c.cmd.new.table c.alternative.new.table c.alternative.new.table c.in_ok-test.test c.in_ok-yes.yes c.in_err-no.field-0.0 g c.in_ok-test.ensures.is c.in_ok-expect.ensures c.in_ok-yes.ensures.is c.in_err-no.ensures.is })

pub choice-returns : goal.choice-returns
choice-returns t c =
    let i = c.in_ok-inner.ensures in
    let a = reads_as c.args.parser.now c.advance.new.self (start If) c.requires.1 c.in_ok-advance.ensures in
    let g = choosing c.args.depth.level c.in_ok-inner.inner.level c.args.parser.now c.advance.new.self c.args.table.now i.0 i.1 a in
    let u = c.in_ok-test.ensures in
    let b = c.in_ok-expect.ensures in
    let v = c.in_ok-yes.ensures in
    let n = c.in_ok-no.ensures in
    record {
      less = less_chosen c.args.parser.now c.advance.new.self c.expr.new.parser c.expect.new.self c.cmd.new.parser c.alternative.new.parser c.emit.new.self (start If) (mark Then) c.alternative.new.table c.emit.new.table (Choice c.in_ok-test.test c.in_ok-yes.yes c.in_ok-no.no) c.args.parser.now.lookahead.place c.in_ok-test.test c.in_ok-yes.yes c.in_ok-no.no c.emit.result c.requires.0 a u.less b v.less n.less c.emit.ensures;
      is = chosen c.args.depth.level c.in_ok-inner.inner.level c.args.parser.now c.advance.new.self c.expr.new.parser c.expect.new.self c.cmd.new.parser c.alternative.new.parser c.emit.new.self c.args.table.now c.expr.new.table c.cmd.new.table c.alternative.new.table c.emit.new.table c.in_ok-test.test c.in_ok-yes.yes c.in_ok-no.no c.emit.result g u.is b v.is n.is c.emit.ensures;
    }

pub cmd-returns-in-Read : goal.cmd-returns-in-Read
cmd-returns-in-Read t c = record {
  less = less_slack c.args.parser.now c.input.new.parser c.input.result c.input.ensures.less;
  is = c.input.ensures.is c.args.depth.level c.args.depth.within;
}

pub cmd-returns-in_default : goal.cmd-returns-in_default
cmd-returns-in_default t c = record {
  less = less_skipped c.args.parser.now c.skip.new.parser c.args.table.now c.skip.new.table Skip c.args.parser.now.lookahead.place c.skip.result c.requires.0 c.requires.1 c.skip.ensures;
  is = skipped c.args.depth.level c.args.parser.now c.skip.new.parser c.args.table.now c.skip.new.table c.skip.result (token.no_command (known_of c.args.parser.now.names) c.args.parser.now.lookahead.token c.in_default.not-Name c.in_default.not-Start) c.skip.ensures;
}

pub cmds-returns-in_err-advance : goal.cmds-returns-in_err-advance
cmds-returns-in_err-advance t c =
    let x = err_from_is_err_and c.from_residual-in_err-advance.result c.from_residual-in_err-advance.ensures.1 in
    rw (x.1, x.2) (record { less = tt; is = next_broken c.args.depth.level c.in_ok-all.all c.loop-depth.all c.args.parser.now c.cmd.new.parser c.loop-depth.parser c.advance.new.self c.args.table.now c.cmd.new.table c.loop-depth.table c.loop-depth.table c.in_err-advance.field-0.0 c.args.depth.within c.in_ok-all.ensures.is c.loop-depth.invariant (sym c.loop-depth-test.ensures) c.in_err-advance.ensures })

pub cmds-returns-in_err-next : goal.cmds-returns-in_err-next
cmds-returns-in_err-next t c =
    let x = err_from_is_err_and c.from_residual-in_err-next.result c.from_residual-in_err-next.ensures.1 in
    rw (x.1, x.2) (record { less = tt; is = next_wrong c.args.depth.level c.in_ok-all.all c.loop-depth.all c.args.parser.now c.cmd.new.parser c.loop-depth.parser c.advance.new.self c.cmd-in-loop-depth.new.parser c.cmd-in-loop-depth.new.parser c.args.table.now c.cmd.new.table c.loop-depth.table c.cmd-in-loop-depth.new.table c.cmd-in-loop-depth.new.table c.in_err-next.field-0.0 c.args.depth.within c.in_ok-all.ensures.is c.loop-depth.invariant (sym c.loop-depth-test.ensures) c.in_ok-advance.ensures c.in_err-next.ensures.is })

pub cmds-loop-depth-preserved : goal.cmds-loop-depth-preserved
cmds-loop-depth-preserved t c =
    let v = c.in_ok-next.ensures in
    one_more c.args.depth.level c.in_ok-all.all c.loop-depth.all c.in_ok-next.next c.emit-all.result c.cmd.new.parser c.loop-depth.parser c.advance.new.self c.cmd-in-loop-depth.new.parser c.emit-all.new.self c.cmd.new.table c.loop-depth.table c.cmd-in-loop-depth.new.table c.emit-all.new.table c.args.depth.within c.loop-depth.invariant (sym c.loop-depth-test.ensures) c.in_ok-advance.ensures v.less v.is c.emit-all.ensures

pub cmds-returns-in_err-expect : goal.cmds-returns-in_err-expect
cmds-returns-in_err-expect t c =
    let x = err_from_is_err_and c.from_residual-in_err-expect.result c.from_residual-in_err-expect.ensures.1 in
    rw (x.1, x.2) (record { less = tt; is = unended c.args.depth.level c.in_ok-all.all c.loop-depth.all c.args.parser.now c.cmd.new.parser c.loop-depth.parser c.expect.new.self c.args.table.now c.cmd.new.table c.loop-depth.table c.loop-depth.table c.in_err-expect.field-0.0 c.args.depth.within c.in_ok-all.ensures.is c.loop-depth.invariant (sym c.loop-depth-test.ensures) c.in_err-expect.ensures })

pub cmds-returns : goal.cmds-returns
cmds-returns t c =
    let f = c.in_ok-all.ensures in
    let a = c.in_ok-expect.ensures in
    record {
      less = less_ended c.args.parser.now c.cmd.new.parser c.loop-depth.parser c.expect.new.self (mark End) c.cmd.new.table c.loop-depth.table c.args.depth.level c.in_ok-all.all c.loop-depth.all f.less c.loop-depth.invariant a;
      is = ended c.args.depth.level c.in_ok-all.all c.loop-depth.all c.args.parser.now c.cmd.new.parser c.loop-depth.parser c.expect.new.self c.args.table.now c.cmd.new.table c.loop-depth.table c.args.depth.within f.is c.loop-depth.invariant a;
    }

pub repetition-returns-in_err-test : goal.repetition-returns-in_err-test
repetition-returns-in_err-test t c =
    let x = err_from_is_err_and c.from_residual-in_err-test.result c.from_residual-in_err-test.ensures.1 in
    let i = c.in_ok-inner.ensures in
    let a = reads_as c.args.parser.now c.advance.new.self (start While) c.requires.1 c.in_ok-advance.ensures in
    let g = looping c.args.depth.level c.in_ok-inner.inner.level c.args.parser.now c.advance.new.self c.args.table.now i.0 i.1 a in
    rw (x.1, x.2) (record { less = tt; is = test_wrong g c.expr.new.parser c.expr.new.parser c.expr.new.table c.expr.new.table c.in_err-test.field-0.0 c.in_err-test.ensures.is })

pub repetition-returns-in_err-expect : goal.repetition-returns-in_err-expect
repetition-returns-in_err-expect t c =
    let x = err_from_is_err_and c.from_residual-in_err-expect.result c.from_residual-in_err-expect.ensures.1 in
    let i = c.in_ok-inner.ensures in
    let a = reads_as c.args.parser.now c.advance.new.self (start While) c.requires.1 c.in_ok-advance.ensures in
    let g = looping c.args.depth.level c.in_ok-inner.inner.level c.args.parser.now c.advance.new.self c.args.table.now i.0 i.1 a in
    rw (x.1, x.2) (record { less = tt; is = test_alone g c.expr.new.parser c.expect.new.self c.expr.new.table c.expr.new.table c.in_ok-test.test c.in_err-expect.field-0.0 c.in_ok-test.ensures.is c.in_err-expect.ensures })

pub repetition-returns-in_err-body : goal.repetition-returns-in_err-body
repetition-returns-in_err-body t c =
    let x = err_from_is_err_and c.from_residual-in_err-body.result c.from_residual-in_err-body.ensures.1 in
    let i = c.in_ok-inner.ensures in
    let a = reads_as c.args.parser.now c.advance.new.self (start While) c.requires.1 c.in_ok-advance.ensures in
    let g = looping c.args.depth.level c.in_ok-inner.inner.level c.args.parser.now c.advance.new.self c.args.table.now i.0 i.1 a in
    rw (x.1, x.2) (record { less = tt; is = body_wrong g c.expr.new.parser c.expect.new.self c.cmd.new.parser c.cmd.new.parser c.expr.new.table c.cmd.new.table c.cmd.new.table c.in_ok-test.test c.in_err-body.field-0.0 c.in_ok-test.ensures.is c.in_ok-expect.ensures c.in_err-body.ensures.is })

pub repetition-returns : goal.repetition-returns
repetition-returns t c =
    let i = c.in_ok-inner.ensures in
    let a = reads_as c.args.parser.now c.advance.new.self (start While) c.requires.1 c.in_ok-advance.ensures in
    let g = looping c.args.depth.level c.in_ok-inner.inner.level c.args.parser.now c.advance.new.self c.args.table.now i.0 i.1 a in
    let u = c.in_ok-test.ensures in
    let b = c.in_ok-expect.ensures in
    let v = c.in_ok-body.ensures in
    record {
      less = less_looped c.args.parser.now c.advance.new.self c.expr.new.parser c.expect.new.self c.cmd.new.parser c.emit.new.self (start While) (mark Do) c.cmd.new.table c.emit.new.table (Loop c.in_ok-test.test c.in_ok-body.body) c.args.parser.now.lookahead.place c.in_ok-test.test c.in_ok-body.body c.emit.result c.requires.0 a u.less b v.less c.emit.ensures;
      is = looped c.args.depth.level c.in_ok-inner.inner.level c.args.parser.now c.advance.new.self c.expr.new.parser c.expect.new.self c.cmd.new.parser c.emit.new.self c.args.table.now c.expr.new.table c.cmd.new.table c.emit.new.table c.in_ok-test.test c.in_ok-body.body c.emit.result g u.is b v.is c.emit.ensures;
    }
