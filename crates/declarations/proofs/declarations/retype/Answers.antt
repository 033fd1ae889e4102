use Rattle.std.proofs.Common.{set, ap, arith}
use Rattle.tosca.specs.Table.{blank}
use Rattle.declarations.proofs.DeclarNames.{retype_one, retype_ends}
use Rattle.declarations.proofs.declarations.retype.Goals as goal

pub loop-entry-preserved : goal.loop-entry-preserved
loop-entry-preserved c = retype_one c.args.typ c.loop-entry.entry-index _ c.loop-entry.declared _ blank c.loop-entry.invariant (ap (λ e. set c.loop-entry.declared c.loop-entry.entry-index e) c.new.ensures)

pub returns : goal.returns
returns c = retype_ends c.args.typ c.args.first c.args.last c.min-first.result c.min-last.result c.loop-entry.entry-index c.args.table.now c.loop-entry.declared (omega arith) (omega arith) c.loop-entry-test.false c.loop-entry.invariant
