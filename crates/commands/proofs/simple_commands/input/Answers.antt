use Rattle.grammar.specs.declared.symbols.Start.TheVariants.{Read}
use Rattle.grammar.specs.Tokens.{start}
use Rattle.parser.proofs.CommandSteps.{reads_as}
use Rattle.commands.proofs.CommandSimple.{inputs}
use Rattle.commands.proofs.simple_commands.input.Goals as goal

pub returns-clause-is : goal.returns-clause-is
returns-clause-is c =
    let n = c.in_ok-name.ensures in
    let a = reads_as c.args.parser.now c.advance.new.self (start Read) c.requires.1 c.in_ok-advance.ensures in
    let b = c.in_ok-open.ensures in
    let e = c.in_ok-expect.ensures in
    λ d h. inputs d c.args.parser.now c.advance.new.self c.open.new.self c.name.new.self c.emit-number.new.self c.expect.new.self c.args.table.now c.emit-number.new.table c.in_ok-name.name c.emit-number.result h n.0 a b n.1 c.emit-number.ensures e
