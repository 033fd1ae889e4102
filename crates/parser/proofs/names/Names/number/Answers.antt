use Rattle.std.proofs.Common.{◌∙◌, sym, arith}
use Rattle.parser.proofs.NameList.{is_old, is_new, is_last, found, missed}
use Rattle.parser.proofs.names.Names.number.Goals as goal

pub returns : goal.returns
returns c =
    let m = c.args.self.now in
    is_new m c.args.word c.if-not-self.false (omega arith) (missed c.args.word.now m.words m.count (omega arith) (sym c.in_default.is ∙ c.position.ensures)) (omega arith)

pub returns-in-Some : goal.returns-in-Some
returns-in-Some c =
    let m = c.args.self.now in
    let i = found c.args.word.now m.words m.count c.in-Some.n (omega arith) (sym c.in-Some.is ∙ c.position.ensures) in
    is_old m c.args.word.now c.in-Some.n c.requires c.if-not-self.false (omega arith) i.0 i.1

pub returns-then-n-eq-MAX_NAMES : goal.returns-then-n-eq-MAX_NAMES
returns-then-n-eq-MAX_NAMES c =
    let m = c.args.self.now in
    is_last m c.args.word.now c.if-not-self.false c.if-n-eq-MAX_NAMES.true (missed c.args.word.now m.words m.count (omega arith) (sym c.in_default.is ∙ c.position.ensures))
