use Rattle.std.proofs.Common.{◌≡◌, ◌∙◌, take, ap}
use Rattle.std.specs.List.{slice_get}
use Rattle.parser.specs.Numbering.{spelled}
use Rattle.parser.proofs.NameList.{copied_from, nth_front}
use Rattle.parser.proofs.names.Names.spelling.Goals as goal

pub returns : goal.returns
returns c =
    let m = c.args.self.now in
    let h = c.get.ensures.lookup in
    let e : c.copied.result ≡ slice_get (take m.count m.words) c.args.n = rw (c.copied.ensures, ← c.known.ensures, ← c.from.ensures) (copied_from c.get.result c.known.result.now c.from.result h.0 h.1) in
    ap spelled e ∙ nth_front m.words m.count c.args.n
