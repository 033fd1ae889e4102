use Rattle.std.proofs.Common.{List, ap, ◌∙◌}
use Rattle.std.specs.List.{slice_get}
use Rattle.aida.specs.declared.instructions.Coded.{Coded}
use Rattle.code.specs.Mounting.{code_of}
use Rattle.code.proofs.Counters.{found_is, within_found}
use Rattle.code.proofs.mounted.Mounted.instruction.Goals as goal

pub returns : goal.returns
returns c =
    let m = c.args.self.now in
    let k = c.args.counter in
    let same = c.at.ensures ∙ ap (λ (is : List Coded). slice_get is k) c.instructions.ensures ∙ found_is (code_of m) k in
    record { is = same; within = within_found m k _ same }
