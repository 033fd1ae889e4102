use Rattle.std.proofs.Common.{refl, arith}
use Rattle.std.proofs.lemmas.List.{length-take}
use Rattle.code.proofs.Mountable.{mountable, code_is, rest_is, each_is, code_addressed}
use Rattle.code.proofs.mounted.Mounted.of.Goals as goal

pub decoded-requires : goal.decoded-requires
decoded-requires c =
    let m = mountable c.args.table.now c.args.count c.requires in
    omega (arith, length-take c.args.count c.args.table.now)

pub invariant_of-result : goal.invariant_of-result
invariant_of-result c =
    record { few = (mountable c.args.table.now c.args.count c.requires).few; within = code_addressed c.args.table.now c.decoded.result c.args.count c.decoded.ensures c.requires }

pub returns : goal.returns
returns c =
    let t = c.args.table.now in
    let n = c.args.count in
    let m = c.decoded.result in
    let e = c.decoded.ensures in
    record { count = refl; code = code_is t m n e c.requires; each = each_is t m n e c.requires; rest = rest_is t m n e c.requires }
