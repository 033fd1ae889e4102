use Rattle.std.proofs.Common.{refl}
use Rattle.draft.proofs.Padding.{opened_is, nodes_are, nodes_formed, nodes_tree}
use Rattle.draft.proofs.opening.Candidate.draft.Goals as goal

pub invariant_of-result : goal.invariant_of-result
invariant_of-result c =
    let t = c.args.self.table.now in
    let n = c.args.self.count in
    record { few = (opened_is t n c.requires).few; formed = nodes_formed t c.padded.result n c.padded.ensures c.requires }

pub returns : goal.returns
returns c =
    let t = c.args.self.table.now in
    let n = c.args.self.count in
    (refl, nodes_are t c.padded.result n c.padded.ensures c.requires, nodes_tree t c.padded.result n c.padded.ensures c.requires)
