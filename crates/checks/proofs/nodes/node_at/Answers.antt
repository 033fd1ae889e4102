use Rattle.std.proofs.Common.{◌≡◌, ℕ, List, get_or, Some, refl, ◌∙◌, ap₂}
use Rattle.tosca.specs.Table.{blank, node}
use Rattle.tosca.specs.declared.table.Entry.{Entry}
use Rattle.draft.specs.Opening.{entries_of}
use Rattle.draft.proofs.Facts.{some_node}
use Rattle.checks.proofs.nodes.node_at.Goals as goal

pub unwrap-requires : goal.unwrap-requires
unwrap-requires c =
    let f = some_node (entries_of c.args.draft.now) c.args.draft.now.formed c.args.n c.requires in
    let e : c.node.result ≡ Some f.0 = c.node.ensures ∙ ap₂ (λ (t : List Entry) (n : ℕ). node (get_or t n blank)) c.entries.ensures c.from.ensures ∙ f.1 in
    rw e refl
