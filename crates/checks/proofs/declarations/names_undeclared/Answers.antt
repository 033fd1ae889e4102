use Rattle.draft.specs.Opening.{entries_of}
use Rattle.checks.proofs.Within.{used_name}
use Rattle.checks.proofs.declarations.names_undeclared.Goals as goal

pub is_undeclared-requires : goal.is_undeclared-requires
is_undeclared-requires c = used_name (entries_of c.args.draft.now) c.args.draft.now.formed c.args.n c.requires c.node_at.result c.node_at.ensures c.in-Var.name c.in-Var.is
