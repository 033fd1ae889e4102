-- The grammar's laws, whatever is built.
use Rattle.grammar.specs.Building.{Act}
use Rattle.grammar.specs.Limits.{Complete, Sound, Reasoned, OneTree}
use Rattle.grammar.proofs.Asking as asking
use Rattle.grammar.proofs.Reasons as reasons
use Rattle.grammar.proofs.OneTree as tree

pub complete : {S : Type 0} (act : Act → S → S) → Complete S act
complete act = asking.complete act

pub sound : {S : Type 0} (act : Act → S → S) → Sound S act
sound act = asking.sound act

pub reasoned : {S : Type 0} (act : Act → S → S) → Reasoned S act
reasoned act = reasons.reasoned act

pub one_tree : OneTree
one_tree = tree.one_tree
