use Rattle.grammar.specs.Listing.{list}
use Rattle.grammar.proofs.Laws.{complete, sound, reasoned, one_tree}
use Rattle.grammar.proofs.theorems.grammar_laws.Goals as goal

pub returns : goal.returns
returns c = record { complete = complete list; sound = sound list; reasoned = reasoned list; one_tree = one_tree }
