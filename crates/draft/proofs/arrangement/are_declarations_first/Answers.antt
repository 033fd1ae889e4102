use Rattle.std.proofs.Common.{rules, sym, ◌∙◌, not}
use borrow.Author.Tests.{tests}
use Rattle.std.proofs.lemmas.Iterator.{YieldsList-from_slice}
use Rattle.std.proofs.lemmas.Iterator.Adapters.{YieldsList-from_skip_while}
use Rattle.std.proofs.lemmas.Iterator.Search.{all_from_yields_List}
use Rattle.tosca.specs.Opens.{is_decl}
use Rattle.draft.proofs.Arranging.{is, decls_skipped}
use Rattle.draft.proofs.arrangement.are_declarations_first.Goals as goal

pub returns : goal.returns
returns c =
    let t = c.args.entries.now in
    all_from_yields_List (λ e. not (is is_decl e)) _ _ _ c.all.ensures.ran (YieldsList-from_skip_while _ _ _ (is is_decl) _ (λ x b q k. search (rules, tests)) (YieldsList-from_slice t cc) c.skip_while.ensures.closure c.skip_while.ensures.done_skipping) (λ x b q k. search (rules, tests)) ∙ sym (decls_skipped t)
