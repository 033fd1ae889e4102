use Rattle.std.proofs.Common.{rules, ◌-◌, ◌&&◌, not, length, take, sym, ap, ◌∙◌}
use borrow.Author.Tests.{tests}
use Rattle.std.specs.List.{list_any}
use Rattle.std.proofs.lemmas.Iterator.{YieldsList-from_slice}
use Rattle.std.proofs.lemmas.Iterator.Search.{any_from_yields_List}
use Rattle.tosca.specs.Opens.{is_program}
use Rattle.draft.proofs.Arranging.{is, program_ends}
use Rattle.draft.proofs.arrangement.is_program_last.Goals as goal

pub returns-then-has_sort : goal.returns-then-has_sort
returns-then-has_sort c =
    let t = c.args.entries.now in
    ap not (any_from_yields_List (is is_program) _ _ _ c.any.ensures.ran (YieldsList-from_slice (take (length t - 1) t) cc) (λ x b q k. search (rules, tests)))
    ∙ sym (program_ends t c.in-len1-up.len_at_least ∙ ap (λ b. b && not (list_any (is is_program) (take (length t - 1) t))) (sym c.has_sort.ensures ∙ c.if-has_sort.true))

pub returns-else-has_sort : goal.returns-else-has_sort
returns-else-has_sort c =
    let t = c.args.entries.now in
    c.if-has_sort.false ∙ sym (program_ends t c.in-len1-up.len_at_least ∙ ap (λ b. b && not (list_any (is is_program) (take (length t - 1) t))) (sym c.has_sort.ensures ∙ c.if-has_sort.false))
