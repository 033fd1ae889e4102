use Rattle.std.proofs.Common.{rules, ℕ, ◌+◌, ◌<◌, ◌≤◌, List, length, map, Option, sym, subst, ap, ◌∙◌, arith}
use Rattle.std.specs.List.{flat_map}
use Rattle.std.specs.Option.{option_to_list}
use Rattle.std.proofs.lemmas.List.{take_all}
use Rattle.tosca.specs.Opens.{Part, uses}
use Rattle.draft.specs.declared.nodes.Part.{Part as NodePart}
use Rattle.draft.specs.Nodes.{part_of}
use Rattle.draft.specs.Uses.{Counts}
use Rattle.draft.proofs.Counting.{recount, uses_to, one_further, none_further}
use Rattle.draft.proofs.arrangement.count_parts.Goals as goal
use Rattle.draft.proofs.arrangement.count_parts.Goals.{in-Some, in_default}

pub loop-part-preserved : goal.loop-part-preserved
loop-part-preserved c f h =
    let ps = c.all_of-parts.result in
    let i = c.loop-part.part-index in
    let within : i < length ps = search rules in
    let before = c.loop-part.invariant f h in
    elim c.match-part.branch [
      | in-Some w ↦
          subst (λ (us : List ℕ). Counts us (λ k. f k + uses_to ps (i + 1) k)) (sym w.uses-is)
          (recount _ _ _ (λ k. omega (arith, one_further ps i within k w.in-Some.part w.in-Some.is)) (w.count_part.ensures _ before))
      | in_default w ↦
          subst (λ (us : List ℕ). Counts us (λ k. f k + uses_to ps (i + 1) k)) (sym w.uses-is)
          (recount _ _ _ (λ k. omega (arith, none_further ps i within k w.in_default.is)) before)
    ]

pub returns : goal.returns
returns c f h =
    let ps = c.all_of-parts.result in
    let i = c.loop-part.part-index in
    let past : length ps ≤ i = search rules in
    recount _ _ _
    (λ k. ap (λ (xs : List (Option NodePart)). f k + uses k (map part_of (flat_map option_to_list xs))) (take_all i ps past) ∙ ap (λ (qs : List Part). f k + uses k qs) (sym c.all_of-parts.ensures))
    (c.loop-part.invariant f h)
