use Rattle.std.proofs.Common.{◌≡◌, ℕ, ◌<◌, length, get_or, sym, ap, ◌∙◌, arith}
use Rattle.std.proofs.lemmas.List.{get_or_default}
use Rattle.tosca.specs.Decode.{expr_at}
use Rattle.draft.specs.Opening.{entries_of}
use Rattle.draft.proofs.Facts.{var_fact, uny_fact, bin_fact}
use Rattle.walk.specs.Readings.{holds}
use Rattle.checks.proofs.Unset.{part, unset_covered, var_set, var_unset, uny_unset, bin_unset, other_unset}
use Rattle.checks.proofs.setting.Reads.+unset_in.Goals as goal

pub returns-then-covers : goal.returns-then-covers
returns-then-covers t c =
    let n = c.args.n in
    let r = c.args.self.now in
    let within : n < length r.reads.now = omega (arith, c.requires.below, r.room) in
    let d = c.index-self-from.result in
    let at : get_or r.reads.now c.from.result d ≡ get_or r.reads.now n 0 = ap (λ (k : ℕ). get_or r.reads.now k d) c.from.ensures ∙ sym (get_or_default r.reads.now n 0 d within) in
    unset_covered (get_or r.reads.now c.from.result d) c.args.set (expr_at (entries_of r.draft.now) n)
    (λ x reads. ap (λ (s : ℕ). holds s x) at ∙ r.read n x within c.requires.is reads) c.if-covers.ensures

pub has-requires : goal.has-requires
has-requires t c = var_fact _ c.args.self.now.draft.now.formed _ c.requires.below c.in-Var.ensures

pub unset_in-requires : goal.unset_in-requires
unset_in-requires t c =
    let f = uny_fact _ c.args.self.now.draft.now.formed _ c.requires.below c.in-Uny.ensures in
    (omega (arith, c.decreases, f.0), part c.requires f.0 f.1)

pub unset_in-requires-in-Bin : goal.unset_in-requires-in-Bin
unset_in-requires-in-Bin t c =
    let f = bin_fact _ c.args.self.now.draft.now.formed _ c.requires.below c.in-Bin.ensures in
    (omega (arith, c.decreases, f.0), part c.requires f.0 f.1)

pub unset_in-requires-in-Bin-2 : goal.unset_in-requires-in-Bin-2
unset_in-requires-in-Bin-2 t c =
    let f = bin_fact _ c.args.self.now.draft.now.formed _ c.requires.below c.in-Bin.ensures in
    (omega (arith, c.decreases, f.2), part c.requires f.2 f.3)

pub returns-then-has : goal.returns-then-has
returns-then-has t c = var_set _ c.args.self.now.draft.now.formed _ c.requires.below (holds c.args.set) c.in-Var.ensures c.if-has.ensures

pub returns-else-has : goal.returns-else-has
returns-else-has t c = var_unset _ c.args.self.now.draft.now.formed _ c.requires.below (holds c.args.set) c.in-Var.ensures c.if-has.ensures

pub returns-in-Uny : goal.returns-in-Uny
returns-in-Uny t c = uny_unset _ c.args.self.now.draft.now.formed _ c.requires.below (holds c.args.set) c.in-Uny.ensures c.unset_in.ensures

pub returns-in-Bin : goal.returns-in-Bin
returns-in-Bin t c = bin_unset _ c.args.self.now.draft.now.formed _ c.requires.below (holds c.args.set) c.in-Bin.ensures c.unset_in-in-Bin.ensures c.unset_in-in-Bin-2.ensures c.lower.ensures

pub returns-in_default : goal.returns-in_default
returns-in_default t c = other_unset _ c.args.self.now.draft.now.formed _ c.requires.below (holds c.args.set) c.node_at.result c.node_at.ensures c.in_default.not-Var c.in_default.not-Uny c.in_default.not-Bin
