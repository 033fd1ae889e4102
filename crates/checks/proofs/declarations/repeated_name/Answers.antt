use Rattle.std.proofs.Common.{ℕ, ◌+◌, ◌<◌, ◌≤◌, length, sym, ap, ◌∙◌, arith}
use Rattle.draft.specs.Opening.{entries_of}
use Rattle.draft.proofs.Facts.{decl_fact}
use Rattle.checks.proofs.Repeats.{Left, left_all, left_none, left_here, left_later, left_other}
use Rattle.checks.proofs.declarations.repeated_name.Goals as goal
use Rattle.checks.proofs.declarations.repeated_name.Goals.{in-Decl+else-has, in_default}

pub loop-n-init : goal.loop-n-init
loop-n-init c = left_all (entries_of c.args.draft.now) _ c.none-seen.ensures

pub has-requires : goal.has-requires
has-requires c = decl_fact (entries_of c.args.draft.now) c.args.draft.now.formed c.loop-n.n (omega (arith, c.loop-n-test.true, c.count-n-end.ensures)) c.in-Decl.ensures

pub returns-then-has : goal.returns-then-has
returns-then-has c =
    let t = entries_of c.args.draft.now in
    let below : c.loop-n.n < length t = omega (arith, c.loop-n-test.true, c.count-n-end.ensures) in
    sym (c.loop-n.invariant ∙ left_here t c.loop-n.seen c.loop-n.n below c.in-Decl.ensures c.if-has.ensures)

pub with-seen-requires : goal.with-seen-requires
with-seen-requires c = decl_fact (entries_of c.args.draft.now) c.args.draft.now.formed c.loop-n.n (omega (arith, c.loop-n-test.true, c.count-n-end.ensures)) c.in-Decl.ensures

pub loop-n-preserved : goal.loop-n-preserved
loop-n-preserved c =
    let t = entries_of c.args.draft.now in
    let n = c.loop-n.n in
    let below : n < length t = omega (arith, c.loop-n-test.true, c.count-n-end.ensures) in
    elim c.match-node_at.branch [
      | in-Decl+else-has w ↦ c.loop-n.invariant ∙ left_later t c.loop-n.seen n below w.in-Decl.ensures w.if-has.ensures (w.seen-is ∙ w.with-seen.ensures)
      | in_default w ↦ c.loop-n.invariant ∙ left_other t c.loop-n.seen n below c.node_at.result c.node_at.ensures w.in_default.not-Decl ∙ ap (λ (s : ℕ). Left t s (n + 1)) (sym w.seen-is)
    ]

pub returns : goal.returns
returns c =
    let t = entries_of c.args.draft.now in
    let past : length t ≤ c.loop-n.n = omega (arith, c.loop-n-test.false, c.count-n-end.ensures) in
    sym (c.loop-n.invariant ∙ left_none t c.loop-n.seen c.loop-n.n past)
