use Rattle.std.proofs.Common.{◌≡◌, Result, sym, subst}
use Rattle.draft.specs.Opening.{tree_of}
use Rattle.statics.specs.declared.rules.Violation.{Violation}
use Rattle.statics.specs.Checking.{checking}
use Rattle.statics.specs.StaticLaws.{Judged}
use Rattle.statics.proofs.Judging.{static_laws}
use Rattle.checks.proofs.checking.check.Goals as goal

pub returns : goal.returns
unfolding checking
returns c =
    let p = tree_of c.args.draft.now in
    let is : c.ask_all.result ≡ checking p = c.ask_all.ensures in
    record { is = is; judged = subst (λ (r : Result (Unit {0}) Violation). Judged p r) (sym is) (static_laws p) }
