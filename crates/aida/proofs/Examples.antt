-- The worked examples, by computation.
use Rattle.std.proofs.Common.{refl}
use Rattle.aida.specs.Source.{updated, on_value, computed, only_if, eval, and_then, with_value, assigned, received, sent_if, branch, turn_if, pass, iterate, exec, ended}
use Rattle.aida.specs.Templates.{expr_length, expr_code, cmd_length, cmd_code}
use Rattle.aida.specs.Refusals.{run_refusal}
use Rattle.aida.specs.Plan.{feed_if, take_from, keep, run_unless, plan, answers, plan_after}
use Rattle.aida.specs.Worked.{Worked}

pub worked : Worked
unfolding updated on_value computed only_if eval and_then with_value assigned received sent_if branch turn_if pass iterate exec ended expr_length expr_code cmd_length cmd_code run_refusal feed_if take_from keep run_unless plan answers plan_after
worked = record {
  empty_code = refl;
  empty_run = refl;
  lowering_code = refl;
  drying_spent = refl;
  drying_m = refl;
  drying_t = refl;
  drying_sent = refl;
  drying_answers = refl;
  drying_at_once = refl;
  right_first = refl;
}
