-- A checked routine is never stuck, and its code's targets and cells exist.
use Rattle.std.specs.Prelude.{◌≡◌, ℕ, true, length, None, ◌≢◌}
use Rattle.tosca.specs.Trees.{Program}
use Rattle.aida.specs.Source.{Given, source_run}
use Rattle.aida.specs.Templates.{code}
use Rattle.aida.specs.TemplateLaws.{all_addressed}
use Rattle.agreement.specs.Premises.{CmdFits, Checked}

abbrev pub NeverStuck : Type 0
NeverStuck = (p : Program ℕ) → Checked p → (g : Given) → source_run p g ≢ None

abbrev pub Addressed : Type 0
Addressed = (p : Program ℕ) → CmdFits p.body → all_addressed (length (code p)) (code p) ≡ true
