use Rattle.checks.proofs.setting.Reads.+unset_in.Given as goal

abbrev pub decreases-unset_in : goal.decreases-unset_in
decreases-unset_in l = l.n
