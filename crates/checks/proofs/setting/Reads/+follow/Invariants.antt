use Rattle.checks.proofs.setting.Reads.+follow.Given as goal

abbrev pub decreases-follow : goal.decreases-follow
decreases-follow l = l.n
