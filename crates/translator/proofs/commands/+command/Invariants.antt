use Rattle.translator.proofs.commands.+command.Given as goal

abbrev pub decreases-command : goal.decreases-command
decreases-command l = l.n
