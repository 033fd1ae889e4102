use Rattle.std.proofs.Common.{◌+◌, ◌*◌}
use Rattle.parser.specs.Feeds.{unread}
use Rattle.grammar.specs.Automaton.{cmds}
use Rattle.parser.proofs.Loops.{Looped}
use Rattle.commands.proofs.commands.+alternative_block_choice_cmd_cmds_repetition.Given as goal

-- unread tokens, and a level for each function
abbrev pub decreases-alternative : goal.decreases-alternative
decreases-alternative l = 3 * unread l.parser.now

abbrev pub decreases-block : goal.decreases-block
decreases-block l = 3 * unread l.parser.now

abbrev pub decreases-choice : goal.decreases-choice
decreases-choice l = 3 * unread l.parser.now

abbrev pub decreases-repetition : goal.decreases-repetition
decreases-repetition l = 3 * unread l.parser.now

abbrev pub decreases-cmd : goal.decreases-cmd
decreases-cmd l = 3 * unread l.parser.now + 1

abbrev pub decreases-cmds : goal.decreases-cmds
decreases-cmds l = 3 * unread l.parser.now + 2

abbrev pub invariant-cmds-loop-depth : goal.invariant-cmds-loop-depth
invariant-cmds-loop-depth l = Looped cmds l.depth.level l.initial.all l.initial.parser l.initial.table l.all l.parser l.table

abbrev pub decreases-cmds-loop-depth : goal.decreases-cmds-loop-depth
decreases-cmds-loop-depth l = unread l.parser
