use Rattle.std.proofs.Common.{◌+◌, ◌*◌}
use Rattle.parser.specs.Feeds.{unread}
use Rattle.grammar.specs.Automaton.{simples, terms}
use Rattle.parser.proofs.Loops.{Looped}
use Rattle.expressions.proofs.expressions.+bracketed_expr_factor_first_term_negated_next_term_rounded_simple_term.Given as goal

-- unread tokens, and a level for each function
abbrev pub decreases-bracketed : goal.decreases-bracketed
decreases-bracketed l = 6 * unread l.parser.now

abbrev pub decreases-negated : goal.decreases-negated
decreases-negated l = 6 * unread l.parser.now

abbrev pub decreases-rounded : goal.decreases-rounded
decreases-rounded l = 6 * unread l.parser.now

abbrev pub decreases-factor : goal.decreases-factor
decreases-factor l = 6 * unread l.parser.now + 1

abbrev pub decreases-term : goal.decreases-term
decreases-term l = 6 * unread l.parser.now + 2

abbrev pub decreases-first_term : goal.decreases-first_term
decreases-first_term l = 6 * unread l.parser.now + 3

abbrev pub decreases-simple : goal.decreases-simple
decreases-simple l = 6 * unread l.parser.now + 4

abbrev pub decreases-next_term : goal.decreases-next_term
decreases-next_term l = 6 * unread l.parser.now + 5

abbrev pub decreases-expr : goal.decreases-expr
decreases-expr l = 6 * unread l.parser.now + 5

abbrev pub invariant-simple-loop-op : goal.invariant-simple-loop-op
invariant-simple-loop-op l = Looped simples l.depth.level l.initial.left l.initial.parser l.initial.table l.left l.parser l.table

abbrev pub decreases-simple-loop-op : goal.decreases-simple-loop-op
decreases-simple-loop-op l = unread l.parser

abbrev pub invariant-term-loop-op : goal.invariant-term-loop-op
invariant-term-loop-op l = Looped terms l.depth.level l.initial.left l.initial.parser l.initial.table l.left l.parser l.table

abbrev pub decreases-term-loop-op : goal.decreases-term-loop-op
decreases-term-loop-op l = unread l.parser
