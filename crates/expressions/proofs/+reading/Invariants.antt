use Rattle.std.specs.Prelude.{◌+◌, ◌-◌, ◌*◌, length}
use Rattle.expressions.proofs.Going.{Going}
use Rattle.expressions.proofs.+reading.Given as goal

abbrev pub decreases-read_arguments : goal.decreases-read_arguments
decreases-read_arguments l = 4 * (length l.tokens.now - l.i) + 3

abbrev pub decreases-read_expression : goal.decreases-read_expression
decreases-read_expression l = 4 * (length l.tokens.now - l.i) + 2

abbrev pub decreases-read_operand : goal.decreases-read_operand
decreases-read_operand l = 4 * (length l.tokens.now - l.i) + 1

abbrev pub decreases-read_primary : goal.decreases-read_primary
decreases-read_primary l = 4 * (length l.tokens.now - l.i) + 0

abbrev pub invariant-read_arguments-loop-e : goal.invariant-read_arguments-loop-e
invariant-read_arguments-loop-e l = Going l.left l.tokens l.i l.n l.initial.words l.at l.m l.words

abbrev pub decreases-read_arguments-loop-e : goal.decreases-read_arguments-loop-e
decreases-read_arguments-loop-e l = length l.tokens - l.at
