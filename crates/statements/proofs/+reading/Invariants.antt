use Rattle.std.specs.Prelude.{◌+◌, ◌-◌, ◌*◌, length}
use Rattle.statements.proofs.Going.{Going}
use Rattle.statements.proofs.+reading.Given as goal

abbrev pub decreases-read_block : goal.decreases-read_block
decreases-read_block l = 3 * (length l.tokens.now - l.i) + 0

abbrev pub decreases-read_foreach : goal.decreases-read_foreach
decreases-read_foreach l = 3 * (length l.tokens.now - l.i) + 0

abbrev pub decreases-read_guarded : goal.decreases-read_guarded
decreases-read_guarded l = 3 * (length l.tokens.now - l.i) + 0

abbrev pub decreases-read_statement : goal.decreases-read_statement
decreases-read_statement l = 3 * (length l.tokens.now - l.i) + 1

abbrev pub decreases-read_statements : goal.decreases-read_statements
decreases-read_statements l = 3 * (length l.tokens.now - l.i) + 2

abbrev pub invariant-read_statements-loop-e : goal.invariant-read_statements-loop-e
invariant-read_statements-loop-e l = Going l.left l.tokens l.i l.n l.initial.words l.at l.m l.words

abbrev pub decreases-read_statements-loop-e : goal.decreases-read_statements-loop-e
decreases-read_statements-loop-e l = length l.tokens - l.at
