use Rattle.std.specs.Prelude.{◌+◌, ◌-◌, ◌*◌}
use Rattle.phrases.proofs.Expressions.{operand_work, primary_work}
use Rattle.phrases.proofs.Expressions.{Listing}
use Rattle.phrases.proofs.+writing.Given as goal

abbrev pub decreases-write_arguments : goal.decreases-write_arguments
decreases-write_arguments l = 16 * l.fuel + 6

abbrev pub decreases-write_behind : goal.decreases-write_behind
decreases-write_behind l = 16 * l.fuel + 5

abbrev pub decreases-write_between : goal.decreases-write_between
decreases-write_between l = 16 * l.fuel + 6

abbrev pub decreases-write_call : goal.decreases-write_call
decreases-write_call l = 16 * l.fuel + 7

abbrev pub decreases-write_entry : goal.decreases-write_entry
decreases-write_entry l = 16 * l.fuel + 8

abbrev pub decreases-write_expression : goal.decreases-write_expression
decreases-write_expression l = 16 * l.fuel + 4

abbrev pub decreases-write_operand : goal.decreases-write_operand
decreases-write_operand l = operand_work l.code.now l.fuel l.x

abbrev pub decreases-write_primary : goal.decreases-write_primary
decreases-write_primary l = primary_work l.code.now l.fuel l.x

abbrev pub invariant-write_arguments-loop-y : goal.invariant-write_arguments-loop-y
invariant-write_arguments-loop-y l = Listing l.program l.tokens l.code l.fuel l.initial.y l.x l.initial.next l.initial.out l.out l.next l.y

abbrev pub decreases-write_arguments-loop-y : goal.decreases-write_arguments-loop-y
decreases-write_arguments-loop-y l = l.x - l.y
