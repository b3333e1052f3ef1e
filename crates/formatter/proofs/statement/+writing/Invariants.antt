use Rattle.std.specs.Prelude.{◌+◌, ◌-◌, ◌*◌}
use Rattle.formatter.proofs.Statements.{Following}
use Rattle.formatter.proofs.statement.+writing.Given as goal

abbrev pub decreases-write_block : goal.decreases-write_block
decreases-write_block l = 4 * l.fuel + 3

abbrev pub decreases-write_foreach : goal.decreases-write_foreach
decreases-write_foreach l = 4 * l.fuel + 1

abbrev pub decreases-write_guarded : goal.decreases-write_guarded
decreases-write_guarded l = 4 * l.fuel + 1

abbrev pub decreases-write_line : goal.decreases-write_line
decreases-write_line l = 4 * l.fuel + 1

abbrev pub decreases-write_statement : goal.decreases-write_statement
decreases-write_statement l = 4 * l.fuel

abbrev pub decreases-write_statements : goal.decreases-write_statements
decreases-write_statements l = 4 * l.fuel + 2

abbrev pub invariant-write_statements-loop : goal.invariant-write_statements-loop
invariant-write_statements-loop l =
    Following l.program l.tokens l.code l.fuel l.first l.end l.rounds l.at l.initial.out l.out l.next l.x (l.rounds - l.counter)
