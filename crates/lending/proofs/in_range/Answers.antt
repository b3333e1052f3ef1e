use Rattle.lending.proofs.Admitted.{steps_out, shapes_out, entries_out, text_out, no_call, calls_asked}
use Rattle.lending.proofs.in_range.Goals as goal

pub returns-then-grants-gt4294967295 : goal.returns-then-grants-gt4294967295
returns-then-grants-gt4294967295 c = search steps_out

pub returns-then-grants-gt65535 : goal.returns-then-grants-gt65535
returns-then-grants-gt65535 c = search shapes_out

pub returns-then-grants-gt65535-2 : goal.returns-then-grants-gt65535-2
returns-then-grants-gt65535-2 c = search entries_out

pub returns-then-grants-gt65535-3 : goal.returns-then-grants-gt65535-3
returns-then-grants-gt65535-3 c = search text_out

pub returns-then-grants-lt1 : goal.returns-then-grants-lt1
returns-then-grants-lt1 c = search no_call

pub returns : goal.returns
returns c = search calls_asked
