use Rattle.running.proofs.Ways.{run_no_sheet, run_too_long, run_ready, run_as_read}
use Rattle.running.proofs.run.Goals as goal

pub clear_first-requires : goal.clear_first-requires
clear_first-requires c = c.requires.lent.room

pub returns-then-not-is_sheet : goal.returns-then-not-is_sheet
returns-then-not-is_sheet c = search run_no_sheet

pub returns-then-program-gt32768 : goal.returns-then-program-gt32768
returns-then-program-gt32768 c = search run_too_long

pub run_read-requires : goal.run_read-requires
run_read-requires c = search run_ready

pub returns : goal.returns
returns c = search run_as_read
