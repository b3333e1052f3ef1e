use Rattle.running.proofs.Ways.{sheet_if, no_sheet_if}
use Rattle.running.proofs.is_sheet.Goals as goal

pub returns-then-width-gt0 : goal.returns-then-width-gt0
returns-then-width-gt0 c = search sheet_if

pub returns-else-width-gt0 : goal.returns-else-width-gt0
returns-else-width-gt0 c = search no_sheet_if
