-- `picture::line::side_start` meets its contract: the sum of two numbers of 32 bits fits 64.
-- Assumes nothing.
use Rattle.writing.proofs.Signs.{wide_seen}
use Rattle.picture.proofs.Turning.{start_fits, start_is, start_kept}
use Rattle.picture.proofs.line.side_start.Goals as goal

pub overflow_cast-start : goal.overflow_cast-start
overflow_cast-start c = search wide_seen

pub overflow_cast-result : goal.overflow_cast-result
overflow_cast-result c = search wide_seen

pub overflow_add-result : goal.overflow_add-result
overflow_add-result c = search start_fits

pub returns-then-size-lt0 : goal.returns-then-size-lt0
returns-then-size-lt0 c = search start_is

pub returns-else-size-lt0 : goal.returns-else-size-lt0
returns-else-size-lt0 c = search start_kept
