-- `picture::line::shown_size` meets its contract: by the kind.
-- Assumes nothing.
use Rattle.writing.proofs.Signs.{wide_seen}
use Rattle.picture.proofs.Turning.{shows_number, shows_size}
use Rattle.picture.proofs.line.shown_size.Goals as goal

pub overflow_cast-result : goal.overflow_cast-result
overflow_cast-result c = search wide_seen

pub returns-then-kind-eq-LINE : goal.returns-then-kind-eq-LINE
returns-then-kind-eq-LINE c = search shows_number

pub returns-else-kind-eq-LINE : goal.returns-else-kind-eq-LINE
returns-else-kind-eq-LINE c = search shows_size
