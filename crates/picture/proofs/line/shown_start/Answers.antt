-- `picture::line::shown_start` meets its contract: by the kind.
-- Assumes nothing.
use Rattle.writing.proofs.Signs.{wide_seen}
use Rattle.picture.proofs.Turning.{shows_place, shows_side}
use Rattle.picture.proofs.line.shown_start.Goals as goal

pub overflow_cast-result : goal.overflow_cast-result
overflow_cast-result c = search wide_seen

pub returns-then-kind-eq-BOX : goal.returns-then-kind-eq-BOX
returns-then-kind-eq-BOX c = search shows_side

pub returns-else-kind-eq-BOX : goal.returns-else-kind-eq-BOX
returns-else-kind-eq-BOX c = search shows_place
