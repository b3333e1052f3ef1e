use Rattle.values.proofs.Laws.{truth_is, untruth_is}
use Rattle.values.proofs.truth_word.Goals as goal

pub returns-then-b : goal.returns-then-b
returns-then-b c = search truth_is

pub returns-else-b : goal.returns-else-b
returns-else-b c = search untruth_is
