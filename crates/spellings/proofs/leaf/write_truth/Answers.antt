-- `spellings::leaf::write_truth` meets its contract: by the number.
-- Assumes nothing.
use Rattle.spellings.proofs.Leaves.{truth_false, truth_true}
use Rattle.spellings.proofs.leaf.write_truth.Goals as goal

pub returns-then-number_of-eq0 : goal.returns-then-number_of-eq0
returns-then-number_of-eq0 c = search truth_false

pub returns : goal.returns
returns c = search truth_true
