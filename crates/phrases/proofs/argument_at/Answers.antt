-- `phrases::argument_at` meets its contract: the word's own root.
-- Assumes nothing.
use Rattle.phrases.proofs.argument_at.Goals as goal

pub returns : goal.returns
returns c = cc
