-- `clauses::write_declaration` meets its contract: one part after the other.
-- Assumes nothing.
use Rattle.spellings.proofs.Chains.{then_three}
use Rattle.clauses.proofs.write_declaration.Goals as goal

pub returns : goal.returns
returns c = search then_three
