use Rattle.tables.proofs.HashLaws.{hash_figure}
use Rattle.tables.proofs.hashes.hash_figure.Goals as goal

pub returns : goal.returns
returns c = search hash_figure
