use Rattle.tables.proofs.HashLaws.{hash_halves}
use Rattle.tables.proofs.hashes.hash_word.Goals as goal

pub returns : goal.returns
returns c = search hash_halves
