use Rattle.tables.proofs.KeyLaws.{other_owner, by_key}
use Rattle.tables.proofs.entries.entry_matches.Goals as goal

pub returns-then-words-at : goal.returns-then-words-at
returns-then-words-at c = search other_owner

pub returns : goal.returns
returns c = search by_key
