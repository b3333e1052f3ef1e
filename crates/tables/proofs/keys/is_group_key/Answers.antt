use Rattle.tables.proofs.KeyLaws.{no_group_key, group_key}
use Rattle.tables.proofs.keys.is_group_key.Goals as goal

pub returns-then-key-ne-SHAPE : goal.returns-then-key-ne-SHAPE
returns-then-key-ne-SHAPE c = search no_group_key

pub returns : goal.returns
returns c = search group_key
