use Rattle.tables.proofs.EntryLaws.{group_stored, value_stored}
use Rattle.tables.proofs.entries.store_entry.Goals as goal

pub returns-then-is_group_key : goal.returns-then-is_group_key
returns-then-is_group_key c = search group_stored

pub returns : goal.returns
returns c = search value_stored
