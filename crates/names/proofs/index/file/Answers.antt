-- `names::index::file` meets its contract: what the look-up found is the token's home.
use Rattle.names.proofs.Noting.{files_look, files_note, filed, skip}
use Rattle.names.proofs.index.file.Goals as goal

pub find-entry-requires : goal.find-entry-requires
find-entry-requires c = search files_look

pub note-requires : goal.note-requires
note-requires c = search files_note

pub returns-then-is_named : goal.returns-then-is_named
returns-then-is_named c = search filed

pub returns-else-is_named : goal.returns-else-is_named
returns-else-is_named c = search skip
