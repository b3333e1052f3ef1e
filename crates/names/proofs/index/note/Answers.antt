-- `names::index::note` meets its contract.
use Rattle.names.proofs.Noting.{note_own, note_older}
use Rattle.names.proofs.index.note.Goals as goal

pub returns-in-Some : goal.returns-in-Some
returns-in-Some c = search note_older

pub returns-in-None : goal.returns-in-None
returns-in-None c = search note_own
