use Rattle.texts.proofs.Laws.{of_program, of_store}
use Rattle.texts.proofs.text_of.Goals as goal

pub returns-then-h-eq0 : goal.returns-then-h-eq0
returns-then-h-eq0 c = search of_program

pub returns : goal.returns
returns c = search of_store
