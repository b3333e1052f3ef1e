use Rattle.texts.proofs.Laws.{same_handle, same_texts}
use Rattle.texts.proofs.same_text.Goals as goal

pub returns-then-a-b : goal.returns-then-a-b
returns-then-a-b c = search same_handle

pub returns : goal.returns
returns c = search same_texts
