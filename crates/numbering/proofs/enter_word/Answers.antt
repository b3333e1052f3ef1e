use Rattle.numbering.proofs.Turns.{word_slot, word_declares, word_idle}
use Rattle.numbering.proofs.enter_word.Goals as goal

pub returns-then-slot : goal.returns-then-slot
returns-then-slot c = search word_slot

pub returns-then-tag_of-eq-DECLARE : goal.returns-then-tag_of-eq-DECLARE
returns-then-tag_of-eq-DECLARE c = search word_declares

pub returns : goal.returns
returns c = search word_idle
