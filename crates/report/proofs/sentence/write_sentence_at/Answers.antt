-- `report::sentence::write_sentence_at` meets its contract: a sentence for each number.
-- Assumes nothing.
use Rattle.report.proofs.Wording.{said_malformed, said_doubled, said_long, said_many, said_deep, said_other}
use Rattle.report.proofs.sentence.write_sentence_at.Goals as goal

pub returns-in-10 : goal.returns-in-10
returns-in-10 c = search said_malformed

pub returns-in-60 : goal.returns-in-60
returns-in-60 c = search said_doubled

pub returns-in-73 : goal.returns-in-73
returns-in-73 c = search said_long

pub returns-in-74 : goal.returns-in-74
returns-in-74 c = search said_many

pub returns-in-75 : goal.returns-in-75
returns-in-75 c = search said_deep

pub returns-in_default : goal.returns-in_default
returns-in_default c = search said_other
