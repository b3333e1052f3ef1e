-- `answers::write_answer` meets its contract: each case has its four words and its number.
use Rattle.answers.proofs.Written.{write_picture, write_number}
use Rattle.answers.proofs.write_answer.Goals as goal

pub returns-in-Picture : goal.returns-in-Picture
returns-in-Picture c = search write_picture

pub returns-in-Number : goal.returns-in-Number
returns-in-Number c = search write_number
