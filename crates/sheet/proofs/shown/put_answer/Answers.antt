-- `sheet::shown::put_answer` meets its contract: by the cases of the answer.
-- Assumes nothing.
use Rattle.sheet.proofs.Fronts.{picture_front, error_front}
use Rattle.sheet.proofs.shown.put_answer.Goals as goal

pub returns-in-Picture : goal.returns-in-Picture
returns-in-Picture c = picture_front _ _ _ _ _ c.in-Picture.is c.min.ensures

pub returns-in-Number : goal.returns-in-Number
returns-in-Number c = error_front _ _ _ _ _ _ _ _ c.in-Number.is c.requires
    c.write_error.ensures
