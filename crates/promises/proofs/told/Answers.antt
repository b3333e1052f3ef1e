-- `promises::told` meets its contract, by whether the number is 0.
use Rattle.promises.proofs.Calls.{told_picture, told_number}
use Rattle.promises.proofs.told.Goals as goal

pub returns-then-n-eq0 : goal.returns-then-n-eq0
returns-then-n-eq0 c = search told_picture

pub returns : goal.returns
returns c = search told_number
