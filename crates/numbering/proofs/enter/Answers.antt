use Rattle.numbering.proofs.Turns.{enter_again, enter_new}
use Rattle.numbering.proofs.enter.Goals as goal

pub returns-then-is_entered : goal.returns-then-is_entered
returns-then-is_entered c = search enter_again

pub returns : goal.returns
returns c = search enter_new
