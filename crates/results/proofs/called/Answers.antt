use Rattle.machine.proofs.Acts.{goes, stops, sure, given}
use Rattle.results.proofs.Laws.{called_by}
use Rattle.results.proofs.called.Goals as goal

pub returns-in_err-v : goal.returns-in_err-v
returns-in_err-v c = called_by _ _ _ _ _ _ _ _ _ c.arguments_held.ensures c.lowered_word-n.ensures
    (stops _ c.in_err-v.ensures c.from_residual.ensures.1)

pub returns : goal.returns
returns c = called_by _ _ _ _ _ _ _ _ _ c.arguments_held.ensures c.lowered_word-n.ensures
    (goes _ c.in_ok-v.ensures (goes _ (sure c.drop_to.ensures) (given _)))
