use Rattle.pairs.proofs.PairLaws.{pair_stops, keeps, pair_follows}
use Rattle.pairs.proofs.pair.Goals as goal

pub returns-in_err-take_step : goal.returns-in_err-take_step
returns-in_err-take_step c = pair_stops _ _ _ _ _ _ _ _ c.requires _ _ _ _ _ c.in_err-take_step.ensures c.from_residual.ensures.1

pub follow-requires : goal.follow-requires
follow-requires c = keeps _ _ _ _ _ _ _ _ c.requires _ c.in_ok-take_step.ensures _ c.keep.ensures c.take_step.auto.words

pub returns : goal.returns
returns c = pair_follows _ _ _ _ _ _ _ _ c.requires _ c.in_ok-take_step.ensures _ c.keep.ensures _ _ _ c.follow.ensures
