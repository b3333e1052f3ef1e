use Rattle.machine.specs.Operate.{operate}
use Rattle.machine.proofs.Acts.{goes_in, stops_in, in_both}
use Rattle.dispatch.proofs.on_mixed.Goals as goal

pub returns-in_err-usable : goal.returns-in_err-usable
unfolding operate
returns-in_err-usable c = record { does = λ m. stops_in _ (in_both c.in_err-usable.ensures _) c.from_residual.ensures.1 }

pub returns-in_err-usable-2 : goal.returns-in_err-usable-2
unfolding operate
returns-in_err-usable-2 c = record {
  does = λ m. goes_in _ (in_both c.in_ok-usable.ensures _) (stops_in _ (in_both c.in_err-usable-2.ensures _) c.from_residual-in_err-usable-2.ensures.1);
}

pub returns : goal.returns
unfolding operate
returns c = record { does = λ m. goes_in _ (in_both c.in_ok-usable.ensures _) (goes_in _ (in_both c.in_ok-usable-2.ensures _) (c.on_usable.ensures.does m)) }
