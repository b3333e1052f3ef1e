use Rattle.arguments.proofs.ArgumentLaws.{ask_first, ask_dead, ask_more, ask_all}
use Rattle.arguments.proofs.all_usable.Goals as goal

pub loop-k-init : goal.loop-k-init
loop-k-init c = ask_first _ _ _ _

pub returns-in_err-usable : goal.returns-in_err-usable
returns-in_err-usable c = ask_dead _ _ _ _ _ c.loop-k.invariant c.loop-k-test.true c.argument.ensures c.in_err-usable.ensures c.from_residual.ensures.1

pub loop-k-preserved : goal.loop-k-preserved
loop-k-preserved c = ask_more _ _ _ _ _ c.loop-k.invariant c.loop-k-test.true c.argument.ensures c.in_ok-usable.ensures

pub returns : goal.returns
returns c = ask_all _ _ _ _ _ c.loop-k.invariant c.loop-k-test.false
