use native.Mathlib.Omega.{arith}
use borrow.Author.Rules.{rules}
use Rattle.machine.specs.Texts.{join_texts}
use Rattle.machine.proofs.Acts.{goes_in, stops_in, loading_in, in_both, given}
use Rattle.texts.proofs.Laws.{used_small, lays_first, lays_second, joins}
use Rattle.texts.proofs.join_texts.Goals as goal

pub returns-in_err-pay : goal.returns-in_err-pay
unfolding join_texts
returns-in_err-pay c = loading_in _ _ (stops_in _ (in_both (rw (c.size_of.ensures, c.size_of-2.ensures) at c.in_err-pay.ensures) _) c.from_residual.ensures.1)

pub put_text-end-requires : goal.put_text-end-requires
put_text-end-requires c = lays_first c.args.program.now _ _ _ _ _ c.args.b _ _ _ c.size_of.ensures c.size_of-2.ensures c.in_ok-pay.ensures c.requires

pub put_text-requires : goal.put_text-requires
put_text-requires c = lays_second c.args.program.now _ _ _ _ _ c.args.b _ _ _ c.size_of.ensures c.size_of-2.ensures c.in_ok-pay.ensures c.requires _ _ c.put_text-end.ensures (search rules)

pub overflow_add-result-2 : goal.overflow_add-result-2
overflow_add-result-2 c = omega (arith, used_small c.args.program.now _ _ _ _ _ c.args.b _ _ _ c.size_of.ensures c.size_of-2.ensures c.in_ok-pay.ensures c.requires)

pub overflow_mul-result-2 : goal.overflow_mul-result-2
overflow_mul-result-2 c = omega (arith, used_small c.args.program.now _ _ _ _ _ c.args.b _ _ _ c.size_of.ensures c.size_of-2.ensures c.in_ok-pay.ensures c.requires)

pub overflow_add-result : goal.overflow_add-result
overflow_add-result c = omega (arith, used_small c.args.program.now _ _ _ _ _ c.args.b _ _ _ c.size_of.ensures c.size_of-2.ensures c.in_ok-pay.ensures c.requires)

pub returns : goal.returns
unfolding join_texts
returns c = rw (c.size_of.ensures, c.size_of-2.ensures) (loading_in _ _ (goes_in _ (in_both (rw (c.size_of.ensures, c.size_of-2.ensures) at c.in_ok-pay.ensures) _) (goes_in _ (joins c.args.program.now _ _ _ _ _ c.args.b _ _ _ c.size_of.ensures c.size_of-2.ensures c.in_ok-pay.ensures c.requires _ _ _ _ c.put_text-end.ensures c.put_text.ensures) (in_both (given _) _))))
