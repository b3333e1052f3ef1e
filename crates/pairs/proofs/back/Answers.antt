use Rattle.pairs.proofs.PairLaws.{back_both_lem, back_fits, back_fits'}
use Rattle.pairs.proofs.back.Goals as goal

pub overflow_add-result : goal.overflow_add-result
overflow_add-result c = search back_fits

pub overflow_add-result-2 : goal.overflow_add-result-2
overflow_add-result-2 c = search back_fits'

pub returns : goal.returns
returns c = search back_both_lem
