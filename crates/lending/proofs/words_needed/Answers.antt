use Rattle.lending.proofs.Admitted.{shapes_fit, shapes_end_fits, rows_fit, entries_fit, words_fit}
use Rattle.lending.proofs.words_needed.Goals as goal

pub overflow_mul-result : goal.overflow_mul-result
overflow_mul-result c = search shapes_fit

pub overflow_add-result : goal.overflow_add-result
overflow_add-result c = search shapes_end_fits

pub overflow_add-result-2 : goal.overflow_add-result-2
overflow_add-result-2 c = search rows_fit

pub overflow_mul-result-2 : goal.overflow_mul-result-2
overflow_mul-result-2 c = search entries_fit

pub overflow_add-result-3 : goal.overflow_add-result-3
overflow_add-result-3 c = search words_fit
