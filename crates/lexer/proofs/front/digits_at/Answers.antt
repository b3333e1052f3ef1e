-- `lexer::front::digits_at` meets its contract: the run's end gives the size.
-- Assumes nothing.
use native.Mathlib.Omega.{arith}
use Rattle.lexer.proofs.Fronts.{end_fits, digits_word}
use Rattle.lexer.proofs.front.digits_at.Goals as goal

pub word_of-requires : goal.word_of-requires
word_of-requires c = let f = end_fits c.args.program.now c.args.at 3 _ (omega arith) c.run_end-e.ensures in omega arith

pub returns : goal.returns
returns c = digits_word c.args.program.now c.args.at _ _ c.run_end-e.ensures c.word_of.ensures
