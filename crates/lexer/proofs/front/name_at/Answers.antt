-- `lexer::front::name_at` meets its contract: the run's end gives the size, and its text the kind.
-- Assumes nothing.
use mathlib.Core.Path.{◌∙◌, ap}
use native.Mathlib.Omega.{arith}
use Rattle.meaning.specs.Token.{word_kind}
use Rattle.lexer.proofs.Fronts.{end_fits, name_word}
use Rattle.lexer.proofs.front.name_at.Goals as goal

pub word_of-requires : goal.word_of-requires
word_of-requires c = let f = end_fits c.args.program.now c.args.at 2 _ (omega arith)
    c.run_end-e.ensures in omega arith

pub returns : goal.returns
returns c = name_word c.args.program.now c.args.at _ _ _ c.run_end-e.ensures
    (c.word_kind-k.ensures ∙ ap word_kind c.spelling.ensures) c.word_of.ensures
