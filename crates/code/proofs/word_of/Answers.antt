-- `code::word_of` meets its contract: the three parts do not overlap.
use borrow.Author.Rules.{rules}
use Rattle.machine.specs.Opcodes.{word}
use Rattle.code.proofs.word_of.Goals as goal

pub returns : goal.returns
unfolding word
returns c = search rules
