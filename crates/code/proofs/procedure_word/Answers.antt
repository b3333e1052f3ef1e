-- `code::procedure_word` meets its contract: the three parts do not overlap.
use borrow.Author.Rules.{rules}
use Rattle.machine.specs.Opcodes.{procedure_word}
use Rattle.code.proofs.procedure_word.Goals as goal

pub returns : goal.returns
unfolding procedure_word
returns c = search rules
