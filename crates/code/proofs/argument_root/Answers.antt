use Rattle.code.proofs.Laws.{no_argument, one_argument}
use Rattle.code.proofs.argument_root.Goals as goal

pub returns-then-x-a : goal.returns-then-x-a
returns-then-x-a c = search no_argument

pub returns : goal.returns
returns c = search one_argument
