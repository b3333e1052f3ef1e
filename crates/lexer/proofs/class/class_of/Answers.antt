-- `lexer::class::class_of` meets its contract: the table's entry is the byte's class.
-- Assumes nothing.
use Rattle.lexer.proofs.Classes.{class_entry}
use borrow.Author.Rules.{rules}
use Rattle.lexer.proofs.class.class_of.Goals as goal

pub returns : goal.returns
returns c = class_entry c.args.classes.now c.args.b c.requires (search rules)
