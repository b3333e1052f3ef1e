-- `lexer::class::class_at` meets its contract: the class of the byte read.
-- Assumes nothing.
use mathlib.Core.Path.{◌∙◌, ap}
use Rattle.meaning.specs.Byte.{class_of}
use Rattle.lexer.proofs.class.class_at.Goals as goal

pub returns : goal.returns
returns c = c.class_of.ensures ∙ ap class_of c.byte_at.ensures
