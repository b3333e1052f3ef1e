-- `sheet::line::ended` meets its contract: a linefeed stands there, or not.
-- Assumes nothing.
use Rattle.sheet.proofs.Fields.{no_linefeed, linefeed}
use Rattle.sheet.proofs.line.ended.Goals as goal

pub returns-then-byte_at-ne10 : goal.returns-then-byte_at-ne10
returns-then-byte_at-ne10 c = no_linefeed _ _ _ _ _ c.byte_at.ensures c.if-byte_at-ne10.true

pub returns : goal.returns
returns c = linefeed _ _ _ _ _ c.byte_at.ensures c.if-byte_at-ne10.false c.requires.0 c.requires.1
