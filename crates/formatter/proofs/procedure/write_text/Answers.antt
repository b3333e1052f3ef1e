-- `formatter::procedure::write_text` meets its contract: by the invariant the procedures of the tokens so far are written.
-- Assumes nothing.
use native.Mathlib.Omega.{arith}
use Rattle.formatter.proofs.Procedures.{text_first, text_next, text_end}
use Rattle.formatter.proofs.procedure.write_text.Goals as goal

pub loop-i-init : goal.loop-i-init
loop-i-init c = text_first _ _ _ (omega arith)

pub loop-i-preserved : goal.loop-i-preserved
loop-i-preserved c = text_next _ _ _ _ c.loop-i.invariant c.loop-i-test.true c.write_begun-at.ensures

pub returns : goal.returns
returns c = text_end _ _ _ _ c.loop-i.invariant (omega arith)
