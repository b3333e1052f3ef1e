-- `sheet::line::read_sheet` meets its contract: by the cases of the width.
-- Assumes nothing.
use mathlib.Core.Path.{◌∙◌}
use Rattle.sheet.proofs.Fields.{found, no_width, width_behind}
use Rattle.sheet.proofs.line.read_sheet.Goals as goal

pub returns-in_err-width : goal.returns-in_err-width
returns-in_err-width c = c.from_residual.ensures ∙ no_width _ _ c.read_field.ensures c.in_err-width.was

pub behind-requires : goal.behind-requires
behind-requires c = let f = found _ _ _ c.read_field.ensures c.in_ok-width.was in (f.small, f.within)

pub returns : goal.returns
returns c = width_behind _ _ c.read_field.ensures _ _ c.in_ok-width.was c.behind.ensures
