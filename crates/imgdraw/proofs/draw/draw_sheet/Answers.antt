-- `imgdraw::draw::draw_sheet` meets its contract: by the cases of the first line, which ends within the input.
-- Assumes nothing.
use native.Mathlib.Omega.{arith}
use borrow.Author.Rules.{rules}
use Rattle.imgdraw.proofs.Whole.{whole_unread, whole_drawn}
use Rattle.sheet.proofs.Fields.{sheet_ends}
use Rattle.imgdraw.proofs.draw.draw_sheet.Goals as goal

pub slice_bounds-draw_program-count : goal.slice_bounds-draw_program-count
slice_bounds-draw_program-count c = omega (arith, (sheet_ends c.args.input.now _ _ c.read_sheet-s.ensures c.in-Some.is).within)

pub slice_bounds-draw_program-start : goal.slice_bounds-draw_program-start
slice_bounds-draw_program-start c = omega (arith, (sheet_ends c.args.input.now _ _ c.read_sheet-s.ensures c.in-Some.is).within)

pub returns-in-None : goal.returns-in-None
returns-in-None c = whole_unread _ _ _ c.read_sheet-s.ensures c.in-None.is
    c.requires c.write_error.ensures

pub returns-in-Some : goal.returns-in-Some
returns-in-Some c = whole_drawn _ _ _ c.read_sheet-s.ensures _ c.in-Some.is
    (search rules) (search rules) c.draw_program.ensures
