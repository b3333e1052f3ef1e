-- `excerpts::write_excerpt_at` meets its contract: the two parts of the program are those of the definition.
-- Assumes nothing.
use native.Mathlib.Omega.{arith}
use Rattle.excerpts.proofs.Marking.{end_fits, wrote_excerpt}
use Rattle.excerpts.proofs.write_excerpt_at.Goals as goal

pub slice_bounds-write_shown_at-end : goal.slice_bounds-write_shown_at-end
slice_bounds-write_shown_at-end c = end_fits _ _ _ _ _ _ c.requires c.line_rest-rest.ensures c.min.ensures
    c.min-2.ensures

pub returns : goal.returns
returns c = wrote_excerpt _ _ _ _ _ _ c.requires
    c.line_rest-rest.ensures
    c.min.ensures
    c.min-2.ensures
    (omega arith)
    c.write_shown_at-next.ensures c.write_mark_at.ensures
