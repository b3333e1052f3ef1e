-- `excerpts::glyph` meets its contract: one law for each kind of byte.
-- Assumes nothing.
use Rattle.excerpts.proofs.Marking.{glyph_tab, glyph_mark, glyph_low, glyph_high, glyph_plain}
use Rattle.excerpts.proofs.glyph.Goals as goal

pub returns-then-b-eq9 : goal.returns-then-b-eq9
returns-then-b-eq9 c = glyph_tab _ _ c.if-b-eq9.true

pub returns-then-marking : goal.returns-then-marking
returns-then-marking c = glyph_mark _ _ c.if-b-eq9.false c.if-marking.true

pub returns-then-b-lt32 : goal.returns-then-b-lt32
returns-then-b-lt32 c = glyph_low _ _ c.if-b-eq9.false c.if-marking.false c.if-b-lt32.true

pub returns-then-b-gt126 : goal.returns-then-b-gt126
returns-then-b-gt126 c = glyph_high _ _ c.if-b-eq9.false c.if-marking.false c.if-b-lt32.false c.if-b-gt126.true

pub returns : goal.returns
returns c = glyph_plain _ _ c.if-b-eq9.false c.if-marking.false c.if-b-lt32.false c.if-b-gt126.false
