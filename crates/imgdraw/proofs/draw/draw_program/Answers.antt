-- `imgdraw::draw::draw_program` meets its contract: its slices are long enough, and what is shown of the answer is what is printed.
use lib.ListN.{replicate}
use Rattle.imgdraw.proofs.Whole.{program_drawn}
use mathlib.Core.Path.{refl}
use Rattle.imgdraw.proofs.draw.draw_program.Goals as goal

pub returns : goal.returns
returns c = program_drawn _ (replicate 8193 0) (replicate 16384 0) (replicate 338192 0) (replicate 16384 0) _ _ _
    c.ranges.width
    c.ranges.height refl refl refl
    refl _ _ _ _ c.draw-answer.ensures.performed.answered
    c.draw-answer.ensures.out_after c.put_answer.ensures
