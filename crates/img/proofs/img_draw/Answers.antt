-- `img::img_draw` meets its contract: what `draw` promises, and its answer told.
use mathlib.Core.List.{[], ◌∷◌}
use Rattle.img.proofs.Written.{performs, draws}
use Rattle.img.proofs.img_draw.Goals as goal

pub returns : goal.returns
returns c = record {
  performs = performs _ _ _ _ c.ranges.width c.ranges.height (c.args.steps ∷ c.args.shapes ∷ c.args.entries ∷ c.args.bytes ∷ c.args.calls ∷ []) c.args.tokens.now c.args.code.now c.args.words.now c.args.texts.now c.args.out.now _ _ _ _ _ _ _ _ c.draw-r.ensures.performed c.write_answer.ensures;
  out_after = draws _ _ _ _ c.ranges.width c.ranges.height (c.args.steps ∷ c.args.shapes ∷ c.args.entries ∷ c.args.bytes ∷ c.args.calls ∷ []) c.args.tokens.now c.args.code.now c.args.words.now c.args.texts.now c.args.out.now _ c.draw-r.ensures.out_after;
}
