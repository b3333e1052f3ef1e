use Rattle.drawing.proofs.Ways.{draw_refused, out_refused, draw_ready, draw_performed, out_performed}
use Rattle.drawing.proofs.draw.Goals as goal

pub returns-then-not-is_enough : goal.returns-then-not-is_enough
returns-then-not-is_enough c = record {
  performed = search draw_refused;
  out_after = search out_refused;
}

pub draw_lent-r-requires : goal.draw_lent-r-requires
draw_lent-r-requires c = search draw_ready

pub returns : goal.returns
returns c = record {
  performed = draw_performed _ _ _ _ c.args.tokens.now c.args.code.now c.args.words.now c.args.texts.now _ _ c.is_enough.ensures c.if-not-is_enough.false-raw c.ranges.width c.ranges.height _ _ c.draw_lent-r.ensures _ _ _ _ _ _ _ _ c.draw_lent-r.auto.tokens c.clear.ensures.tokens_after c.draw_lent-r.auto.code c.clear.ensures.code_after c.draw_lent-r.auto.words c.clear.ensures.words_after c.draw_lent-r.auto.texts c.clear.ensures.texts_after;
  out_after = out_performed _ _ _ _ c.args.tokens.now c.args.code.now c.args.words.now c.args.texts.now _ _ c.is_enough.ensures c.if-not-is_enough.false-raw c.ranges.width c.ranges.height _ _ c.draw_lent-r.ensures;
}
