use mathlib.Core.Path.{◌∙◌}
use Rattle.figures.proofs.ComparingLaws.{same_kind, other_kind, figures_apart, text_left}
use Rattle.figures.proofs.comparing.same_figure.Goals as goal
use Rattle.figures.proofs.comparing.same_figure.Goals.{then-f-g, else-f-g}

pub returns-then-same_numbers : goal.returns-then-same_numbers
returns-then-same_numbers c = text_left c.args.program.now c.args.texts.now c.args.f c.args.g (elim c.if-f-g.branch [
  | then-f-g w ↦ w.value-is ∙ same_kind c.args.f c.args.g w.if-f-g.true w.same_numbers.ensures
  | else-f-g w ↦ w.value-is ∙ other_kind c.args.f c.args.g w.if-f-g.false
]) c.if-same_numbers.true c.same_text.ensures

pub returns-else-same_numbers : goal.returns-else-same_numbers
returns-else-same_numbers c = figures_apart c.args.program.now c.args.texts.now c.args.f c.args.g (elim c.if-f-g.branch [
  | then-f-g w ↦ w.value-is ∙ same_kind c.args.f c.args.g w.if-f-g.true w.same_numbers.ensures
  | else-f-g w ↦ w.value-is ∙ other_kind c.args.f c.args.g w.if-f-g.false
]) c.if-same_numbers.false
