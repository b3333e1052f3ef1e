use Rattle.arguments.proofs.ArgumentLaws.{no_figure, text_second}
use Rattle.arguments.proofs.figure_and_text.Goals as goal

pub returns-then-not-is_figure : goal.returns-then-not-is_figure
returns-then-not-is_figure c = search no_figure

pub returns : goal.returns
returns c = search text_second
