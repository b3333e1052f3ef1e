use Rattle.arguments.proofs.ArgumentLaws.{first_apart, second_figure}
use Rattle.arguments.proofs.two_figures.Goals as goal

pub returns-then-not-is_figure : goal.returns-then-not-is_figure
returns-then-not-is_figure c = search first_apart

pub returns : goal.returns
returns c = search second_figure
