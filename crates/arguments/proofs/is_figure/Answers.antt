use Rattle.arguments.proofs.ArgumentLaws.{no_shape_lem, is_figure_lem}
use Rattle.arguments.proofs.is_figure.Goals as goal

pub returns-then-not-is_kind : goal.returns-then-not-is_kind
returns-then-not-is_kind c = search no_shape_lem

pub returns : goal.returns
returns c = search is_figure_lem
