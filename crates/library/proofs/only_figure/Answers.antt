use Rattle.library.proofs.ProcedureLaws.{no_only, only_other, only_given}
use Rattle.library.proofs.only_figure.Goals as goal

pub returns-then-n-ne1 : goal.returns-then-n-ne1
returns-then-n-ne1 c = search no_only

pub returns-then-not-is_figure : goal.returns-then-not-is_figure
returns-then-not-is_figure c = search only_other

pub returns : goal.returns
returns c = search only_given
