-- `arguments::given::centre_x` meets its contract: the centre of its first and third number, by its kind.
-- Assumes nothing.
use Rattle.arguments.proofs.FigureLaws.{centre_is_x}
use Rattle.arguments.proofs.given.centre_x.Goals as goal

pub returns : goal.returns
returns c = search centre_is_x
