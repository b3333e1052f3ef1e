-- `lexer::front::is_double` meets its contract: by the first byte.
-- Assumes nothing.
use Rattle.lexer.proofs.Fronts.{double_33, double_43, double_60, double_61, double_62, double_none}
use Rattle.lexer.proofs.front.is_double.Goals as goal

pub returns-in-33 : goal.returns-in-33
returns-in-33 c = double_33 c.args.b c.args.c c.in-33.is

pub returns-in-43 : goal.returns-in-43
returns-in-43 c = double_43 c.args.b c.args.c c.in-43.is

pub returns-in-60 : goal.returns-in-60
returns-in-60 c = double_60 c.args.b c.args.c c.in-60.is

pub returns-in-61 : goal.returns-in-61
returns-in-61 c = double_61 c.args.b c.args.c c.in-61.is

pub returns-in-62 : goal.returns-in-62
returns-in-62 c = double_62 c.args.b c.args.c c.in-62.is

pub returns-in_default : goal.returns-in_default
returns-in_default c = let n = c.in_default.in_default-own.rest in double_none c.args.b c.args.c n.0.0.0.0.1 n.0.0.0.1 n.0.0.1 n.0.1 n.1
