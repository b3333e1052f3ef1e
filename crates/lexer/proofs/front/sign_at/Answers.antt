-- `lexer::front::sign_at` meets its contract: doubled, none or single.
-- Assumes nothing.
use mathlib.Core.Path.{◌∙◌, sym}
use Rattle.lexer.proofs.Fronts.{sign_double, sign_none, sign_single}
use Rattle.lexer.proofs.front.sign_at.Goals as goal

pub returns-then-is_double : goal.returns-then-is_double
returns-then-is_double c = sign_double c.args.b c.args.c c.args.at _ (sym c.is_double.ensures
    ∙ c.if-is_double.true) c.word_of.ensures

pub returns-then-b-eq33 : goal.returns-then-b-eq33
returns-then-b-eq33 c = sign_none c.args.b c.args.c c.args.at (sym c.is_double.ensures
    ∙ c.if-is_double.false) c.if-b-eq33.true

pub returns : goal.returns
returns c = sign_single c.args.b c.args.c c.args.at _
    (sym c.is_double.ensures ∙ c.if-is_double.false) c.if-b-eq33.false c.word_of-2.ensures
