-- `statements::read_declaration` meets its contract: a declaration.
-- Assumes nothing.
use mathlib.Core.Path.{refl}
use native.Mathlib.Omega.{arith}
use Rattle.expressions.proofs.Answers.{says_code, exits}
use Rattle.statements.proofs.Written.{heads}
use Rattle.statements.proofs.Moves.{parts_closed, declaration_other, declaration_after, declaration_closes, first_laid}
use Rattle.statements.proofs.read_declaration.Goals as goal

pub returns-then-kind_at-ne-NAME : goal.returns-then-kind_at-ne-NAME
returns-then-kind_at-ne-NAME c = declaration_other _ _ _ c.kind_at.ensures _ _ c.if-kind_at-ne-NAME.true

pub returns-in_err-e : goal.returns-in_err-e
returns-in_err-e c =
    exits (says_code _ _) (says_code _ _) _ _ _ _ _ (declaration_after _ _ _ c.kind_at.ensures _ c.if-kind_at-ne-NAME.false refl) c.from_residual.ensures.1
    (declaration_closes _ _ _ _ _ c.in_err-e.ensures)

pub head-requires : goal.head-requires
head-requires c =
    let o = c.requires.space in
    parts_closed _ _ _ _ _ _ _ c.in_ok-e.ensures (omega arith) (omega (arith, o.behind, c.requires.i_in_bounds, o.few)) (omega arith) (omega (arith, c.home_at-home.ensures))

pub returns : goal.returns
returns c =
    heads _ _ _ _ _ _ _ _ _ _ _ _ _ (first_laid _ _ _ _ c.requires.space c.requires.i_in_bounds)
    (declaration_after _ _ _ c.kind_at.ensures _ c.if-kind_at-ne-NAME.false c.home_at-home.ensures) (declaration_closes _ _ _ _ _ c.in_ok-e.ensures) c.head.ensures
