-- `statements::read_members` meets its contract: a name, in, an expression, do.
-- Assumes nothing.
use mathlib.Core.Path.{sym}
use native.Mathlib.Omega.{arith}
use Rattle.expressions.proofs.Tokens.{room_inside}
use Rattle.expressions.proofs.Answers.{says, says_code, exits}
use Rattle.statements.proofs.Iterating.{members_nameless, members_lack, members_after, members_read}
use Rattle.statements.proofs.read_members.Goals as goal

pub returns-then-kind_at-ne-NAME : goal.returns-then-kind_at-ne-NAME
returns-then-kind_at-ne-NAME c = members_nameless _ _ _ _ _ _ c.kind_at.ensures c.if-kind_at-ne-NAME.true

pub returns-then-kind_at-ne-IN : goal.returns-then-kind_at-ne-IN
returns-then-kind_at-ne-IN c = members_lack _ _ _ _ _ _ c.kind_at.ensures c.if-kind_at-ne-NAME.false _ c.kind_at-2.ensures c.if-kind_at-ne-IN.true

pub returns-in_err-e : goal.returns-in_err-e
returns-in_err-e c =
    exits (says _ _) (says_code _ _) _ _ _ _ _
    (members_after _ _ _ c.args.n c.args.words.now _ c.kind_at.ensures c.if-kind_at-ne-NAME.false _ c.kind_at-2.ensures c.if-kind_at-ne-IN.false) c.from_residual.ensures.1 c.in_err-e.ensures

pub returns : goal.returns
returns c =
    let o = c.requires in
    let w = room_inside _ _ _ _ _ o (sym c.kind_at.ensures) (λ z. omega (arith, c.if-kind_at-ne-NAME.false)) in
    members_read _ _ _ _ _ _ c.kind_at.ensures c.if-kind_at-ne-NAME.false _ c.kind_at-2.ensures c.if-kind_at-ne-IN.false _ _ _ _ _ (omega (arith, o.behind, o.wide))
    c.home_at.ensures c.put.ensures c.in_ok-e.ensures c.close.ensures
