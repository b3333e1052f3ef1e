use mathlib.Core.Path.{sym, ◌∙◌}
use Rattle.effects.proofs.Laws.{is_return, is_act}
use Rattle.effects.proofs.pass_on.Goals as goal

pub returns-then-tag_of-eq-RETURN : goal.returns-then-tag_of-eq-RETURN
returns-then-tag_of-eq-RETURN c = λ ws g p. is_return ws g _ _ p _ c.tag_of.ensures _ c.if-tag_of-eq-RETURN.true c.unpack.ensures

pub returns : goal.returns
returns c = λ ws g p. is_act ws g _ _ p _ c.tag_of.ensures (λ t. c.requires (sym c.tag_of.ensures ∙ t)) c.if-tag_of-eq-RETURN.false
