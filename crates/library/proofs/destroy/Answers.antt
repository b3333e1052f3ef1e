use Rattle.machine.proofs.Acts.{goes, stops, given}
use Rattle.library.proofs.ProcedureLaws.{destroy_count, destroy_kind, destroys}
use Rattle.library.proofs.destroy.Goals as goal

pub returns-then-n-ne1 : goal.returns-then-n-ne1
returns-then-n-ne1 c = search destroy_count

pub returns-then-not-is_kind : goal.returns-then-not-is_kind
returns-then-not-is_kind c = search destroy_kind

pub returns-in_err-destroy_all : goal.returns-in_err-destroy_all
returns-in_err-destroy_all c = destroys _ _ _ _ _ c.if-n-ne1.false c.is_kind.ensures c.if-not-is_kind.false c.shape_at-i.ensures
    (stops _ c.in_err-destroy_all.ensures c.from_residual.ensures.1)

pub returns : goal.returns
returns c = destroys _ _ _ _ _ c.if-n-ne1.false c.is_kind.ensures c.if-not-is_kind.false c.shape_at-i.ensures
    (goes _ c.in_ok-destroy_all.ensures (given _))
