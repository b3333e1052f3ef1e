use Rattle.loops.proofs.MarkLaws.{looks_first, looks_under, looks_last, looks_next, looks_less, looks_found}
use Rattle.loops.proofs.looking.look.Goals as goal

pub loop-w-init : goal.loop-w-init
loop-w-init c = search looks_first

pub look_once-requires : goal.look_once-requires
look_once-requires c = search looks_under

pub loop-w-smaller : goal.loop-w-smaller
loop-w-smaller c = looks_less _ _ _ _ _ _ c.loop-w.invariant _ _ c.in-Continue.ensures

pub loop-w-preserved : goal.loop-w-preserved
loop-w-preserved c = looks_next _ _ _ _ _ _ c.loop-w.invariant _ _ c.in-Continue.ensures c.look_once.auto.words

pub returns-in-Break : goal.returns-in-Break
returns-in-Break c = looks_found _ _ _ _ _ _ c.loop-w.invariant _ _ c.in-Break.ensures

pub returns : goal.returns
returns c = search looks_last
