use Rattle.procedures.proofs.Laws.{still_room, no_procedure, other_number, name_twice, begun}
use Rattle.machine.specs.Act.{store}
use Rattle.machine.proofs.Acts.{goes, stops, sure}
use mathlib.Core.Path.{refl}
use native.Mathlib.Omega.{arith}
use lib.ListN.{length-set}
use Rattle.procedures.proofs.begin.Goals as goal

pub returns-then-d-eq0 : goal.returns-then-d-eq0
returns-then-d-eq0 c = search no_procedure

pub returns-then-lowered-m : goal.returns-then-lowered-m
returns-then-lowered-m c = search other_number

pub returns-then-n-eq0 : goal.returns-then-n-eq0
returns-then-n-eq0 c = search name_twice

pub returns-in_err-pay_one : goal.returns-in_err-pay_one
returns-in_err-pay_one c = begun _ _ _ _ _ _ _ _ _ c.table_place.ensures c.word_at-d.ensures c.if-d-eq0.false _ c.parameters_of-m.ensures.0 _ c.lowered.ensures c.if-lowered-m.false _ c.frame_of-n.ensures.0
    c.if-n-eq0.false _ _ (goes _ (sure c.keep.ensures) (stops _ c.in_err-pay_one.ensures c.from_residual.ensures.1))

pub returns-in_err-open_frame : goal.returns-in_err-open_frame
returns-in_err-open_frame c = begun _ _ _ _ _ _ _ _ _ c.table_place.ensures c.word_at-d.ensures c.if-d-eq0.false _ c.parameters_of-m.ensures.0 _ c.lowered.ensures c.if-lowered-m.false _ c.frame_of-n.ensures.0
    c.if-n-eq0.false _ _ (goes _ (sure c.keep.ensures) (goes _ c.in_ok-pay_one.ensures (stops _ c.in_err-open_frame.ensures c.from_residual-in_err-open_frame.ensures.1)))

pub bounds-words-12 : goal.bounds-words-12
bounds-words-12 c = simp length-set (omega arith)

pub assign_parameters-requires : goal.assign_parameters-requires
assign_parameters-requires c = still_room _ _ _ c.requires.room (simp length-set (omega arith))

pub returns : goal.returns
unfolding store
returns c = begun _ _ _ _ _ _ _ _ _ c.table_place.ensures c.word_at-d.ensures c.if-d-eq0.false _ c.parameters_of-m.ensures.0 _ c.lowered.ensures c.if-lowered-m.false _ c.frame_of-n.ensures.0
    c.if-n-eq0.false _ _ (goes _ (sure c.keep.ensures) (goes _ c.in_ok-pay_one.ensures (goes _ c.in_ok-open_frame.ensures
    (goes _ (sure record { equal = λ ts. refl }) (goes _ (sure record { equal = λ ts. refl }) c.assign_parameters.ensures)))))
