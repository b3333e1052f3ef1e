use Rattle.procedures.proofs.Laws.{still_room, assign_next, assign_stops, all_assigned}
use Rattle.machine.proofs.Acts.{last}
use Rattle.stores.proofs.Turns.{turns_first}
use native.Mathlib.Omega.{arith}
use Rattle.procedures.proofs.assign_parameters.Goals as goal

pub loop-k-init : goal.loop-k-init
loop-k-init c = turns_first _ 0 _ _ (omega arith)

pub offset_bounds-words-place_above : goal.offset_bounds-words-place_above
offset_bounds-words-place_above c = omega arith

pub bounds-words-place_above : goal.bounds-words-place_above
bounds-words-place_above c = omega (arith, c.requires.words, c.loop-k.invariant.long, c.place_above.ensures)

pub assign-requires : goal.assign-requires
assign-requires c = search still_room

pub returns-in_err-assign : goal.returns-in_err-assign
returns-in_err-assign c = last (assign_stops _ _ _ _ _ _ _ c.loop-k.invariant (omega arith) _ c.place_above.ensures _ _ c.in_err-assign.ensures) c.from_residual.ensures.1

pub loop-k-preserved : goal.loop-k-preserved
loop-k-preserved c = assign_next _ _ _ _ _ _ _ c.loop-k.invariant (omega arith) _ c.place_above.ensures _ _ c.in_ok-assign.ensures (omega arith)

pub returns : goal.returns
returns c = search all_assigned
