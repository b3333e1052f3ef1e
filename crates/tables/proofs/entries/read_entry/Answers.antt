use native.Mathlib.Omega.{arith}
use Rattle.machine.proofs.Acts.{goes_in, stops_in, in_both, given}
use Rattle.tables.proofs.EntryLaws.{found_small, found_room, group_read, no_entry, entry_there}
use Rattle.tables.proofs.entries.read_entry.Goals as goal

pub returns-then-is_group_key : goal.returns-then-is_group_key
returns-then-is_group_key c = search group_read

pub returns-in-None : goal.returns-in-None
returns-in-None c = search no_entry

pub entry_place-requires : goal.entry_place-requires
entry_place-requires c = (c.requires.shapes, found_small _ _ _ _ _ _ c.find_entry.ensures c.in-Some.is c.requires)

pub overflow_add-w : goal.overflow_add-w
overflow_add-w c = omega (arith, found_room _ _ _ _ _ _ c.find_entry.ensures c.in-Some.is c.requires _ c.entry_place.ensures)

pub offset_bounds-words-entry_place : goal.offset_bounds-words-entry_place
offset_bounds-words-entry_place c = omega (arith, found_room _ _ _ _ _ _ c.find_entry.ensures c.in-Some.is c.requires _ c.entry_place.ensures)

pub bounds-words-entry_place : goal.bounds-words-entry_place
bounds-words-entry_place c = omega (arith, found_room _ _ _ _ _ _ c.find_entry.ensures c.in-Some.is c.requires _ c.entry_place.ensures)

pub returns-in_err-usable-in-Some : goal.returns-in_err-usable-in-Some
returns-in_err-usable-in-Some c = entry_there _ _ _ _ _ _ _ c.is_group_key.ensures c.if-is_group_key.false c.find_entry.ensures c.in-Some.is c.entry_place.ensures
    (stops_in _ (in_both c.in_err-usable-in-Some.ensures _) c.from_residual.ensures.1)

pub returns-in_ok-usable-in-Some : goal.returns-in_ok-usable-in-Some
returns-in_ok-usable-in-Some c = entry_there _ _ _ _ _ _ _ c.is_group_key.ensures c.if-is_group_key.false c.find_entry.ensures c.in-Some.is c.entry_place.ensures
    (goes_in _ (in_both c.in_ok-usable-in-Some.ensures _) (rw c.unpack.ensures (in_both (given _) _)))
