-- `tables::entries::put_value` meets its contract: an entry that is found is overwritten, and else one is added.
-- Assumes nothing.
use native.Mathlib.Omega.{arith}
use Rattle.tables.proofs.EntryLaws.{found_small, found_room, stores_new, stores_old}
use Rattle.tables.proofs.entries.put_value.Goals as goal

pub returns-in-None : goal.returns-in-None
returns-in-None c = search stores_new

pub entry_place-requires : goal.entry_place-requires
entry_place-requires c = (c.requires.shapes, found_small _ _ _ _ _ _ c.find_entry.ensures c.in-Some.is c.requires)

pub overflow_add-words : goal.overflow_add-words
overflow_add-words c = omega (arith, found_room _ _ _ _ _ _ c.find_entry.ensures c.in-Some.is c.requires _ c.entry_place.ensures)

pub offset_bounds-words-entry_place : goal.offset_bounds-words-entry_place
offset_bounds-words-entry_place c = omega (arith, found_room _ _ _ _ _ _ c.find_entry.ensures c.in-Some.is c.requires _ c.entry_place.ensures)

pub bounds-words-entry_place : goal.bounds-words-entry_place
bounds-words-entry_place c = omega (arith, found_room _ _ _ _ _ _ c.find_entry.ensures c.in-Some.is c.requires _ c.entry_place.ensures)

pub returns-in-Some : goal.returns-in-Some
returns-in-Some c = search stores_old
