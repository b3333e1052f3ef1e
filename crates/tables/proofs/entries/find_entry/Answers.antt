use native.Mathlib.Omega.{arith}
use Rattle.tables.proofs.IndexLaws.{no_entries, head_less, head_stray, entry_room, walk_begin, walk_found, walk_ends, walk_on, walk_over}
use Rattle.tables.proofs.entries.find_entry.Goals as goal

pub returns-then-grants-eq0 : goal.returns-then-grants-eq0
returns-then-grants-eq0 c = search no_entries

pub entry_place-base-requires : goal.entry_place-base-requires
entry_place-base-requires c = (c.requires.shapes, omega arith)

pub bucket-b-requires : goal.bucket-b-requires
bucket-b-requires c = c.requires.entries

pub overflow_mul-head : goal.overflow_mul-head
overflow_mul-head c = omega (arith, head_less _ _ _ _ _ _ _ _ c.requires c.if-grants-eq0.false c.entry_place-base.ensures c.bucket-b.ensures)

pub overflow_add-head : goal.overflow_add-head
overflow_add-head c = omega (arith, head_less _ _ _ _ _ _ _ _ c.requires c.if-grants-eq0.false c.entry_place-base.ensures c.bucket-b.ensures)

pub overflow_add-head-2 : goal.overflow_add-head-2
overflow_add-head-2 c = omega (arith, head_less _ _ _ _ _ _ _ _ c.requires c.if-grants-eq0.false c.entry_place-base.ensures c.bucket-b.ensures)

pub offset_bounds-words-base : goal.offset_bounds-words-base
offset_bounds-words-base c = omega (arith, head_less _ _ _ _ _ _ _ _ c.requires c.if-grants-eq0.false c.entry_place-base.ensures c.bucket-b.ensures)

pub bounds-words-base : goal.bounds-words-base
bounds-words-base c = search head_less

pub returns-then-grants-head : goal.returns-then-grants-head
returns-then-grants-head c = search head_stray

pub loop-k-init : goal.loop-k-init
loop-k-init c = search walk_begin

pub overflow_sub-at : goal.overflow_sub-at
overflow_sub-at c = omega arith

pub overflow_mul-at : goal.overflow_mul-at
overflow_mul-at c = omega (arith, entry_room _ _ _ _ _ _ _ _ c.loop-k.invariant c.loop-k-test.true)

pub overflow_add-at : goal.overflow_add-at
overflow_add-at c = omega (arith, entry_room _ _ _ _ _ _ _ _ c.loop-k.invariant c.loop-k-test.true)

pub entry_matches-requires : goal.entry_matches-requires
entry_matches-requires c = omega (arith, entry_room _ _ _ _ _ _ _ _ c.loop-k.invariant c.loop-k-test.true)

pub returns-then-entry_matches : goal.returns-then-entry_matches
returns-then-entry_matches c = search walk_found

pub offset_bounds-words-at : goal.offset_bounds-words-at
offset_bounds-words-at c = omega (arith, entry_room _ _ _ _ _ _ _ _ c.loop-k.invariant c.loop-k-test.true)

pub bounds-words-at : goal.bounds-words-at
bounds-words-at c = omega (arith, entry_room _ _ _ _ _ _ _ _ c.loop-k.invariant c.loop-k-test.true)

pub returns-then-k-next : goal.returns-then-k-next
returns-then-k-next c = search walk_ends

pub loop-k-smaller : goal.loop-k-smaller
loop-k-smaller c = omega arith

pub loop-k-preserved : goal.loop-k-preserved
loop-k-preserved c = search walk_on

pub returns : goal.returns
returns c = search walk_over
