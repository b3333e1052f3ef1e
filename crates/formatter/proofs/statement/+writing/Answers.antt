-- The functions on statements that hold others meet their contracts; in each the measure is the fuel, and then which calls which.
-- Assumes nothing.
use Prim.Native.Nat.{◌+◌, ◌-◌}
use native.Mathlib.Omega.{arith}
use mathlib.Core.Path.{◌≡◌, refl}
use Rattle.spellings.proofs.Chains.{then_two}
use Rattle.formatter.proofs.Statements.{too_deep, some_fuel, is_declaration, is_assignment, is_update, is_when, is_while, is_foreach}
use Rattle.formatter.proofs.Statements.{is_return, is_block, is_act, guarded_written, foreach_written, block_written}
use Rattle.formatter.proofs.Statements.{all_first, room_before, all_short, all_done, all_again}
use Rattle.formatter.proofs.statement.+writing.Goals as goal

pub write_block-overflow_add-x : goal.write_block-overflow_add-x
write_block-overflow_add-x t c = omega (arith, c.requires.room)

pub write_block-overflow_add-x-2 : goal.write_block-overflow_add-x-2
write_block-overflow_add-x-2 t c = omega (arith, c.requires.room)

pub write_block-overflow_add-n : goal.write_block-overflow_add-n
write_block-overflow_add-n t c = omega (arith, c.requires.room)

pub write_block-write_statements-end-requires : goal.write_block-write_statements-end-requires
write_block-write_statements-end-requires t c = (omega arith, record { room = omega (arith, c.requires.room) })

pub write_block-returns : goal.write_block-returns
write_block-returns t c =
    block_written _ _ _ _ _ _
    (omega arith)
    c.write_bytes_at-inside.ensures
    c.write_statements-end.ensures
    c.write_bytes_at.ensures

pub write_foreach-returns : goal.write_foreach-returns
write_foreach-returns t c =
    foreach_written _ _ _ _ _ _ _ _
    (omega arith)
    refl
    c.word_at-slot.ensures
    c.write_iterator-next.ensures
    c.write_statement.ensures

pub write_guarded-overflow_add-y : goal.write_guarded-overflow_add-y
write_guarded-overflow_add-y t c = omega (arith, c.requires.room)

pub write_guarded-write_statement-requires : goal.write_guarded-write_statement-requires
write_guarded-write_statement-requires t c = (omega arith, c.requires)

pub write_guarded-returns : goal.write_guarded-returns
write_guarded-returns t c =
    guarded_written _ _ _ _ _ _
    (omega arith)
    c.write_between-next.ensures
    c.write_statement.ensures

pub write_line-write_statement-end-requires : goal.write_line-write_statement-end-requires
write_line-write_statement-end-requires t c = (omega arith, c.requires)

pub write_line-returns : goal.write_line-returns
write_line-returns t c =
    then_two
    (omega arith)
    c.write_statement-end.ensures
    c.write_bytes_at.ensures

pub write_statement-returns-then-fuel-eq0 : goal.write_statement-returns-then-fuel-eq0
write_statement-returns-then-fuel-eq0 t c = search too_deep

pub write_statement-last_of-y-requires : goal.write_statement-last_of-y-requires
write_statement-last_of-y-requires t c = omega (arith, c.requires.room)

pub write_statement-overflow_add-x : goal.write_statement-overflow_add-x
write_statement-overflow_add-x t c =
    omega (
      arith,
      c.requires.room,
      c.extra_of-extra.ensures.1,
    )

pub write_statement-write_guarded-requires : goal.write_statement-write_guarded-requires
write_statement-write_guarded-requires t c = (
  omega (arith, c.if-fuel-eq0.false),
  record { room = omega (arith, c.requires.room, c.extra_of-extra.ensures.1, c.if-fuel-eq0.false) },
)

pub write_statement-overflow_add-x-in-36 : goal.write_statement-overflow_add-x-in-36
write_statement-overflow_add-x-in-36 t c =
    omega (
      arith,
      c.requires.room,
      c.extra_of-extra.ensures.1,
    )

pub write_statement-write_guarded-requires-in-36 : goal.write_statement-write_guarded-requires-in-36
write_statement-write_guarded-requires-in-36 t c = (
  omega (arith, c.if-fuel-eq0.false),
  record { room = omega (arith, c.requires.room, c.extra_of-extra.ensures.1, c.if-fuel-eq0.false) },
)

pub write_statement-write_block-requires : goal.write_statement-write_block-requires
write_statement-write_block-requires t c = (
  omega (arith, c.if-fuel-eq0.false),
  record { room = omega (arith, c.requires.room, c.size_of.ensures, c.if-fuel-eq0.false) },
)

pub write_statement-overflow_sub-fuel-in_default : goal.write_statement-overflow_sub-fuel-in_default
write_statement-overflow_sub-fuel-in_default t c = some_fuel _ c.if-fuel-eq0.false

pub write_statement-returns-in-32 : goal.write_statement-returns-in-32
write_statement-returns-in-32 t c = search is_declaration

pub write_statement-returns-in-33 : goal.write_statement-returns-in-33
write_statement-returns-in-33 t c = search is_assignment

pub write_statement-returns-in-34 : goal.write_statement-returns-in-34
write_statement-returns-in-34 t c = search is_update

pub write_statement-returns-in-35 : goal.write_statement-returns-in-35
write_statement-returns-in-35 t c = search is_when

pub write_statement-returns-in-36 : goal.write_statement-returns-in-36
write_statement-returns-in-36 t c = search is_while

pub write_statement-returns-in-40 : goal.write_statement-returns-in-40
write_statement-returns-in-40 t c = search is_foreach

pub write_statement-returns-in-37 : goal.write_statement-returns-in-37
write_statement-returns-in-37 t c = search is_return

pub write_statement-returns-in-38 : goal.write_statement-returns-in-38
write_statement-returns-in-38 t c = search is_block

pub write_statement-returns-in_default : goal.write_statement-returns-in_default
write_statement-returns-in_default t c = search is_act

pub write_statements-loop-init : goal.write_statements-loop-init
write_statements-loop-init t c =
    let all : c.args.rounds - 0 ≡ c.args.rounds = omega arith in
    rw all (all_first _ _ _ _ _ _ _ (omega arith) (omega arith) c.requires)

pub write_statements-returns-then-end-x : goal.write_statements-returns-then-end-x
write_statements-returns-then-end-x t c = all_done _ _ _ _ _ _ _ _ _ c.loop.invariant (omega arith) (omega arith)

pub write_statements-write_line-next-requires : goal.write_statements-write_line-next-requires
write_statements-write_line-next-requires t c = (omega arith, room_before _ _ _ _ _ _ _ _ _ c.loop.invariant (omega (arith, c.if-end-x.false)))

pub write_statements-overflow_add-x : goal.write_statements-overflow_add-x
write_statements-overflow_add-x t c =
    omega (
      arith,
      c.loop.invariant.room.room,
      c.size_of-x.ensures,
      c.if-end-x.false,
    )

pub write_statements-loop-preserved : goal.write_statements-loop-preserved
write_statements-loop-preserved t c =
    let one_less : c.args.rounds - (c.loop.counter + 1) ≡ c.args.rounds - c.loop.counter - 1 = omega arith in
    rw one_less
    (all_again _ _ _ _ _ _ _ _ _
    c.loop.invariant
    (omega arith)
    (omega (arith, c.if-end-x.false))
    _
    _
    c.word_at.ensures
    c.size_of-x.ensures
    c.write_line-next.ensures)

pub write_statements-returns : goal.write_statements-returns
write_statements-returns t c = all_short _ _ _ _ _ _ _ _ _ c.loop.invariant (omega arith)
