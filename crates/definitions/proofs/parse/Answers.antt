-- `definitions::parse` meets its contract: the invariant has what was gathered, the measure is the tokens left.
-- Assumes nothing.
use mathlib.Core.Path.{◌∙◌}
use native.Mathlib.Omega.{arith}
use Rattle.definitions.proofs.Gathering.{gathering_starts, gathering_fails, turned, gathering_ends, gathering_on}
use Rattle.definitions.proofs.parse.Goals as goal

pub loop-p-init : goal.loop-p-init
loop-p-init c = gathering_starts _ _ c.requires.halves c.requires.words_value

pub returns-in_err-p : goal.returns-in_err-p
returns-in_err-p c = gathering_fails _ _ _ _ _ _ _ c.loop-p.invariant _ _ _ c.in_err-p.ensures c.from_residual.ensures.1

pub head_word-w-requires : goal.head_word-w-requires
head_word-w-requires c = let w = turned _ _ _ _ _ _ _ c.loop-p.invariant _ _ c.in_ok-p.ensures in (w.order, w.full)

pub overflow_add-i : goal.overflow_add-i
overflow_add-i c = let w = turned _ _ _ _ _ _ _ c.loop-p.invariant _ _ c.in_ok-p.ensures in omega (arith, w.inside)

pub note_twice-twice-requires : goal.note_twice-twice-requires
note_twice-twice-requires c = let w = turned _ _ _ _ _ _ _ c.loop-p.invariant _ _ c.in_ok-p.ensures in omega (arith, w.inside)

pub note_main-main-requires : goal.note_main-main-requires
note_main-main-requires c = let w = turned _ _ _ _ _ _ _ c.loop-p.invariant _ _ c.in_ok-p.ensures in omega (arith, w.inside)

pub returns-then-kind_at-eq0 : goal.returns-then-kind_at-eq0
returns-then-kind_at-eq0 c =
    gathering_ends _ _ _ _ _ _ _ c.loop-p.invariant _ _ c.in_ok-p.ensures _ _ c.head_word-w.ensures _ c.enter-old.ensures _ _ c.note_twice-twice.ensures
    c.note_main-main.ensures _ c.kind_at.ensures _ c.if-kind_at-eq0.true c.settle.ensures

pub loop-p-smaller : goal.loop-p-smaller
loop-p-smaller c = let w = turned _ _ _ _ _ _ _ c.loop-p.invariant _ _ c.in_ok-p.ensures in omega (arith, w.ahead, w.within)

pub loop-p-preserved : goal.loop-p-preserved
loop-p-preserved c =
    gathering_on _ _ _ _ _ _ _ c.loop-p.invariant _ _ c.in_ok-p.ensures _ _ c.head_word-w.ensures _ c.enter-old.ensures _ _ c.note_twice-twice.ensures
    c.note_main-main.ensures _ c.kind_at.ensures c.if-kind_at-eq0.false (c.enter-old.auto.words ∙ c.read_below.auto.words)
