-- `sheet::line::behind` meets its contract: a space stands there, or not, and then a height, or none.
-- Assumes nothing.
use Prim.Native.Nat.{◌+◌}
use mathlib.Core.Path.{◌∙◌}
use native.Mathlib.Omega.{arith}
use lib.ListN.{length-drop}
use Rattle.sheet.proofs.Fields.{stands, no_space, no_height, height_found, height_behind}
use Rattle.sheet.proofs.line.behind.Goals as goal

pub returns-then-byte_at-ne32 : goal.returns-then-byte_at-ne32
returns-then-byte_at-ne32 c = no_space _ c.args.w _ _ c.byte_at.ensures c.if-byte_at-ne32.true

pub returns-in_err-height : goal.returns-in_err-height
returns-in_err-height c = c.from_residual.ensures ∙ no_height _ c.args.w _ _ c.byte_at.ensures c.if-byte_at-ne32.false _ c.read_field.ensures c.in_err-height.was

pub overflow_add-n-3 : goal.overflow_add-n-3
overflow_add-n-3 c =
    let t = stands c.args.s.now c.args.n c.byte_at.result c.byte_at.ensures (omega (arith, c.if-byte_at-ne32.false)) in
    let f = height_found c.args.s.now c.args.w c.args.n c.byte_at.result c.byte_at.ensures c.if-byte_at-ne32.false
    c.read_field.result c.read_field.ensures _ c.in_ok-height.was in
    omega (arith, f.within, length-drop (c.args.n + 1) c.args.s.now)

pub ended-requires : goal.ended-requires
ended-requires c =
    let t = stands c.args.s.now c.args.n c.byte_at.result c.byte_at.ensures (omega (arith, c.if-byte_at-ne32.false)) in
    let f = height_found c.args.s.now c.args.w c.args.n c.byte_at.result c.byte_at.ensures c.if-byte_at-ne32.false
    c.read_field.result c.read_field.ensures _ c.in_ok-height.was in
    (c.requires.0, f.small, omega (arith, f.within, length-drop (c.args.n + 1) c.args.s.now))

pub returns : goal.returns
returns c = height_behind _ c.args.w _ _ c.byte_at.ensures c.if-byte_at-ne32.false _ c.read_field.ensures _ _ c.in_ok-height.was c.ended.ensures
