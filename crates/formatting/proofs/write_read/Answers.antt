-- `formatting::write_read` meets its contract: a program that is too long, one that was read, or a number and its place.
use native.Mathlib.Omega.{arith}
use lib.ListN.{length-take}
use Rattle.formatting.proofs.Answering.{tokens_within, raw_bounded, formed_written, malformed_written, long_written}
use Rattle.formatting.proofs.write_read.Goals as goal

pub returns-then-program-gt-LONGEST : goal.returns-then-program-gt-LONGEST
returns-then-program-gt-LONGEST c = long_written _ _ c.if-program-gt-LONGEST.true

pub slice_bounds-write_fitting-end : goal.slice_bounds-write_fitting-end
slice_bounds-write_fitting-end c =
    tokens_within _ _ _ c.if-program-gt-LONGEST.false _ c.in-Ok.ensures.0 c.in-Ok.ensures.1 (omega (arith, c.requires.tokens_long))

pub slice_bounds-write_fitting-end-in-Ok : goal.slice_bounds-write_fitting-end-in-Ok
slice_bounds-write_fitting-end-in-Ok c =
    let h = tokens_within _ _ _ c.if-program-gt-LONGEST.false _ c.in-Ok.ensures.0 c.in-Ok.ensures.1 (omega (arith, c.requires.tokens_long)) in
    simp length-take (omega arith)

pub write_fitting-requires : goal.write_fitting-requires
write_fitting-requires c = raw_bounded _ _ _ c.if-program-gt-LONGEST.false _ c.in-Ok.ensures.0 c.in-Ok.ensures.1

pub returns-in-Ok : goal.returns-in-Ok
returns-in-Ok c = formed_written _ _ _ c.if-program-gt-LONGEST.false _ c.in-Ok.ensures.0 c.in-Ok.ensures.1 _ _ _ c.write_fitting.ensures

pub returns-in-Err : goal.returns-in-Err
returns-in-Err c = malformed_written _ _ _ c.if-program-gt-LONGEST.false _ c.in-Err.ensures.0
