use native.Mathlib.Omega.{arith}
use Rattle.showing.proofs.WriteLaws.{write_first, write_room, write_more, write_all}
use Rattle.showing.proofs.write_variables.Goals as goal

pub loop-drawn-init : goal.loop-drawn-init
loop-drawn-init c = search write_first

pub declared_word-w-requires : goal.declared_word-w-requires
declared_word-w-requires c = omega (arith, c.requires.words, c.loop-drawn.invariant.unmoved.long)

pub write_in-at-requires : goal.write_in-at-requires
write_in-at-requires c = search write_room

pub loop-drawn-preserved : goal.loop-drawn-preserved
loop-drawn-preserved c =
    write_more _ _ _ _ _ _ _ _ _ _ _ c.loop-drawn.invariant _ _ _ _ (omega arith) c.loop-drawn-test.true c.declared_word-w.ensures c.write_in-at.ensures

pub returns : goal.returns
returns c = search write_all
