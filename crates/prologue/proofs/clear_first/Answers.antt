use mathlib.Core.Path.{sym}
use native.Mathlib.Omega.{arith}
use lib.Seq.{length-take-le}
use Rattle.machine.specs.Layout.{first_argument}
use Rattle.prologue.proofs.Ways.{both_cleared}
use Rattle.prologue.proofs.clear_first.Goals as goal

pub slice_bounds-clear_words-end-2 : goal.slice_bounds-clear_words-end-2
slice_bounds-clear_words-end-2 c = sym (length-take-le first_argument c.args.words.now (omega (arith, c.requires.words)))

pub returns : goal.returns
returns c =
    both_cleared c.args.grants.now c.args.words.now _ _ _ _ c.requires
    c.place_of-a.ensures c.place_of-b.ensures
    c.clear_words.ensures c.clear_words-2.ensures
