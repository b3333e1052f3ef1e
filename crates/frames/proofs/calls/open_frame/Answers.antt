use Rattle.frames.proofs.CallLaws.{top_beyond, stack_full, opened}
use lib.ListN.{length-set}
use native.Mathlib.Omega.{arith}
use Rattle.frames.proofs.calls.open_frame.Goals as goal

pub returns-then-top-gt-STACK_WORDS : goal.returns-then-top-gt-STACK_WORDS
returns-then-top-gt-STACK_WORDS c = search top_beyond

pub returns-then-top-n : goal.returns-then-top-n
returns-then-top-n c = search stack_full

pub bounds-words-5 : goal.bounds-words-5
bounds-words-5 c = simp length-set (omega arith)

pub bounds-words-6 : goal.bounds-words-6
bounds-words-6 c = simp length-set (omega arith)

pub returns : goal.returns
returns c = search opened
