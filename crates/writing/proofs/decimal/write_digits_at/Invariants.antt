use lib.ListN.{take}
use Rattle.meaning.specs.Picture.{digits_of}
use Rattle.writing.proofs.Decimals.{last_digits}
use Rattle.writing.proofs.Laying.{Backward}
use Rattle.writing.proofs.decimal.write_digits_at.Given as goal

abbrev pub invariant-loop-i : goal.invariant-loop-i
invariant-loop-i l = Backward l.at (take l.fits (digits_of l.n)) (last_digits l.i l.rest) l.initial.out l.out l.i
