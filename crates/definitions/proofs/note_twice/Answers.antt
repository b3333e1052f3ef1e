-- `definitions::note_twice` meets its contract.
-- Assumes nothing.
use mathlib.Core.Path.{◌∙◌, ap}
use native.Mathlib.Omega.{arith}
use Rattle.std.specs.Prelude.{Some}
use Rattle.definitions.proofs.Table.{twice_kept, twice_again, twice_library, twice_none}
use Rattle.definitions.proofs.note_twice.Goals as goal
use Rattle.definitions.proofs.note_twice.Goals.{then-old-ne0-via-then-old-ne0, then-old-ne0-via-else-old-ne0+then-procedure_at-lt-OTHER}

pub returns-then-is_some : goal.returns-then-is_some
returns-then-is_some c = twice_kept _ _ _ _ _ c.is_some.ensures c.if-is_some.true

pub returns-then-old-ne0 : goal.returns-then-old-ne0
returns-then-old-ne0 c =
    ap Some c.place_at.ensures ∙ elim c.then-old-ne0.branch [
      | then-old-ne0-via-then-old-ne0 w ↦ twice_again _ _ _ _ _ c.is_some.ensures c.if-is_some.false w.if-old-ne0.true
      | then-old-ne0-via-else-old-ne0+then-procedure_at-lt-OTHER w ↦
          twice_library _ _ _ _ _ c.is_some.ensures c.if-is_some.false (omega (arith, w.procedure_at.ensures, w.if-procedure_at-lt-OTHER.true))
    ]

pub returns : goal.returns
returns c =
    twice_none _ _ _ _ _ c.is_some.ensures c.if-is_some.false c.if-old-ne0.false (omega (arith, c.procedure_at.ensures, c.if-procedure_at-lt-OTHER.false))
