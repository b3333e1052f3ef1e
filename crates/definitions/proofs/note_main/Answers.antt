-- `definitions::note_main` meets its contract.
-- Assumes nothing.
use mathlib.Core.Path.{◌∙◌, sym}
use Rattle.definitions.proofs.Table.{main_kept, main_now, main_other}
use Rattle.definitions.proofs.note_main.Goals as goal

pub returns-then-is_some : goal.returns-then-is_some
returns-then-is_some c = main_kept _ _ _ _ c.is_some.ensures c.if-is_some.true

pub returns-then-procedure_at-eq-MAIN : goal.returns-then-procedure_at-eq-MAIN
returns-then-procedure_at-eq-MAIN c = main_now _ _ _ _ c.is_some.ensures c.if-is_some.false (sym c.procedure_at.ensures ∙ c.if-procedure_at-eq-MAIN.true)

pub returns : goal.returns
returns c = main_other _ _ _ _ c.is_some.ensures c.if-is_some.false (λ e. c.if-procedure_at-eq-MAIN.false (c.procedure_at.ensures ∙ e))
