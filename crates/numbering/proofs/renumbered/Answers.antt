use Rattle.numbering.proofs.renumbered.Goals.{then-tag-eq-DECLARE-via-then-tag-eq-DECLARE, then-tag-eq-DECLARE-via-else-tag-eq-DECLARE+then-tag-eq-ASSIGN}
use Rattle.numbering.proofs.Turns.{renumber_slot, renumber_name, renumber_declare, renumber_assign, renumber_other}
use Rattle.numbering.proofs.renumbered.Goals as goal

pub returns-then-slot : goal.returns-then-slot
returns-then-slot c = search renumber_slot

pub returns-then-tag-eq-NAME : goal.returns-then-tag-eq-NAME
returns-then-tag-eq-NAME c = search renumber_name

pub returns-then-tag-eq-DECLARE : goal.returns-then-tag-eq-DECLARE
returns-then-tag-eq-DECLARE c =
    elim c.then-tag-eq-DECLARE.branch [
      | then-tag-eq-DECLARE-via-then-tag-eq-DECLARE w ↦ search renumber_declare
      | then-tag-eq-DECLARE-via-else-tag-eq-DECLARE+then-tag-eq-ASSIGN w ↦ search renumber_assign
    ]

pub returns : goal.returns
returns c = search renumber_other
