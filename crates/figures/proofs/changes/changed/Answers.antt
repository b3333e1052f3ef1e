use Rattle.figures.proofs.ChangeLaws.{no_zero, changes_17, changes_18, changes_19, changes_20, changes_22, changes_23}
use Rattle.figures.proofs.changes.changed.Goals as goal

pub scaled_down-requires : goal.scaled_down-requires
scaled_down-requires c = search no_zero

pub returns-in-17 : goal.returns-in-17
returns-in-17 c = search changes_17

pub returns-in-18 : goal.returns-in-18
returns-in-18 c = search changes_18

pub returns-in-19 : goal.returns-in-19
returns-in-19 c = search changes_19

pub returns-in-20 : goal.returns-in-20
returns-in-20 c = search changes_20

pub returns-in-22 : goal.returns-in-22
returns-in-22 c = search changes_22

pub returns-in_default : goal.returns-in_default
returns-in_default c = search changes_23
