use Rattle.figures.proofs.ChangeLaws.{makes_17, makes_18, makes_19, makes_20, zero_20, makes_22, makes_23, makes_none}
use Rattle.figures.proofs.changes.allowed.Goals as goal

pub returns-then-is_zero : goal.returns-then-is_zero
returns-then-is_zero c = search zero_20

pub returns-in-17 : goal.returns-in-17
returns-in-17 c = search makes_17

pub returns-in-18 : goal.returns-in-18
returns-in-18 c = search makes_18

pub returns-in-19 : goal.returns-in-19
returns-in-19 c = search makes_19

pub returns-else-is_zero : goal.returns-else-is_zero
returns-else-is_zero c = search makes_20

pub returns-in-22 : goal.returns-in-22
returns-in-22 c = search makes_22

pub returns-in-23 : goal.returns-in-23
returns-in-23 c = search makes_23

pub returns-in_default : goal.returns-in_default
returns-in_default c = search makes_none
