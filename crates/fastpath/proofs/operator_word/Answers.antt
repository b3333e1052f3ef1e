use Rattle.fastpath.proofs.Laws.{adds, subtracts, multiplies, by_tag, shifts_right, shifts_left, equals, differs, exceeds, is_less, no_operator}
use Rattle.fastpath.proofs.operator_word.Goals as goal

pub returns-in-17 : goal.returns-in-17
returns-in-17 c = search adds

pub returns-in-18 : goal.returns-in-18
returns-in-18 c = search subtracts

pub returns-in-19 : goal.returns-in-19
returns-in-19 c = search multiplies

pub returns-in-20 : goal.returns-in-20
returns-in-20 c = search by_tag

pub returns-in-21 : goal.returns-in-21
returns-in-21 c = search by_tag

pub returns-in-22 : goal.returns-in-22
returns-in-22 c = search shifts_right

pub returns-in-23 : goal.returns-in-23
returns-in-23 c = search shifts_left

pub returns-in-24 : goal.returns-in-24
returns-in-24 c = search equals

pub returns-in-25 : goal.returns-in-25
returns-in-25 c = search differs

pub returns-in-26 : goal.returns-in-26
returns-in-26 c = search exceeds

pub returns-in-27 : goal.returns-in-27
returns-in-27 c = search is_less

pub returns-in_default : goal.returns-in_default
returns-in_default c = search no_operator
