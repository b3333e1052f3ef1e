-- `spellings::leaf::write_sign` meets its contract: by the tag.
-- Assumes nothing.
use Rattle.spellings.proofs.Leaves.{sign_entry, sign_concatenate, sign_add, sign_subtract, sign_multiply, sign_divide}
use Rattle.spellings.proofs.Leaves.{sign_remainder, sign_shift_right, sign_shift_left, sign_equal, sign_unequal, sign_greater, sign_less}
use Rattle.spellings.proofs.leaf.write_sign.Goals as goal

pub returns-in-7 : goal.returns-in-7
returns-in-7 c = search sign_entry

pub returns-in-16 : goal.returns-in-16
returns-in-16 c = search sign_concatenate

pub returns-in-17 : goal.returns-in-17
returns-in-17 c = search sign_add

pub returns-in-18 : goal.returns-in-18
returns-in-18 c = search sign_subtract

pub returns-in-19 : goal.returns-in-19
returns-in-19 c = search sign_multiply

pub returns-in-20 : goal.returns-in-20
returns-in-20 c = search sign_divide

pub returns-in-21 : goal.returns-in-21
returns-in-21 c = search sign_remainder

pub returns-in-22 : goal.returns-in-22
returns-in-22 c = search sign_shift_right

pub returns-in-23 : goal.returns-in-23
returns-in-23 c = search sign_shift_left

pub returns-in-24 : goal.returns-in-24
returns-in-24 c = search sign_equal

pub returns-in-25 : goal.returns-in-25
returns-in-25 c = search sign_unequal

pub returns-in-26 : goal.returns-in-26
returns-in-26 c = search sign_greater

pub returns-in_default : goal.returns-in_default
returns-in_default c = search sign_less
