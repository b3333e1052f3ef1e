-- `read_digits` meets its contract. Assumes nothing.
use Rattle.expressions.proofs.Puts.{digits_large, digits_leaf}
use Rattle.expressions.proofs.read_digits.Goals as goal

pub returns-then-x-gt2147483647 : goal.returns-then-x-gt2147483647
returns-then-x-gt2147483647 c = digits_large _ _ _ _ c.requires.i_value _ c.payload_at-x.ensures c.if-x-gt2147483647.true

pub returns : goal.returns
returns c = digits_leaf _ _ _ _ c.requires.i_value _ c.payload_at-x.ensures _ _ c.if-x-gt2147483647.false c.put_leaf.ensures
