-- `read_negative` meets its contract. Assumes nothing.
use Rattle.expressions.proofs.Puts.{minus_alone, minus_large, minus_leaf}
use Rattle.expressions.proofs.read_negative.Goals as goal

pub returns-then-not-is_signed : goal.returns-then-not-is_signed
returns-then-not-is_signed c = search minus_alone

pub returns-then-x-gt2147483648 : goal.returns-then-x-gt2147483648
returns-then-x-gt2147483648 c = search minus_large

pub returns : goal.returns
returns c = search minus_leaf
