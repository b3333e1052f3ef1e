-- `lending::can_read` meets its contract: each question in turn.
use Rattle.lending.proofs.Admitted.{out_of_range, few_tokens, code_asked}
use Rattle.lending.proofs.can_read.Goals as goal

pub returns-then-not-in_range : goal.returns-then-not-in_range
returns-then-not-in_range c = search out_of_range

pub returns-then-tokens-lt8193 : goal.returns-then-tokens-lt8193
returns-then-tokens-lt8193 c = search few_tokens

pub returns : goal.returns
returns c = search code_asked
