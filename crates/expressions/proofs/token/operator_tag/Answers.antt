-- `token::operator_tag` meets its contract: an arm for each operator. Assumes nothing.
use Rattle.meaning.specs.Basics.{if◌then◌otherwise◌}
use Rattle.expressions.specs.Words.{operator_tag}
use Rattle.expressions.proofs.Tokens.{operator_none}
use Rattle.expressions.proofs.token.operator_tag.Goals as goal

pub returns-in-171 : goal.returns-in-171
unfolding operator_tag if◌then◌otherwise◌
returns-in-171 c = rw c.in-171.is

pub returns-in-43 : goal.returns-in-43
unfolding operator_tag if◌then◌otherwise◌
returns-in-43 c = rw c.in-43.is

pub returns-in-45 : goal.returns-in-45
unfolding operator_tag if◌then◌otherwise◌
returns-in-45 c = rw c.in-45.is

pub returns-in-42 : goal.returns-in-42
unfolding operator_tag if◌then◌otherwise◌
returns-in-42 c = rw c.in-42.is

pub returns-in-47 : goal.returns-in-47
unfolding operator_tag if◌then◌otherwise◌
returns-in-47 c = rw c.in-47.is

pub returns-in-37 : goal.returns-in-37
unfolding operator_tag if◌then◌otherwise◌
returns-in-37 c = rw c.in-37.is

pub returns-in-190 : goal.returns-in-190
unfolding operator_tag if◌then◌otherwise◌
returns-in-190 c = rw c.in-190.is

pub returns-in-188 : goal.returns-in-188
unfolding operator_tag if◌then◌otherwise◌
returns-in-188 c = rw c.in-188.is

pub returns-in-189 : goal.returns-in-189
unfolding operator_tag if◌then◌otherwise◌
returns-in-189 c = rw c.in-189.is

pub returns-in-161 : goal.returns-in-161
unfolding operator_tag if◌then◌otherwise◌
returns-in-161 c = rw c.in-161.is

pub returns-in-62 : goal.returns-in-62
unfolding operator_tag if◌then◌otherwise◌
returns-in-62 c = rw c.in-62.is

pub returns-in-60 : goal.returns-in-60
unfolding operator_tag if◌then◌otherwise◌
returns-in-60 c = rw c.in-60.is

pub returns-in_default : goal.returns-in_default
returns-in_default c = search operator_none
