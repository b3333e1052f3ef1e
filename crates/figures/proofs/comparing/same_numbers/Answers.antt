use Rattle.figures.proofs.ComparingLaws.{numbers_apart, numbers_rest}
use Rattle.figures.proofs.comparing.same_numbers.Goals as goal

pub returns-then-same_pair : goal.returns-then-same_pair
returns-then-same_pair c = search numbers_rest

pub returns-else-same_pair : goal.returns-else-same_pair
returns-else-same_pair c = search numbers_apart
