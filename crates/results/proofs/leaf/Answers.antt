use Rattle.results.proofs.Laws.{is_number, is_string, is_none, is_truth, is_name}
use Rattle.results.proofs.leaf.Goals as goal

pub returns-in-1 : goal.returns-in-1
returns-in-1 c = search is_number

pub returns-in-2 : goal.returns-in-2
returns-in-2 c = search is_string

pub returns-in-3 : goal.returns-in-3
returns-in-3 c = search is_none

pub returns-in-4 : goal.returns-in-4
returns-in-4 c = search is_truth

pub returns-in_default : goal.returns-in_default
returns-in_default c = search is_name
