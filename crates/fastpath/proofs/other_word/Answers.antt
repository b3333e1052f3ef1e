use Rattle.fastpath.proofs.Laws.{other_string, other_name, no_other}
use Rattle.fastpath.proofs.other_word.Goals as goal

pub returns-then-head-eq-STRING : goal.returns-then-head-eq-STRING
returns-then-head-eq-STRING c = search other_string

pub returns-then-head-eq-NAME : goal.returns-then-head-eq-NAME
returns-then-head-eq-NAME c = search other_name

pub returns : goal.returns
returns c = search no_other
