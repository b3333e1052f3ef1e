use Rattle.tables.proofs.KeyLaws.{other_kind, other_second, other_third, by_text}
use Rattle.tables.proofs.keys.same_figure.Goals as goal

pub returns-then-x-y : goal.returns-then-x-y
returns-then-x-y c = search other_kind

pub returns-then-not-same_word : goal.returns-then-not-same_word
returns-then-not-same_word c = search other_second

pub returns-then-not-same_word-2 : goal.returns-then-not-same_word-2
returns-then-not-same_word-2 c = search other_third

pub returns : goal.returns
returns c = search by_text
