-- `lending::is_enough` meets its contract: what reading needs, and then what a run needs.
use Rattle.lending.proofs.Admitted.{unread, is_in_range, few_words, texts_asked}
use Rattle.lending.proofs.is_enough.Goals as goal

pub returns-then-not-can_read : goal.returns-then-not-can_read
returns-then-not-can_read c = search unread

pub words_needed-requires : goal.words_needed-requires
words_needed-requires c = search is_in_range

pub returns-then-words-words_needed : goal.returns-then-words-words_needed
returns-then-words-words_needed c = search few_words

pub returns : goal.returns
returns c = search texts_asked
