use Rattle.frames.proofs.CallLaws.{parameter_word, blank_word}
use Rattle.frames.proofs.calls.first_word.Goals as goal

pub returns-then-k-m : goal.returns-then-k-m
returns-then-k-m c = search parameter_word

pub returns : goal.returns
returns c = search blank_word
