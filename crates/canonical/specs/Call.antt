-- A call that asks for a program's text: checking's, with an out slice.
use Rattle.std.specs.Prelude.{ℕ, Bool, ◌&&◌, List, [], length, leb}
use Rattle.meaning.specs.Basics.{if◌then◌otherwise◌, laid_over}
use Rattle.meaning.specs.Grammar.{Reading, well_formed, malformed, reading}
use Rattle.meaning.specs.Book.{Answer, pictured, number, undecided}
use Rattle.meaning.specs.Call.{Call, answer}
use Rattle.canonical.specs.Text.{program_text}

-- a program that cannot be read has no text
unfoldable pub text_read : Reading → List ℕ
text_read (well_formed m) = program_text m
text_read (malformed n p) = []

abbrev pub text : List ℕ → List ℕ
text program = text_read (reading program)

-- a text is at most as long as a program may be
unfoldable pub fits : List ℕ → List ℕ → Bool
fits t out = leb (length t) 32768 && leb (length t) (length out)

-- 82 is asked after all that checking asks, and tells the text's length
unfoldable pub answer_with : Answer → List ℕ → List ℕ → Answer
answer_with (pictured l n) t out = if fits t out then (λ _. pictured (length t) 0) otherwise λ _. number 82 0 0 (length t)
answer_with (number k p n l) t out = number k p n l
answer_with undecided t out = undecided

unfoldable pub text_answer : Call → Answer
text_answer c = answer_with (answer c) (text c.program) c.out

-- the text stands in the front of the out slice, or nothing was written
unfoldable pub out_with : Answer → List ℕ → List ℕ → List ℕ
out_with (pictured l n) t out = if fits t out then (λ _. laid_over t out) otherwise λ _. out
out_with (number k p n l) t out = out
out_with undecided t out = out

unfoldable pub text_out : Call → List ℕ
text_out c = out_with (answer c) (text c.program) c.out
