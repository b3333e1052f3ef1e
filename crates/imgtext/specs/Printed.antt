-- What `imgtext` prints.
use Rattle.std.specs.Prelude.{ℕ, ◌+◌, List, [], length, leb}
use Rattle.meaning.specs.Basics.{if◌then◌otherwise◌}
use Rattle.meaning.specs.Book.{Answer, pictured, number, undecided}
use Rattle.canonical.specs.Call.{text}
use Rattle.checking.specs.Checking.{read_answer}
use Rattle.sheet.specs.Errors.{error_line}

-- one byte more than a program may have is enough to say that it has too many
abbrev pub input_bytes : ℕ
input_bytes = 32768 + 1

-- no text is longer than a program may be
abbrev pub out_bytes : ℕ
out_bytes = 32768

-- the text, by checking's answer, or the line of an error; no answer is undecided
unfoldable pub printed_for : Answer → List ℕ → List ℕ
printed_for (pictured l n) t = if leb (length t) out_bytes then (λ _. t) otherwise λ _. error_line 82 0
printed_for (number k p n l) t = error_line k p
printed_for undecided t = []

-- ALL THAT IS PRINTED for a program
unfoldable pub printed : List ℕ → List ℕ
printed program = printed_for (read_answer program) (text program)
