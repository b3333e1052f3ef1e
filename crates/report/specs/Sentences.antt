-- What the numbers of checking mean, in plain words.
use Rattle.std.specs.Prelude.{ℕ, Bool, cond, List, eqb}
use Rattle.meaning.specs.Basics.{bytes}

-- by the number, and whether its place is the program's end
unfoldable pub sentence_of : ℕ → Bool → List ℕ
sentence_of n isEnd =
    cond (eqb n 10)
    (cond isEnd
    (bytes "The program ends here, and the grammar asks for more.\n")
    (bytes "The program is not written as the grammar asks from here on.\n"))
    (cond (eqb n 60) (bytes "This procedure has the name of an earlier one or of the library.\n")
    (cond (eqb n 73) (bytes "The program has more than 32,768 bytes.\n")
    (cond (eqb n 74) (bytes "The program has more than 8,192 tokens. This is the first one too many.\n")
    (cond (eqb n 75) (bytes "This opens a 65th level, and a program has at most 64.\n")
    (bytes "The program is not well formed.\n")))))
