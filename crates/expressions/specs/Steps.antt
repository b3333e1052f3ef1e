-- What is done with what was read.
use Rattle.std.specs.Prelude.{ℕ, ◌+◌, ◌-◌, List, [], ◌∷◌, ◌++◌, Result, Ok, Err}
use Rattle.meaning.specs.Basics.{if◌then◌otherwise◌}
use Rattle.machine.specs.Opcodes.{word}
use Rattle.expressions.specs.declared.Read.{Read}
use Rattle.expressions.specs.declared.Misfit.{Misfit}
use Rattle.expressions.specs.declared.Target.{Target}
use Rattle.expressions.specs.declared.Target.TheVariants.{Neither}
use Rattle.expressions.specs.Words.{is, Seen, at, failed}

-- a token of a kind has to follow
unfoldable pub closed : ℕ → List ℕ → Read → Result Read Misfit
closed k ws e =
    if is k ws e.token then (λ _. Ok (record { token = e.token + 1; word = e.word; target = Neither }))
    otherwise λ _. Err (record { number = 10; token = e.token })

-- a word with a number x behind the words from n on
unfoldable pub finished : ℕ → ℕ → ℕ → Seen → Seen
finished tag n x (at j m t xs) = at j (m + 1) Neither (xs ++ (word tag (m - n + 1) x ∷ []))
finished tag n x (failed k p) = failed k p

-- a word behind two parts, the words from n up to m and those from m on
unfoldable pub combined : ℕ → ℕ → ℕ → Target → Seen → Seen
combined tag n m target (at j e t xs) = at j (e + 1) target (xs ++ (word tag (e - n + 1) (e - m) ∷ []))
combined tag n m target (failed k p) = failed k p
