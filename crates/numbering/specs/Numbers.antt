-- The variables of a procedure, numbered, and its code with these numbers.
use Rattle.std.specs.Prelude.{ℕ, suc, ◌+◌, ◌*◌, List, [], ◌∷◌, ◌++◌, length, eqb}
use Rattle.meaning.specs.Basics.{if◌then◌otherwise◌, same_text}
use Rattle.meaning.specs.Token.{Token}
use Rattle.meaning.specs.Tree.{Procedure}
use Rattle.meaning.specs.Procedure.{is_among}
use Rattle.code.specs.Code.{statements_with, head_word}
use Rattle.reader.specs.Declarations.{declared_by}

-- ---- names, each once
-- behind those that there are, unless it is one of them
unfoldable pub with_name : List (List ℕ) → List ℕ → List (List ℕ)
with_name xs x = if is_among x xs then (λ _. xs) otherwise λ _. xs ++ (x ∷ [])

unfoldable pub with_names : List (List ℕ) → List (List ℕ) → List (List ℕ)
with_names xs [] = xs
with_names xs (y ∷ ys) = with_names (with_name xs y) ys

-- which of them a name is; if it is none, how many they are
unfoldable pub number_in : List (List ℕ) → List ℕ → ℕ
number_in [] x = 0
number_in (y ∷ ys) x = if same_text y x then (λ _. 0) otherwise λ _. suc (number_in ys x)

-- ---- procedures
-- the variables that a call may have: its parameters, and the names that its body declares
unfoldable pub variables_in : Procedure → List (List ℕ)
variables_in f = with_names [] (f.parameters ++ declared_by f.body)

-- how many words they take in a call, one for all other names among them; 0 if two parameters have one name
unfoldable pub frame_size : Procedure → ℕ
frame_size f =
    if eqb (length (with_names [] f.parameters)) (length f.parameters) then (λ _. suc (length (variables_in f))) otherwise λ _. 0

-- its word in the table, where its code begins at a
abbrev pub numbered_word : ℕ → Procedure → List Token → ℕ
numbered_word a f ts = head_word a f ts + 281474976710656 * frame_size f

abbrev pub numbered_body : Procedure → List Token → List ℕ
numbered_body f ts = statements_with (number_in (variables_in f)) f.body ts
