-- Small things that the other files use. A byte is a number below 256, and a text a list of bytes.
use Rattle.std.specs.Prelude.{ℕ, suc, Bool, true, false, ◌&&◌, ◌||◌, List, [], ◌∷◌, eqb}
use Prim.Native.Char.{code}
use Prim.Native.String as String

-- a text in quotes, as its bytes
abbrev pub bytes : String.String → List ℕ
bytes String.[] = []
bytes (String.◌∷◌ c s) = code c ∷ bytes s

-- A choice. Either side stands behind `λ _.`, so that only the chosen one is computed.
infix 5 if◌then◌otherwise◌
unfoldable pub if◌then◌otherwise◌ : {A : Type 0} → Bool → (Unit {0} → A) → (Unit {0} → A) → A
if true then a otherwise b = a tt
if false then a otherwise b = b tt

-- whether two texts have the same bytes
unfoldable pub same_text : List ℕ → List ℕ → Bool
same_text [] [] = true
same_text [] (y ∷ ys) = false
same_text (x ∷ xs) [] = false
same_text (x ∷ xs) (y ∷ ys) = eqb x y && same_text xs ys

-- whether a byte stands in a text
unfoldable pub stands_in : ℕ → List ℕ → Bool
stands_in b [] = false
stands_in b (x ∷ xs) = eqb b x || stands_in b xs

-- how many bytes at the front of a text pass a test
unfoldable pub span : (ℕ → Bool) → List ℕ → ℕ
span p [] = 0
span p (x ∷ xs) = if p x then (λ _. suc (span p xs)) otherwise λ _. 0

-- the front of the second text replaced by the first, as far as it reaches; what stands behind is kept
unfoldable pub laid_over : List ℕ → List ℕ → List ℕ
laid_over [] kept = kept
laid_over (x ∷ xs) [] = []
laid_over (x ∷ xs) (y ∷ kept) = x ∷ laid_over xs kept
