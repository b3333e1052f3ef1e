-- What is lent and granted for drawing, its call as one of the meaning's, and what it promises.
use Rattle.std.specs.Prelude.{ℕ, ◌≤◌, ◌≡◌, Bool, ◌&&◌, List, [], ◌∷◌, length, ℤ}
use Rattle.meaning.specs.Program.{Operation, checking, drawing}
use Rattle.meaning.specs.Book.{Answer}
use Rattle.meaning.specs.Call.{Grants, Call, in_range, needed, long_enough, answer, work_after}
use Rattle.machine.specs.Layout.{steps_granted, shapes_granted, entries_granted, text_granted, calls_granted, Lent}

-- the five counts of a list
abbrev pub grants_of : List ℕ → Grants
grants_of g = record { steps = steps_granted g; shapes = shapes_granted g; entries = entries_granted g; text_bytes = text_granted g; calls = calls_granted g }

-- whether they are in their ranges, and slices of these lengths long enough for a program to be read
unfoldable pub enough_to_read : List ℕ → ℕ → ℕ → Bool
enough_to_read g tokens code = in_range (grants_of g) && long_enough (needed checking (grants_of g)) (tokens ∷ code ∷ [])

-- the same of a run: whether they are in their ranges, and work slices of these lengths long enough for them
unfoldable pub enough : List ℕ → ℕ → ℕ → ℕ → ℕ → Bool
enough g tokens code words texts = in_range (grants_of g) && long_enough (needed drawing (grants_of g)) (tokens ∷ code ∷ words ∷ texts ∷ [])

-- what a run asks of them
pub record Ready (g tokens code ts ws : List ℕ) : Type 0 where
  pub tokens_long : 8193 ≤ length tokens
  pub code_long : 16384 ≤ length code
  pub lent : Lent g ts ws

abbrev pub called : Operation → List ℕ → ℤ → ℤ → List ℕ → List ℕ → List ℕ → List ℕ → List ℕ → List ℕ → Call
called o program width height g tokens code words texts out = record {
  operation = o;
  program = program;
  width = width;
  height = height;
  grants = grants_of g;
  lent = length tokens ∷ length code ∷ length words ∷ length texts ∷ [];
  out = out;
}

-- what an operation promises beside the out slice: the answer, and what each work slice holds when it returns
pub record Performed (c : Call) (a : Answer) (tokens code words texts tokens' code' words' texts' : List ℕ) : Type 0 where
  pub answered : a ≡ answer c
  pub tokens_after : tokens' ≡ work_after c tokens
  pub code_after : code' ≡ work_after c code
  pub words_after : words' ≡ work_after c words
  pub texts_after : texts' ≡ work_after c texts
