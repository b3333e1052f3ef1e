-- What a program prints that reads the beginning of its input and forgets the rest.
use Rattle.std.specs.Prelude.{ℕ, ◌≤◌, List, ◌≡◌, length, take}

-- All of an input may be longer than the slice that it is read into. Reading ends where the slice is full or the input ends, so the n bytes read are as
-- much of the input as the slice holds.
abbrev pub ReadFrom : List ℕ → List ℕ → ℕ → Type 0
ReadFrom input bytes n = take (length bytes) input ≡ take n bytes

-- what stands in the front of a slice is the text of every input that n bytes were read from
pub record Prints (text : List ℕ → List ℕ) (bytes : List ℕ) (n : ℕ) (out : List ℕ) (size : ℕ) : Type 0 where
  pub holds : (input : List ℕ) → ReadFrom input bytes n → take size out ≡ text input
  pub within : size ≤ length out
