-- Bytes laid into a slice from a place on, and what a writer of them promises.
use Rattle.std.specs.Prelude.{ℕ, ◌+◌, ◌-◌, ◌^◌, min, ◌≡◌, List, ◌++◌, length, take, drop}
use Rattle.meaning.specs.Basics.{laid_over}

-- the second text with the first laid over it from a place on, as far as it reaches
unfoldable pub laid_at : ℕ → List ℕ → List ℕ → List ℕ
laid_at at b kept = take at kept ++ laid_over b (drop at kept)

-- a number, or the largest usize if that is less
unfoldable pub saturated : ℕ → ℕ
saturated n = min n (2 ^ 64 - 1)

-- the bytes b were written to the front of a slice: what it held, what it holds, and how many bytes b has
pub record Wrote (b before after : List ℕ) (size : ℕ) : Type 0 where
  pub laid : after ≡ laid_over b before
  pub counts : size ≡ length b

-- the same from a place on, with the place behind b
pub record WroteAt (at : ℕ) (b before after : List ℕ) (next : ℕ) : Type 0 where
  pub laid : after ≡ laid_at at b before
  pub ends : next ≡ saturated (at + length b)
