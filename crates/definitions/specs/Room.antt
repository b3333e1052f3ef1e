-- What the functions that read and write require.
use Rattle.std.specs.Prelude.{ℕ, ◌≤◌, List, length}

-- a procedure from token i on, its code from word n on
pub record Ground (tokens words : List ℕ) (i n : ℕ) : Type 0 where
  pub behind : n ≤ i
  pub wide : length tokens ≤ length words
  pub few : length tokens ≤ 65536

-- the code in the lower half of the words, the table in the upper
pub record Halves (tokens words : List ℕ) : Type 0 where
  pub few : length tokens ≤ 8192
  pub room : 16384 ≤ length words
