-- What the functions that read and write require.
use Rattle.std.specs.Prelude.{ℕ, ◌+◌, ◌<◌, ◌≤◌, ◌≡◌, List, length}
use Rattle.expressions.specs.declared.Read.{Read}

-- Reading from token i, writing from word n: a word for each token is enough room, and no code has more words than its size can say.
pub record Room (tokens words : List ℕ) (i n : ℕ) : Type 0 where
  pub behind : n ≤ i
  pub wide : length tokens ≤ length words
  pub short : length tokens < 16777216

-- one word at n, for a token i
pub record Spot (words : List ℕ) (i n tag x : ℕ) : Type 0 where
  pub behind : n ≤ i
  pub inside : i < length words
  pub small_tag : tag < 256
  pub small_number : x < 4294967296

-- one word behind what was read and written, of which the words from m on are the last part and those from n on all
pub record Spare (words : List ℕ) (b : Read) (n m tag : ℕ) : Type 0 where
  pub order : n ≤ m
  pub small_tag : tag < 256
  pub spare : (m ≤ b.word) × (b.word < length words) × (b.word < n + 16777215)
