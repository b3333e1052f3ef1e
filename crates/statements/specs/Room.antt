-- What the functions that read and write require.
use Rattle.std.specs.Prelude.{ℕ, ◌+◌, ◌<◌, ◌≤◌, ◌≡◌, List, length}
use Rattle.expressions.specs.declared.Read.{Read}

-- A statement from token i on, its word at n and its parts behind: a word for each token is enough room, and beside a place a word has 16 bits for
-- how many words a test has.
pub record Space (tokens words : List ℕ) (i n : ℕ) : Type 0 where
  pub behind : n < i
  pub wide : length tokens ≤ length words
  pub few : length tokens ≤ 65536

-- the word at n, before parts that were read
pub record Parts (e : Read) (n tag x : ℕ) : Type 0 where
  pub small_tag : tag < 256
  pub small_number : x < 65536
  pub parts : (n < e.word) × (e.word < n + 16777216)
