-- Tokens that fit their words. Those of every program of at most 32,768 bytes do, if they are at most 8,192.
use Rattle.std.specs.Prelude.{ℕ, ◌≤◌, ◌<◌, List, length}
use Rattle.meaning.specs.Token.{Token}
use Rattle.meaning.specs.Grammar.{kind_at, text_at, start_at}

-- Behind the last token the first three hold of themselves.
pub record Sane (ts : List Token) : Type 0 where
  pub kinds : (i : ℕ) → kind_at ts i < 256
  pub places : (i : ℕ) → start_at ts i < 32768
  pub texts : (i : ℕ) → length (text_at ts i) ≤ 32768
  pub few : length ts ≤ 8192
