-- What the functions on statements ask.
use Rattle.std.specs.Prelude.{ℕ, ◌+◌, ◌*◌, ◌^◌, ◌<◌}

-- there is room behind x for statements nested so deep
pub record Room (fuel x : ℕ) : Type 0 where
  pub room : x + 33554432 * fuel < 2 ^ 62
