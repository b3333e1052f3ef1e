-- The position of a place, byte by byte.
-- Assumes nothing.
use Prim.Native.Nat.{ℕ, suc, ◌+◌, ◌^◌, ◌≤◌, ◌<◌}
use mathlib.Core.Bool.{Bool, true, false}
use mathlib.Core.List.{List, [], ◌∷◌}
use mathlib.Core.Path.{◌≡◌, refl}
use native.Mathlib.Numerals.{add-one}
use native.Mathlib.Omega.{arith}
use borrow.Author.Tests.{eq-eqb, ne_eqb}
use lib.Dec.{eqb}
use lib.ListN.{length, get_or, take, drop, drop_of_length-le}
use lib.Seq.{drop-cons, length-take-le}
use Rattle.meaning.specs.Basics.{if◌then◌otherwise◌}
use Rattle.report.specs.declared.place.Position.{Position}
use Rattle.report.specs.Positions.{Small, after_byte, after_bytes, first, position_of}

-- ---- one byte
module _ (p : Position) (b : ℕ) where
  pub after_linefeed : b ≡ 10 → record { line = p.line + 1; column = 1 } ≡ after_byte p b
  unfolding after_byte if◌then◌otherwise◌
  after_linefeed e = rw (eq-eqb b 10 e)

  pub after_other : (b ≡ 10 → ⊥) → record { line = p.line; column = p.column + 1 } ≡ after_byte p b
  unfolding after_byte if◌then◌otherwise◌
  after_other e = rw (ne_eqb b 10 e)

-- both numbers grow by at most 1, and the column is never 0
pub record Bounded (p : Position) (n : ℕ) : Type 0 where
  pub lines : p.line ≤ n
  pub columns : p.column ≤ n
  pub some : 1 ≤ p.column

bounded_more : (p : Position) (b n : ℕ) → Bounded p n → Bounded (after_byte p b) (n + 1)
unfolding after_byte if◌then◌otherwise◌
bounded_more p b n g = by (eqb b 10)
  where
    by : (t : Bool) → Bounded (if t then (λ _. record { line = p.line + 1; column = 1 }) otherwise λ _. record { line = p.line; column = p.column + 1 }) (n + 1)
    by true = record { lines = omega (arith, g.lines); columns = omega arith; some = omega arith }
    by false = record { lines = omega (arith, g.lines); columns = omega (arith, g.columns); some = omega arith }

bounded_all : (bs : List ℕ) (p : Position) (n : ℕ) → Bounded p n → Bounded (after_bytes p bs) (n + length bs)
unfolding after_bytes
bounded_all [] p n g = let q : n + 0 ≡ n = omega arith in rw q g
bounded_all (b ∷ bs) p n g =
    let q : n + suc (length bs) ≡ n + 1 + length bs = omega arith in
    rw q (bounded_all bs (after_byte p b) (n + 1) (bounded_more p b n g))

pub position_bounded : (program : List ℕ) (place : ℕ) → place ≤ length program → Bounded (position_of program place) (1 + place)
unfolding position_of
position_bounded program place h =
    rw (length-take-le place program h) at
    (bounded_all (take place program) first 1 (record { lines = omega arith; columns = omega arith; some = omega arith }))

-- ---- the loop: p is the position behind the first i bytes
pub record Locating (bs : List ℕ) (p : Position) (i : ℕ) : Type 0 where
  pub rest : after_bytes p (drop i bs) ≡ after_bytes first bs
  pub bounds : Bounded p (1 + i)

pub locate_none : (bs : List ℕ) → Locating bs first 0
locate_none bs = record { rest = refl; bounds = record { lines = omega arith; columns = omega arith; some = omega arith } }

module _ (bs : List ℕ) (p : Position) (i : ℕ) (g : Locating bs p i) where
  pub locate_small : 1 + i < 2 ^ 63 → Small p
  locate_small h = record { few_lines = omega (arith, g.bounds.lines); few_columns = omega (arith, g.bounds.columns) }

  pub locate_more : (r : Position) → i < length bs → r ≡ after_byte p (get_or bs i 0) → Locating bs r (i + 1)
  unfolding after_bytes
  locate_more r h e =
      let q : 1 + (i + 1) ≡ 1 + i + 1 = omega arith in
      record {
        rest = rw (e, add-one i) (rw (drop-cons bs i 0 h) at g.rest);
        bounds = rw (e, q) (bounded_more p (get_or bs i 0) (1 + i) g.bounds);
      }

  pub locate_all : length bs ≤ i → p ≡ after_bytes first bs
  unfolding after_bytes
  locate_all h = rw (drop_of_length-le bs {i = i} h) at g.rest
