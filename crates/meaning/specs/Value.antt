-- Values. A string is its text. Tables and shapes are shared, so each is known by a number: how many were made before it.
use Rattle.std.specs.Prelude.{ℕ, Bool, List, ℤ}

pub data Value : Type 0 where
  integer : ℤ → Value
  string : List ℕ → Value
  boolean : Bool → Value
  none : Value
  table : ℕ → Value
  shape : ℕ → Value

-- which of the six it is
unfoldable pub kind_of : Value → ℕ
kind_of (integer z) = 0
kind_of (string s) = 1
kind_of (boolean b) = 2
kind_of none = 3
kind_of (table t) = 4
kind_of (shape i) = 5
