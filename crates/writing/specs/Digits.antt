-- A number's sign, and a number behind a byte string.
use Rattle.std.specs.Prelude.{ℕ, List, ◌++◌, Bool, true, false, ℤ, pos, negsuc}
use Rattle.meaning.specs.Picture.{decimal}

abbrev pub is_negative : ℤ → Bool
is_negative (pos n) = false
is_negative (negsuc n) = true

-- a byte string and then a number
abbrev pub pair : List ℕ → ℤ → List ℕ
pair lead z = lead ++ decimal z
