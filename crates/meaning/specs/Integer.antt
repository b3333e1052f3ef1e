-- Integers of 32 bits.
use Rattle.std.specs.Prelude.{ℕ, ◌-◌, ◌%◌, ◌^◌, Bool, true, false, ◌&&◌, List, [], ◌∷◌, ℤ, pos, negsuc, ◌+ℤ◌, ◌-ℤ◌, ◌*ℤ◌, eqb}
use Rattle.std.specs.Int.Signed.{quot_z, rem_z, shr_z}
use Rattle.std.specs.Int.{w32}
use Rattle.std.proofs.Common.{to_z}

-- the number that the lowest 32 bits of z write, in two's complement
unfoldable pub bits : ℤ → ℕ
bits (pos n) = n % 2 ^ 32
bits (negsuc n) = 2 ^ 32 - 1 - n % 2 ^ 32

-- the integer from −2,147,483,648 to 2,147,483,647 with the same lowest 32 bits as z
unfoldable pub wrap : ℤ → ℤ
wrap z = to_z w32 (bits z)

unfoldable pub sum : ℤ → ℤ → ℤ
sum a b = wrap (a +ℤ b)

unfoldable pub difference : ℤ → ℤ → ℤ
difference a b = wrap (a -ℤ b)

unfoldable pub product : ℤ → ℤ → ℤ
product a b = wrap (a *ℤ b)

-- rounded toward zero
unfoldable pub quotient : ℤ → ℤ → ℤ
quotient a b = wrap (quot_z a b)

-- with the dividend's sign
unfoldable pub remainder : ℤ → ℤ → ℤ
remainder a b = wrap (rem_z a b)

-- a shift's amount, from 0 to 31
unfoldable pub amount : ℤ → ℕ
amount b = bits b % 32

unfoldable pub shifted_left : ℤ → ℤ → ℤ
shifted_left a b = wrap (a *ℤ pos (2 ^ amount b))

-- rounded down
unfoldable pub shifted_right : ℤ → ℤ → ℤ
shifted_right a b = shr_z a (2 ^ amount b)

-- half, rounded toward zero
unfoldable pub half : ℤ → ℤ
half a = quot_z a (pos 2)

unfoldable pub same_integer : ℤ → ℤ → Bool
same_integer (pos a) (pos b) = eqb a b
same_integer (pos a) (negsuc b) = false
same_integer (negsuc a) (pos b) = false
same_integer (negsuc a) (negsuc b) = eqb a b

unfoldable pub same_integers : List ℤ → List ℤ → Bool
same_integers [] [] = true
same_integers [] (y ∷ ys) = false
same_integers (x ∷ xs) [] = false
same_integers (x ∷ xs) (y ∷ ys) = same_integer x y && same_integers xs ys

abbrev pub is_zero : ℤ → Bool
is_zero a = same_integer a (pos 0)

unfoldable pub is_negative : ℤ → Bool
is_negative (pos n) = false
is_negative (negsuc n) = true
