-- What each way through the operators on two integers computes.
use Prim.Native.Nat.{ℕ, ◌^◌, ◌<◌}
use mathlib.Core.Path.{◌≡◌, refl, sym}
use mathlib.Core.Bool.{Bool, true, false, not}
use borrow.Author.Tests.{ne_eqb}
use lib.Dec.{eqb}
use lib.IntN.{ℤ}
use lib.Signed.{mag, lt_z}
use mir.Syntax.{w32}
use mir.Val.{SFits}
use mir.Facts.{to_z-of_z}
use Rattle.meaning.specs.Basics.{if◌then◌otherwise◌}
use Rattle.meaning.specs.Integer.{sum, difference, product, quotient, shifted_left, shifted_right, is_zero, same_integer}
use Rattle.meaning.specs.Integer as Integer
use Rattle.machine.specs.declared.Value.TheVariants.{Integer, Boolean}
use Rattle.std.specs.Prelude.{Result, Ok, Err}
use Rattle.machine.specs.declared.Value.{Value}
use Rattle.machine.specs.declared.Fault.{Fault}
use Rattle.machine.specs.declared.Fault.TheVariants.{Misuse, DivisionByZero}
use Rattle.machine.specs.Act.{go_on, ◌>>=◌, give, fail, refuse, out_of}
use Rattle.machine.specs.Operate.{with_integer, with_text, calculated, compared, remaindered, joined, equality, answered, equated, operate_on}
use Rattle.operators.specs.Parts.{Computes}
use Rattle.values.proofs.Held.{held, back_by, test_is, either}

-- ---- division
module _ (p : ℕ) {x y : ℤ} where
  pub divides_by_zero : {b : Bool} → SFits w32 y → b ≡ is_zero (held y) → b ≡ true → Computes 20 p (Integer x) (Integer y) (Err (DivisionByZero p))
  unfolding operate_on if◌then◌otherwise◌ calculated with_integer ◌>>=◌ go_on refuse fail out_of
  divides_by_zero j z e = record { does = λ program grants ws. record { equal = λ ts. rw (test_is is_zero j z e) } }

  pub divides : {b : Bool} {r : ℤ} → SFits w32 x → SFits w32 y → b ≡ is_zero (held y) → b ≡ false → mag r < 2 ^ 31 → r ≡ quotient (held x) (held y)
      → Computes 20 p (Integer x) (Integer y) (Ok (Integer (held r)))
  unfolding operate_on if◌then◌otherwise◌ calculated with_integer ◌>>=◌ go_on refuse fail give out_of
  divides i j z e h q = record { does = λ program grants ws. record { equal = λ ts. rw (test_is is_zero j z e, back_by quotient i j h q) } }

  pub no_remainder : {b : Bool} → SFits w32 y → b ≡ is_zero (held y) → b ≡ true → Computes 21 p (Integer x) (Integer y) (Err (DivisionByZero p))
  unfolding operate_on if◌then◌otherwise◌ remaindered with_integer ◌>>=◌ go_on refuse fail out_of
  no_remainder j z e = record { does = λ program grants ws. record { equal = λ ts. rw (test_is is_zero j z e) } }

  pub leaves : {b : Bool} {r : ℤ} → SFits w32 x → SFits w32 y → b ≡ is_zero (held y) → b ≡ false → mag r < 2 ^ 31 → r ≡ Integer.remainder (held x) (held y)
      → Computes 21 p (Integer x) (Integer y) (Ok (Integer (held r)))
  unfolding operate_on if◌then◌otherwise◌ remaindered with_integer ◌>>=◌ go_on refuse fail give out_of
  leaves i j z e h q = record { does = λ program grants ws. record { equal = λ ts. rw (test_is is_zero j z e, back_by Integer.remainder i j h q) } }

-- ---- by tag
module _ {tag : ℕ} (p : ℕ) {x y : ℤ} (i : SFits w32 x) (j : SFits w32 y) where
  pub by_tag : (n : ℕ) {r : Result Value Fault} → tag ≡ n → Computes n p (Integer (held x)) (Integer (held y)) r → Computes tag p (Integer x) (Integer y) r
  by_tag n t h = rw (t, ← to_z-of_z i, ← to_z-of_z j) h

  module _ {r : ℤ} (h : mag r < 2 ^ 31) where
    pub adds : tag ≡ 17 → r ≡ sum (held x) (held y) → Computes tag p (Integer x) (Integer y) (Ok (Integer (held r)))
    unfolding operate_on if◌then◌otherwise◌ calculated with_integer ◌>>=◌ go_on refuse give out_of
    adds t e = record { does = λ program grants ws. record { equal = λ ts. rw (t, back_by sum i j h e) } }

    pub subtracts : tag ≡ 18 → r ≡ difference (held x) (held y) → Computes tag p (Integer x) (Integer y) (Ok (Integer (held r)))
    unfolding operate_on if◌then◌otherwise◌ calculated with_integer ◌>>=◌ go_on refuse give out_of
    subtracts t e = record { does = λ program grants ws. record { equal = λ ts. rw (t, back_by difference i j h e) } }

    pub multiplies : tag ≡ 19 → r ≡ product (held x) (held y) → Computes tag p (Integer x) (Integer y) (Ok (Integer (held r)))
    unfolding operate_on if◌then◌otherwise◌ calculated with_integer ◌>>=◌ go_on refuse give out_of
    multiplies t e = record { does = λ program grants ws. record { equal = λ ts. rw (t, back_by product i j h e) } }

    pub shifts_right : tag ≡ 22 → r ≡ shifted_right (held x) (held y) → Computes tag p (Integer x) (Integer y) (Ok (Integer (held r)))
    unfolding operate_on if◌then◌otherwise◌ calculated with_integer ◌>>=◌ go_on refuse give out_of
    shifts_right t e = record { does = λ program grants ws. record { equal = λ ts. rw (t, back_by shifted_right i j h e) } }

    pub shifts_left : tag ≡ 23 → r ≡ shifted_left (held x) (held y) → Computes tag p (Integer x) (Integer y) (Ok (Integer (held r)))
    unfolding operate_on if◌then◌otherwise◌ calculated with_integer ◌>>=◌ go_on refuse give out_of
    shifts_left t e = record { does = λ program grants ws. record { equal = λ ts. rw (t, back_by shifted_left i j h e) } }

  module _ {b : Bool} where
    pub equals : tag ≡ 24 → b ≡ same_integer (held x) (held y) → Computes tag p (Integer x) (Integer y) (Ok (Boolean b))
    unfolding operate_on if◌then◌otherwise◌ equated equality answered give out_of
    equals t e = record { does = λ program grants ws. record { equal = λ ts. rw (t, e, to_z-of_z i, to_z-of_z j) } }

    pub differs : tag ≡ 25 → b ≡ same_integer (held x) (held y) → Computes tag p (Integer x) (Integer y) (Ok (Boolean (not b)))
    unfolding operate_on if◌then◌otherwise◌ equated equality answered give out_of
    differs t e = record { does = λ program grants ws. record { equal = λ ts. rw (t, e, to_z-of_z i, to_z-of_z j) } }

    pub exceeds : tag ≡ 26 → b ≡ lt_z (held y) (held x) → Computes tag p (Integer x) (Integer y) (Ok (Boolean b))
    unfolding operate_on if◌then◌otherwise◌ compared with_integer give out_of
    exceeds t e = record { does = λ program grants ws. record { equal = λ ts. rw (t, e, to_z-of_z i, to_z-of_z j) } }

    pub is_less : tag ≡ 27 → b ≡ lt_z (held x) (held y) → Computes tag p (Integer x) (Integer y) (Ok (Boolean b))
    unfolding operate_on if◌then◌otherwise◌ compared with_integer give out_of
    is_less t e = record { does = λ program grants ws. record { equal = λ ts. rw (t, e, to_z-of_z i, to_z-of_z j) } }

-- every other tag
pub no_operator : {tag : ℕ} (p : ℕ) {x y : ℤ} → (tag ≡ 17 → ⊥) → (tag ≡ 18 → ⊥) → (tag ≡ 19 → ⊥) → (tag ≡ 20 → ⊥) → (tag ≡ 21 → ⊥) → (tag ≡ 22 → ⊥)
    → (tag ≡ 23 → ⊥) → (tag ≡ 24 → ⊥) → (tag ≡ 25 → ⊥) → (tag ≡ 26 → ⊥) → (tag ≡ 27 → ⊥) → Computes tag p (Integer x) (Integer y) (Err (Misuse p))
unfolding operate_on joined with_text fail out_of if◌then◌otherwise◌
no_operator {tag} p a b c d e f g h i j k = record {
  does = λ program grants ws. record {
    equal = λ ts. sym (either (eqb tag 16) _ _ _ refl
        (rw (ne_eqb _ _ a, ne_eqb _ _ b, ne_eqb _ _ c, ne_eqb _ _ d, ne_eqb _ _ e, ne_eqb _ _ f)
        (rw (ne_eqb _ _ g, ne_eqb _ _ h, ne_eqb _ _ i, ne_eqb _ _ j, ne_eqb _ _ k) refl)));
  };
}
