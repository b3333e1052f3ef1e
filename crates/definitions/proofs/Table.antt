-- The table in the upper half of the words, and what is noted of each procedure.
-- Assumes nothing.
use Prim.Native.Nat.{ℕ, ◌+◌, ◌-◌, ◌<◌, ◌≤◌}
use mathlib.Core.Path.{◌≡◌, ◌∙◌, refl, sym, ap}
use mathlib.Core.Bool.{Bool, true, false, ◌||◌}
use mathlib.Core.List.{List}
use native.Mathlib.Omega.{arith}
use borrow.Author.Tests.{ne_eqb, lt-ltb, le-ltb}
use lib.Dec.{ltb}
use lib.ListN.{length, get_or, set, take, drop, length-take, get_or-eq_default}
use lib.Seq.{set_out, take-set-le, take-set-lt, drop-set-add, get_or-take, get_or-drop}
use Rattle.std.specs.Prelude.{Option, Some, None, is_some}
use Rattle.meaning.specs.Basics.{if◌then◌otherwise◌}
use Rattle.definitions.specs.Words.{main_word, first_twice, table_in}
use Rattle.definitions.specs.Steps.{Entered}

-- ---- a word written into the table
table_length : (s : List ℕ) → length (table_in s) ≤ 8192
table_length s = rw length-take (omega arith)

module _ (s : List ℕ) (slot w home : ℕ) (e : slot ≡ home) where
  pub enter_out : 8191 < slot → Entered home w 0 s s
  enter_out h =
      let l : length (table_in s) ≤ home = omega (arith, table_length s) in
      record { stood = sym (get_or-eq_default (table_in s) 0 l); table = sym (set_out (table_in s) home w l); code = refl }

  pub enter_in : slot ≤ 8191 → Entered home w (get_or s (8192 + slot) 0) s (set s (8192 + slot) w)
  enter_in h = rw (← e) (record {
    stood = sym (get_or-take 8192 (drop 8192 s) slot 0 (omega arith) ∙ get_or-drop 8192 s slot 0);
    table = ap (take 8192) (drop-set-add 8192 s slot w) ∙ take-set-lt 8192 (drop 8192 s) slot w (omega arith);
    code = take-set-le 8192 s (8192 + slot) w (omega arith);
  })

-- ---- names that are there already
or_true : (b : Bool) → b || true ≡ true
or_true true = refl
or_true false = refl

none_yet : (o : Option ℕ) (b : Bool) → b ≡ is_some o → b ≡ false → o ≡ None
none_yet None b h e = refl
none_yet (Some q) b h e = let y : ◌≡◌ {A = ℕ} 0 1 = cc in absurd (omega arith)

module _ (number old p : ℕ) where
  pub twice_kept : (twice : Option ℕ) (b : Bool) → b ≡ is_some twice → b ≡ true → twice ≡ first_twice twice number old p
  unfolding first_twice
  twice_kept None b h e = let z : ◌≡◌ {A = ℕ} 0 1 = cc in absurd (omega arith)
  twice_kept (Some q) b h e = refl

  module _ (twice : Option ℕ) (b : Bool) (h : b ≡ is_some twice) (e : b ≡ false) where
    pub twice_again : (old ≡ 0 → ⊥) → Some p ≡ first_twice twice number old p
    unfolding first_twice if◌then◌otherwise◌
    twice_again z = rw (none_yet twice b h e, ne_eqb _ _ z, or_true (ltb number 11))

    pub twice_library : number < 11 → Some p ≡ first_twice twice number old p
    unfolding first_twice if◌then◌otherwise◌
    twice_library l = rw (none_yet twice b h e, lt-ltb _ _ l)

    pub twice_none : old ≡ 0 → 11 ≤ number → None ≡ first_twice twice number old p
    unfolding first_twice if◌then◌otherwise◌
    twice_none o l = rw (none_yet twice b h e, le-ltb _ _ l, o)

-- ---- main
module _ (number w : ℕ) where
  pub main_kept : (main : Option ℕ) (b : Bool) → b ≡ is_some main → b ≡ true → main ≡ main_word main number w
  unfolding main_word
  main_kept None b h e = let z : ◌≡◌ {A = ℕ} 0 1 = cc in absurd (omega arith)
  main_kept (Some m) b h e = refl

  module _ (main : Option ℕ) (b : Bool) (h : b ≡ is_some main) (e : b ≡ false) where
    pub main_now : number ≡ 12 → Some w ≡ main_word main number w
    unfolding main_word if◌then◌otherwise◌
    main_now q = rw (none_yet main b h e, q)

    pub main_other : (number ≡ 12 → ⊥) → None ≡ main_word main number w
    unfolding main_word if◌then◌otherwise◌
    main_other q = rw (none_yet main b h e, ne_eqb number 12 q)
