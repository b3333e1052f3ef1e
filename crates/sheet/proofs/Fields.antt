-- The line by its two numbers.
-- Assumes nothing.
use Prim.Native.Nat.{ℕ, ◌+◌, ◌-◌, ◌≤◌, ◌<◌}
use mathlib.Core.Bool.{Bool, true, false, ◌&&◌}
use mathlib.Core.List.{List}
use mathlib.Core.Path.{◌≡◌, ◌∙◌, refl, sym, ap}
use native.Mathlib.Decide.{dec_lt}
use native.Mathlib.Omega.{arith}
use borrow.Author.Tests.{le-leb, lt-leb, ne_eqb, leb-true, eqb-true}
use lib.Dec.{leb, eqb}
use lib.IntN.{pos}
use lib.ListN.{length, get_or, take, drop, length-drop, get_or-eq_default}
use lib.Seq.{take_all}
use mir.Syntax.{w32}
use mir.Val.{to_z}
use mir.ValLaws.{to_z_pos}
use Rattle.std.specs.Prelude.{Option, Some, None}
use Rattle.meaning.specs.Basics.{if◌then◌otherwise◌, span}
use Rattle.meaning.specs.Byte.{is_digit}
use Rattle.meaning.specs.Grammar.{numeral}
use Rattle.numerals.proofs.Spans.{span_le}
use Rattle.sheet.specs.declared.line.Field.{Field}
use Rattle.sheet.specs.declared.line.Sheet.{Sheet}
use Rattle.sheet.specs.Lines.{field_with, field_of, after_height, with_height, after_width, with_width, sheet_of}

-- ---- a number in front of a text
module _ (s : List ℕ) (n : ℕ) (c : n ≡ span is_digit s) where
  by_count : {f : Option Field} → f ≡ field_with s n → f ≡ field_of s
  unfolding field_of
  by_count e = rw (← c) e

  pub field_none : n < 1 → None ≡ field_of s
  unfolding field_with if◌then◌otherwise◌
  field_none h = by_count (rw (lt-leb 1 n h))

  pub field_long : 1 ≤ n → 10 < n → None ≡ field_of s
  unfolding field_with if◌then◌otherwise◌
  field_long l h = by_count (rw (le-leb 1 n l, lt-leb n 10 h))

  module _ (v : ℕ) (l : 1 ≤ n) (h : n ≤ 10) (e : v ≡ numeral (take n s)) where
    pub field_large : 2147483647 < v → None ≡ field_of s
    unfolding field_with if◌then◌otherwise◌
    field_large k = by_count (rw (le-leb 1 n l, le-leb n 10 h, lt-leb (numeral (take n s)) 2147483647 (rw e at k)))

    pub field_good : v ≤ 2147483647 → Some (record { value = v; digits = n }) ≡ field_of s
    unfolding field_with if◌then◌otherwise◌
    field_good k = by_count (rw (le-leb 1 n l, le-leb n 10 h, le-leb (numeral (take n s)) 2147483647 (rw e at k), e))

  pub count_fits : n ≤ length s
  count_fits = omega (arith, span_le is_digit s)

-- what is known of a number that was found
pub record Found (s : List ℕ) (v n : ℕ) : Type 0 where
  pub small : v ≤ 2147483647
  pub few : n ≤ 10
  pub within : n ≤ length s

field_found : (s : List ℕ) (f : Field) → field_of s ≡ Some f → Found s f.value f.digits
unfolding field_of field_with if◌then◌otherwise◌
field_found s f = by (leb 1 m) (leb m 10) (leb (numeral (take m s)) 2147483647) refl refl
  where
    m : ℕ
    m = span is_digit s

    by : (a b c : Bool) → leb m 10 ≡ b → leb (numeral (take m s)) 2147483647 ≡ c
        → (if (a && b && c) then (λ _. Some (record { value = numeral (take m s); digits = m })) otherwise λ _. None) ≡ Some f → Found s f.value f.digits
    by true true true l k e =
        let q : record { value = numeral (take m s); digits = m } ≡ f = cc in
        let x : numeral (take m s) ≡ f.value = ap (λ (g : Field). g.value) q in
        let y : m ≡ f.digits = ap (λ (g : Field). g.digits) q in
        record {
          small = omega (arith, leb-true (numeral (take m s)) 2147483647 k);
          few = omega (arith, leb-true m 10 l);
          within = omega (arith, span_le is_digit s);
        }
    by true true false l k e = cc
    by true false c l k e = cc
    by false b c l k e = cc

pub found : (s : List ℕ) (r : Option Field) (f : Field) → r ≡ field_of s → r ≡ Some f → Found s f.value f.digits
found s r f e k = field_found s f (sym e ∙ k)

-- a byte that is not 0 stands within the text
pub stands : (s : List ℕ) (i b : ℕ) → b ≡ get_or s i 0 → 0 < b → i < length s
stands s i b e h = by (dec_lt i (length s))
  where
    by : Dec (i < length s) → i < length s
    by (yes l) = l
    by (no l) = let z = get_or-eq_default s 0 {n = i} (omega arith) in absurd (omega arith)

-- ---- behind the height
module _ (s : List ℕ) (w h end b : ℕ) (e : b ≡ get_or s end 0) where
  pub no_linefeed : (b ≡ 10 → ⊥) → None ≡ after_height s w h end
  unfolding after_height if◌then◌otherwise◌
  no_linefeed k = rw (← e, ne_eqb b 10 k)

  pub linefeed : b ≡ 10 → w ≤ 2147483647 → h ≤ 2147483647 → Some (record { width = to_z w32 w; height = to_z w32 h; line_length = end + 1 }) ≡ after_height s w h end
  unfolding after_height if◌then◌otherwise◌
  linefeed k l m = rw (← e, k, to_z_pos w32 w (omega arith), to_z_pos w32 h (omega arith))

-- ---- behind the width
module _ (s : List ℕ) (w n b : ℕ) (e : b ≡ get_or s n 0) where
  pub no_space : (b ≡ 32 → ⊥) → None ≡ after_width s w n
  unfolding after_width if◌then◌otherwise◌
  no_space k = rw (← e, ne_eqb b 32 k)

  module _ (k : b ≡ 32) (r : Option Field) (g : r ≡ field_of (take (length s - (n + 1)) (drop (n + 1) s))) where
    rest_is : take (length s - (n + 1)) (drop (n + 1) s) ≡ drop (n + 1) s
    rest_is = take_all (length s - (n + 1)) (drop (n + 1) s) (omega (arith, length-drop (n + 1) s))

    height_is : with_height s w n r ≡ after_width s w n
    unfolding after_width if◌then◌otherwise◌
    height_is = rw (← e, k, g, rest_is)

    pub no_height : r ≡ None → None ≡ after_width s w n
    unfolding with_height
    no_height a = rw a at height_is

    pub height_found : (f : Field) → r ≡ Some f → Found (drop (n + 1) s) f.value f.digits
    height_found f a = found (drop (n + 1) s) r f (rw rest_is at g) a

    pub height_behind : (f : Field) (t : Option Sheet) → r ≡ Some f → t ≡ after_height s w f.value (n + 1 + f.digits) → t ≡ after_width s w n
    unfolding with_height
    height_behind f t a q = q ∙ (rw a at height_is)

-- ---- the whole line
module _ (s : List ℕ) (r : Option Field) (g : r ≡ field_of s) where
  width_is : with_width s r ≡ sheet_of s
  unfolding sheet_of
  width_is = rw g

  pub no_width : r ≡ None → None ≡ sheet_of s
  unfolding with_width
  no_width a = rw a at width_is

  pub width_behind : (f : Field) (t : Option Sheet) → r ≡ Some f → t ≡ after_width s f.value f.digits → t ≡ sheet_of s
  unfolding with_width
  width_behind f t a q = q ∙ (rw a at width_is)

-- ---- the line ends within the input, and has at most 22 bytes
pub record Ends (s : List ℕ) (n : ℕ) : Type 0 where
  pub within : n ≤ length s
  pub few : n ≤ 22

height_ends : (s : List ℕ) (v w end : ℕ) (t : Sheet) → end ≤ 21 → after_height s v w end ≡ Some t → Ends s t.line_length
unfolding after_height if◌then◌otherwise◌
height_ends s v w end t h = by (eqb (get_or s end 0) 10) refl
  where
    by : (b : Bool) → eqb (get_or s end 0) 10 ≡ b
        → (if b then (λ _. Some (record { width = pos v; height = pos w; line_length = end + 1 })) otherwise λ _. None) ≡ Some t → Ends s t.line_length
    by true k e =
        let r : record { width = pos v; height = pos w; line_length = end + 1 } ≡ t = cc in
        let q : end + 1 ≡ t.line_length = ap (λ (g : Sheet). g.line_length) r in
        let u = eqb-true (get_or s end 0) 10 k in
        record { within = omega (arith, stands s end (get_or s end 0) refl (omega arith)); few = omega arith }
    by false k e = cc

with_height_ends : (s : List ℕ) (v k : ℕ) (r : Option Field) (t : Sheet) → k ≤ 10 → r ≡ field_of (drop (k + 1) s)
    → with_height s v k r ≡ Some t → Ends s t.line_length
unfolding with_height
with_height_ends s v k (Some f) t h g e =
    height_ends s v f.value (k + 1 + f.digits) t (omega (arith, (found (drop (k + 1) s) (Some f) f g refl).few)) e
with_height_ends s v k None t h g e = cc

with_width_ends : (s : List ℕ) (r : Option Field) (t : Sheet) → r ≡ field_of s → with_width s r ≡ Some t → Ends s t.line_length
unfolding with_width after_width if◌then◌otherwise◌
with_width_ends s (Some f) t g = by (eqb (get_or s f.digits 0) 32)
  where
    by : (b : Bool) → (if b then (λ _. with_height s f.value f.digits (field_of (drop (f.digits + 1) s))) otherwise λ _. None) ≡ Some t → Ends s t.line_length
    by true e = with_height_ends s f.value f.digits (field_of (drop (f.digits + 1) s)) t (found s (Some f) f g refl).few refl e
    by false e = cc
with_width_ends s None t g = λ e. cc

pub sheet_ends : (s : List ℕ) (r : Option Sheet) (t : Sheet) → r ≡ sheet_of s → r ≡ Some t → Ends s t.line_length
unfolding sheet_of
sheet_ends s r t e k = with_width_ends s (field_of s) t refl (sym e ∙ k)
