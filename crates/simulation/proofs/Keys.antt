-- Keys: words are compared as the meaning compares keys.
use Prim.Native.Nat.{ℕ, suc, ◌+◌, ◌*◌, ◌/◌, ◌%◌, ◌^◌, ◌<◌}
use native.Mathlib.Omega.{arith}
use mathlib.Core.Path.{◌≡◌, refl, ap, ap₂, sym, ◌∙◌}
use mathlib.Core.Logic.{◌≢◌}
use mathlib.Core.Bool.{Bool, true, false, ◌&&◌}
use mathlib.Core.List.{List, []}
use mathlib.Core.Option.{some}
use lib.ListN.{get_or}
use lib.Dec.{eqb}
use lib.IntN.{ℤ, pos, negsuc}
use lib.Signed.{mag}
use mir.Syntax.{w32}
use mir.Val.{to_z}
use borrow.Author.Tests.{eqb-true, eq-eqb, ne_eqb}
use Rattle.meaning.specs.Basics.{if◌then◌otherwise◌, same_text}
use Rattle.meaning.specs.Token.{Token}
use Rattle.meaning.specs.Integer.{bits, wrap, same_integer, same_integers}
use Rattle.meaning.proofs.IntegerLaws.{bits_wrap, wrap_id}
use Rattle.meaning.proofs.KeyLaws.{same_integer_same, same_integer_iff, same_key_kind, figure_key_alike}
use Rattle.meaning.specs.Value.{kind_of}
use Rattle.meaning.specs.State.{atom, by_content, no_shape, key_of, same_key, figure_key}
use Rattle.machine.specs.declared.Value.{Value}
use Rattle.machine.specs.declared.Value.TheVariants.{Integer, Text, Boolean, Nothing, Table, Shape}
use Rattle.machine.specs.Words.{kind_in, packed, unpacked}
use Rattle.values.proofs.Laws.{unpacked_integer, unpacked_text, unpacked_truth, unpacked_table, unpacked_shape}
use Rattle.machine.specs.Act.{Raw}
use Rattle.machine.specs.Texts.{text_of}
use Rattle.machine.specs.Shapes.{low_number, high_number, is_group_at, figure_at}
use Rattle.machine.specs.Tables as Tables
use Rattle.tables.proofs.KeyLaws.{other_kinds_lem, text_keys, shape_keys, other_keys}
use Rattle.machine.specs.Operate.{same_figure}
use Rattle.simulation.specs.Meant.{meant_value, meant_figure, content_at, shapes_of, some_key, key_among}
use Rattle.simulation.specs.Sound.{Valid, Sound}
use Rattle.simulation.proofs.Frames.{content_made}
use Rattle.simulation.proofs.Equality.{and_true, figures_compared}

-- two tests are the same if each passes with the other
pub same_test : (s t : Bool) → (s ≡ true → t ≡ true) → (t ≡ true → s ≡ true) → s ≡ t
same_test true t f g = sym (f refl)
same_test false true f g = g refl
same_test false false f g = refl

-- ---- pairs of numbers in a word
bits_below : (z : ℤ) → bits z < 2 ^ 32
unfolding bits
bits_below (pos n) = omega arith
bits_below (negsuc n) = omega arith

bits_of : (n : ℕ) → n < 2 ^ 32 → bits (to_z w32 n) ≡ n
unfolding wrap bits
bits_of n l =
    let q : n % 2 ^ 32 ≡ n = omega arith in
    ap bits (ap (to_z w32) (sym q)) ∙ bits_wrap (pos n) ∙ q

pub both_true : (a b : Bool) → (a && b) ≡ true → (a ≡ true) × (b ≡ true)
both_true true b e = (refl, e)
both_true false b e = let z : ◌≡◌ {A = ℕ} 0 1 = cc in absurd (omega arith)

pairs_same : (v w : ℕ) → v < 2 ^ 64 → w < 2 ^ 64 → eqb v w ≡ (same_integer (low_number v) (low_number w) && same_integer (high_number v) (high_number w))
pairs_same v w l m = same_test (eqb v w) (same_integer (low_number v) (low_number w) && same_integer (high_number v) (high_number w)) there back
  where
    there : eqb v w ≡ true → (same_integer (low_number v) (low_number w) && same_integer (high_number v) (high_number w)) ≡ true
    there e = rw (eqb-true v w e, same_integer_same (low_number w), same_integer_same (high_number w))

    back : (same_integer (low_number v) (low_number w) && same_integer (high_number v) (high_number w)) ≡ true → eqb v w ≡ true
    back e =
        let q = both_true (same_integer (low_number v) (low_number w)) (same_integer (high_number v) (high_number w)) e in
        let x : v % 2 ^ 32 ≡ w % 2 ^ 32 = sym (bits_of (v % 2 ^ 32) (omega arith)) ∙ ap bits ((same_integer_iff (low_number v) (low_number w)).0 q.0) ∙ bits_of (w % 2 ^ 32) (omega arith) in
        let y : v / 2 ^ 32 % 2 ^ 32 ≡ w / 2 ^ 32 % 2 ^ 32 = sym (bits_of (v / 2 ^ 32 % 2 ^ 32) (omega arith)) ∙ ap bits ((same_integer_iff (high_number v) (high_number w)).0 q.1)
        ∙ bits_of (w / 2 ^ 32 % 2 ^ 32) (omega arith) in
        let a : v / 2 ^ 32 % 2 ^ 32 ≡ v / 2 ^ 32 = omega arith in
        let b : w / 2 ^ 32 % 2 ^ 32 ≡ w / 2 ^ 32 = omega arith in
        eq-eqb v w (omega arith)

five : (k a b c d t : Bool) → (k && (a && b) && (c && d) && t) ≡ (k && a && b && c && d && t)
five true true b c d t = go b c d t
  where
    go : (b c d t : Bool) → (true && (true && b) && (c && d) && t) ≡ (true && true && b && c && d && t)
    go true true d t = refl
    go true false d t = refl
    go false c d t = refl
five true false b c d t = refl
five false a b c d t = refl

-- ---- values
module _ {program : List ℕ} {ts : List Token} {g : List ℕ} {r : Raw} (sound : Sound program ts g r) where
  pub kind_packed : (v : Value) → kind_in (packed v) ≡ suc (kind_of (meant_value program r.texts v))
  unfolding packed kind_of meant_value
  kind_packed (Integer z) = omega arith
  kind_packed (Text t) = omega arith
  kind_packed (Boolean true) = refl
  kind_packed (Boolean false) = refl
  kind_packed Nothing = refl
  kind_packed (Table t) = omega arith
  kind_packed (Shape i) = omega arith

  table_small : (t : ℕ) → t < get_or r.words 4 0 → t < 2 ^ 32
  table_small t h = omega (arith, sound.counted.tables, sound.counted.steps, sound.lent.room.steps)

  pub shape_small : (i : ℕ) → i < get_or r.words 1 0 → i < 2 ^ 32
  shape_small i h = omega (arith, sound.counted.shapes, sound.lent.room.shapes)

  -- a value put into a word comes out again
  pub back_again : (v : Value) → Valid program r.words v → unpacked (packed v) ≡ v
  unfolding packed Valid wrap kind_of meant_value unpacked if◌then◌otherwise◌
  back_again (Integer z) h =
      let a : (1 + 8 * bits z) / 8 ≡ bits z = omega arith in
      let b : bits z % 2 ^ 32 ≡ bits z = omega (arith, bits_below z) in
      unpacked_integer (packed (Integer z)) (kind_packed (Integer z)) ∙ ap Integer (rw (a, b) (wrap_id z h))
  back_again (Text t) h =
      let a : t % 2 ^ 40 ≡ t = omega (arith, h.small) in
      let b : (2 + 8 * t) / 8 ≡ t = omega arith in
      unpacked_text (packed (Text t)) (kind_packed (Text t)) ∙ ap Text (rw (a, b))
  back_again (Boolean true) h = unpacked_truth 11 refl
  back_again (Boolean false) h = unpacked_truth 3 refl
  back_again Nothing h = refl
  back_again (Table t) h =
      let a : (5 + 8 * t) / 8 ≡ t = omega arith in
      let b : t % 2 ^ 32 ≡ t = omega (arith, table_small t h) in
      unpacked_table (packed (Table t)) (kind_packed (Table t)) ∙ ap Table (rw (a, b))
  back_again (Shape i) h =
      let a : (6 + 8 * i) / 8 ≡ i = omega arith in
      let b : i % 2 ^ 32 ≡ i = omega (arith, shape_small i h) in
      unpacked_shape (packed (Shape i)) (kind_packed (Shape i)) ∙ ap Shape (rw (a, b))

  -- ---- figures
  figures_alike : (i j : ℕ) → i < get_or r.words 1 0 → j < get_or r.words 1 0
      → Tables.same_figure program r.texts r.words i j ≡ same_figure program r.texts (figure_at r.words i) (figure_at r.words j)
  unfolding Tables.same_figure same_figure figure_at
  figures_alike i j l m =
      rw (pairs_same _ _ (sound.shapes.first i l) (sound.shapes.first j m), pairs_same _ _ (sound.shapes.second i l) (sound.shapes.second j m))
      (five (eqb (figure_at r.words i).kind (figure_at r.words j).kind)
      (same_integer (figure_at r.words i).a (figure_at r.words j).a) (same_integer (figure_at r.words i).b (figure_at r.words j).b)
      (same_integer (figure_at r.words i).c (figure_at r.words j).c) (same_integer (figure_at r.words i).d (figure_at r.words j).d)
      (same_text (text_of program r.texts (figure_at r.words i).text) (text_of program r.texts (figure_at r.words j).text)))

  -- ---- keys: no groups
  unfoldable pub IsKey : Value → Type 0
  IsKey (Integer z) = Unit {0}
  IsKey (Text t) = Unit {0}
  IsKey (Boolean b) = Unit {0}
  IsKey Nothing = Unit {0}
  IsKey (Table t) = Unit {0}
  IsKey (Shape i) = (i < get_or r.words 1 0) × (is_group_at r.words i ≡ false)

  figure_made : (i : ℕ) → i < get_or r.words 1 0 → is_group_at r.words i ≡ false
      → (get_or (shapes_of program g r) i no_shape).content ≡ atom (meant_figure program r.texts (figure_at r.words i))
  unfolding content_at if◌then◌otherwise◌
  figure_made i l n = content_made program g r i l ∙ rw n

  pub is_key : (v : Value) → IsKey v → key_of (record { variables = []; suspended = []; shapes = shapes_of program g r; tables = 0; entries = [] }) (meant_value program r.texts v)
      ≡ some (key_among (shapes_of program g r) (meant_value program r.texts v))
  unfolding IsKey meant_value key_among key_of some_key by_content
  is_key (Integer z) k = refl
  is_key (Text t) k = refl
  is_key (Boolean b) k = refl
  is_key Nothing k = refl
  is_key (Table t) k = refl
  is_key (Shape i) k = rw (figure_made i k.0 k.1)

  -- ---- keys of different kinds
  module _ (v w : Value) where
    abbrev pub Alike : Type 0
    Alike = Tables.same_key program r.texts r.words (packed v) (packed w)
        ≡ same_key (key_among (shapes_of program g r) (meant_value program r.texts v)) (key_among (shapes_of program g r) (meant_value program r.texts w))

    apart : IsKey v → IsKey w → kind_of (meant_value program r.texts v) ≢ kind_of (meant_value program r.texts w) → Alike
    apart x y n =
        sym (other_kinds_lem program r.texts r.words (packed v) (packed w) (λ e. n (omega (arith, sym (kind_packed v) ∙ e ∙ kind_packed w))))
        ∙ go (same_key (key_among (shapes_of program g r) (meant_value program r.texts v)) (key_among (shapes_of program g r) (meant_value program r.texts w))) refl
      where
        go : (b : Bool) → same_key (key_among (shapes_of program g r) (meant_value program r.texts v)) (key_among (shapes_of program g r) (meant_value program r.texts w)) ≡ b → false ≡ b
        go true e =
            absurd (n (same_key_kind (record { variables = []; suspended = []; shapes = shapes_of program g r; tables = 0; entries = [] })
            (meant_value program r.texts v) (meant_value program r.texts w) _ _ (is_key v x) (is_key w y) e))
        go false e = refl

  -- ---- keys of one kind
  integers : (a b : ℤ) → mag a < 2 ^ 31 → mag b < 2 ^ 31 → Alike (Integer a) (Integer b)
  unfolding packed meant_value key_among key_of some_key same_key same_integers same_text wrap
  integers a b l m =
      sym (other_keys program r.texts r.words (packed (Integer a)) (packed (Integer b)) (omega arith) (λ e. omega arith) (λ e. omega arith))
      ∙ same_test (eqb (1 + 8 * bits a) (1 + 8 * bits b)) (same_integer a b)
      (λ e. (same_integer_iff a b).1 (
      let q : bits a ≡ bits b = omega (arith, eqb-true (1 + 8 * bits a) (1 + 8 * bits b) e) in
      sym (from a l) ∙ ap (to_z w32) q ∙ from b m))
      (λ e. eq-eqb _ _ (ap (λ z. 1 + 8 * bits z) ((same_integer_iff a b).0 e)))
      ∙ sym (and_true (same_integer a b && true) ∙ and_true (same_integer a b))
    where
      from : (z : ℤ) → mag z < 2 ^ 31 → to_z w32 (bits z) ≡ z
      from z l = wrap_id z l

  tables : (a b : ℕ) → Alike (Table a) (Table b)
  unfolding packed meant_value key_among key_of some_key same_key same_integers same_text same_integer
  tables a b =
      sym (other_keys program r.texts r.words (packed (Table a)) (packed (Table b)) (omega arith) (λ e. omega arith) (λ e. omega arith))
      ∙ same_test (eqb (5 + 8 * a) (5 + 8 * b)) (eqb a b)
      (λ e. eq-eqb a b (omega (arith, eqb-true (5 + 8 * a) (5 + 8 * b) e)))
      (λ e. eq-eqb _ _ (ap (λ z. 5 + 8 * z) (eqb-true a b e)))
      ∙ sym (and_true (eqb a b && true) ∙ and_true (eqb a b))

  texts_alike : (a b : ℕ) → a < 2 ^ 40 → b < 2 ^ 40 → Alike (Text a) (Text b)
  unfolding packed meant_value key_among key_of some_key same_key same_integers
  texts_alike a b l m =
      let x : a % 2 ^ 40 ≡ a = omega arith in
      let y : b % 2 ^ 40 ≡ b = omega arith in
      let c : (2 + 8 * a) / 8 ≡ a = omega arith in
      let d : (2 + 8 * b) / 8 ≡ b = omega arith in
      sym (text_keys program r.texts r.words (packed (Text a)) (packed (Text b)) (omega arith)
      (same_text (text_of program r.texts a) (text_of program r.texts b)) (omega arith) (rw (x, y, c, d)))

  figure_keys : (i : ℕ) → i < get_or r.words 1 0 → is_group_at r.words i ≡ false
      → key_among (shapes_of program g r) (meant_value program r.texts (Shape i)) ≡ figure_key (meant_figure program r.texts (figure_at r.words i))
  unfolding meant_value key_among key_of some_key by_content
  figure_keys i l n = rw (figure_made i l n)

  shapes_alike : (i j : ℕ) → IsKey (Shape i) → IsKey (Shape j) → Alike (Shape i) (Shape j)
  unfolding packed IsKey
  shapes_alike i j (l, n) (m, o) =
      let x : i % 2 ^ 32 ≡ i = omega (arith, shape_small i l) in
      let y : j % 2 ^ 32 ≡ j = omega (arith, shape_small j m) in
      let c : (6 + 8 * i) / 8 ≡ i = omega arith in
      let d : (6 + 8 * j) / 8 ≡ j = omega arith in
      let p : i ≡ (6 + 8 * i) / 8 % 2 ^ 32 = sym (rw c x) in
      let q : j ≡ (6 + 8 * j) / 8 % 2 ^ 32 = sym (rw d y) in
      sym (shape_keys program r.texts r.words (packed (Shape i)) (packed (Shape j)) (omega arith)
      (Tables.same_figure program r.texts r.words i j) i j (omega arith) p q refl)
      ∙ figures_alike i j l m
      ∙ figures_compared program r.texts (figure_at r.words i) (figure_at r.words j) (sound.shapes.proper i l n) (sound.shapes.proper j m o)
      ∙ sym (figure_key_alike (meant_figure program r.texts (figure_at r.words i)) (meant_figure program r.texts (figure_at r.words j)))
      ∙ ap₂ same_key (sym (figure_keys i l n)) (sym (figure_keys j m o))

  pub keys_alike : (v w : Value) → Valid program r.words v → Valid program r.words w → IsKey v → IsKey w → Alike v w
  unfolding packed meant_value key_among key_of some_key same_key same_integers same_text same_integer Valid Tables.same_key if◌then◌otherwise◌ kind_of
  keys_alike (Integer a) (Integer b) p q x y = integers a b p q
  keys_alike (Integer a) (Text b) p q x y = apart (Integer a) (Text b) x y (λ e. omega arith)
  keys_alike (Integer a) (Boolean b) p q x y = apart (Integer a) (Boolean b) x y (λ e. omega arith)
  keys_alike (Integer a) Nothing p q x y = apart (Integer a) Nothing x y (λ e. omega arith)
  keys_alike (Integer a) (Table b) p q x y = apart (Integer a) (Table b) x y (λ e. omega arith)
  keys_alike (Integer a) (Shape b) p q x y = apart (Integer a) (Shape b) x y (λ e. omega arith)
  keys_alike (Text a) (Integer b) p q x y = apart (Text a) (Integer b) x y (λ e. omega arith)
  keys_alike (Text a) (Text b) p q x y = texts_alike a b p.small q.small
  keys_alike (Text a) (Boolean b) p q x y = apart (Text a) (Boolean b) x y (λ e. omega arith)
  keys_alike (Text a) Nothing p q x y = apart (Text a) Nothing x y (λ e. omega arith)
  keys_alike (Text a) (Table b) p q x y = apart (Text a) (Table b) x y (λ e. omega arith)
  keys_alike (Text a) (Shape b) p q x y = apart (Text a) (Shape b) x y (λ e. omega arith)
  keys_alike (Boolean a) (Integer b) p q x y = apart (Boolean a) (Integer b) x y (λ e. omega arith)
  keys_alike (Boolean a) (Text b) p q x y = apart (Boolean a) (Text b) x y (λ e. omega arith)
  keys_alike (Boolean true) (Boolean true) p q x y = refl
  keys_alike (Boolean true) (Boolean false) p q x y = refl
  keys_alike (Boolean false) (Boolean true) p q x y = refl
  keys_alike (Boolean false) (Boolean false) p q x y = refl
  keys_alike (Boolean a) Nothing p q x y = apart (Boolean a) Nothing x y (λ e. omega arith)
  keys_alike (Boolean a) (Table b) p q x y = apart (Boolean a) (Table b) x y (λ e. omega arith)
  keys_alike (Boolean a) (Shape b) p q x y = apart (Boolean a) (Shape b) x y (λ e. omega arith)
  keys_alike Nothing (Integer b) p q x y = apart Nothing (Integer b) x y (λ e. omega arith)
  keys_alike Nothing (Text b) p q x y = apart Nothing (Text b) x y (λ e. omega arith)
  keys_alike Nothing (Boolean b) p q x y = apart Nothing (Boolean b) x y (λ e. omega arith)
  keys_alike Nothing Nothing p q x y = refl
  keys_alike Nothing (Table b) p q x y = apart Nothing (Table b) x y (λ e. omega arith)
  keys_alike Nothing (Shape b) p q x y = apart Nothing (Shape b) x y (λ e. omega arith)
  keys_alike (Table a) (Integer b) p q x y = apart (Table a) (Integer b) x y (λ e. omega arith)
  keys_alike (Table a) (Text b) p q x y = apart (Table a) (Text b) x y (λ e. omega arith)
  keys_alike (Table a) (Boolean b) p q x y = apart (Table a) (Boolean b) x y (λ e. omega arith)
  keys_alike (Table a) Nothing p q x y = apart (Table a) Nothing x y (λ e. omega arith)
  keys_alike (Table a) (Table b) p q x y = tables a b
  keys_alike (Table a) (Shape b) p q x y = apart (Table a) (Shape b) x y (λ e. omega arith)
  keys_alike (Shape a) (Integer b) p q x y = apart (Shape a) (Integer b) x y (λ e. omega arith)
  keys_alike (Shape a) (Text b) p q x y = apart (Shape a) (Text b) x y (λ e. omega arith)
  keys_alike (Shape a) (Boolean b) p q x y = apart (Shape a) (Boolean b) x y (λ e. omega arith)
  keys_alike (Shape a) Nothing p q x y = apart (Shape a) Nothing x y (λ e. omega arith)
  keys_alike (Shape a) (Table b) p q x y = apart (Shape a) (Table b) x y (λ e. omega arith)
  keys_alike (Shape a) (Shape b) p q x y = shapes_alike a b x y

  -- ---- a group is no key
  pub group_key : (i : ℕ) → i < get_or r.words 1 0 → Tables.is_group_key r.words (packed (Shape i)) ≡ is_group_at r.words i
  unfolding packed
  group_key i l =
      let a : (6 + 8 * i) % 8 ≡ 6 = omega arith in
      let b : (6 + 8 * i) / 8 ≡ i = omega arith in
      let c : i % 2 ^ 32 ≡ i = omega (arith, shape_small i l) in
      rw (a, b, c)

  pub value_key : (v : Value) → Valid program r.words v → Tables.is_group_key r.words (packed v) ≡ false → IsKey v
  unfolding IsKey Valid
  value_key (Integer z) l n = tt
  value_key (Text t) l n = tt
  value_key (Boolean b) l n = tt
  value_key Nothing l n = tt
  value_key (Table t) l n = tt
  value_key (Shape i) l n = (l, sym (group_key i l) ∙ n)

  no_shape_lem : (v : Value) → kind_of (meant_value program r.texts v) ≢ 5 → Tables.is_group_key r.words (packed v) ≡ false
  no_shape_lem v n = rw (ne_eqb (kind_in (packed v)) 6 (λ e. n (omega (arith, kind_packed v, e))))

  pub key_no_group : (v : Value) → IsKey v → Tables.is_group_key r.words (packed v) ≡ false
  unfolding IsKey kind_of meant_value
  key_no_group (Integer z) k = no_shape_lem (Integer z) (λ e. omega arith)
  key_no_group (Text t) k = no_shape_lem (Text t) (λ e. omega arith)
  key_no_group (Boolean b) k = no_shape_lem (Boolean b) (λ e. omega arith)
  key_no_group Nothing k = no_shape_lem Nothing (λ e. omega arith)
  key_no_group (Table t) k = no_shape_lem (Table t) (λ e. omega arith)
  key_no_group (Shape i) k = group_key i k.0 ∙ k.1

  wrong : {A : Type 0} (v : Value) → kind_of (meant_value program r.texts v) ≢ 5 → Tables.is_group_key r.words (packed v) ≡ true → A
  wrong v n e = let z : ◌≡◌ {A = Bool} true false = sym e ∙ no_shape_lem v n in let y : ◌≡◌ {A = ℕ} 0 1 = cc in absurd (omega arith)

  -- a value that is one is a group
  pub no_key : (v : Value) → Valid program r.words v → Tables.is_group_key r.words (packed v) ≡ true → (i : ℕ) × (v ≡ Shape i) × (i < get_or r.words 1 0) × (is_group_at r.words i ≡ true)
  unfolding Valid kind_of meant_value
  no_key (Integer z) l n = wrong (Integer z) (λ e. omega arith) n
  no_key (Text t) l n = wrong (Text t) (λ e. omega arith) n
  no_key (Boolean b) l n = wrong (Boolean b) (λ e. omega arith) n
  no_key Nothing l n = wrong Nothing (λ e. omega arith) n
  no_key (Table t) l n = wrong (Table t) (λ e. omega arith) n
  no_key (Shape i) l n = (i, refl, l, sym (group_key i l) ∙ n)
