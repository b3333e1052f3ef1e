-- The payload of a token, and its word.
-- Assumes nothing.
use Prim.Native.Nat.{ℕ, ◌+◌, ◌-◌, ◌*◌, ◌/◌, ◌%◌, ◌≤◌, ◌<◌, min}
use mathlib.Core.Path.{◌≡◌, refl}
use mathlib.Core.Bool.{Bool, true, false, cond}
use mathlib.Core.List.{List}
use mathlib.Core.Option.{Option, none, some}
use native.Mathlib.Omega.{arith}
use borrow.Author.Tests.{ne_eqb, eqb-true}
use lib.Dec.{eqb}
use lib.ListN.{length, take, drop, length-take}
use Rattle.meaning.specs.Basics.{bytes, same_text}
use Rattle.meaning.specs.Token.{Token, a_string}
use Rattle.meaning.specs.Grammar.{numeral}
use Rattle.meaning.specs.Library.{Library, library_of, draw_line, draw_ellipse, draw_box, draw_text, connect_shapes, draw_text_on_shape}
use Rattle.meaning.specs.Library.{x_coordinate, y_coordinate, destroy_shape, clear_scene, draw_group}
use Rattle.tokens.specs.Words.{size_of, text_in, token_in, kind_in, place_in, size_in}
use Rattle.names.specs.Prepared.{home, number_of, library_number, procedure_number, payload, prepared}
use Rattle.names.specs.Index.{payload_with, word_with, named}

-- ---- sizes
number_few : (o : Option Library) → number_of o ≤ 11
unfolding number_of
number_few (some draw_line) = omega arith
number_few (some draw_ellipse) = omega arith
number_few (some draw_box) = omega arith
number_few (some draw_text) = omega arith
number_few (some connect_shapes) = omega arith
number_few (some draw_text_on_shape) = omega arith
number_few (some x_coordinate) = omega arith
number_few (some y_coordinate) = omega arith
number_few (some destroy_shape) = omega arith
number_few (some clear_scene) = omega arith
number_few (some draw_group) = omega arith
number_few none = omega arith

main_few : (b : Bool) (n : ℕ) → n ≤ 11 → cond b 12 n ≤ 12
main_few true n h = omega arith
main_few false n h = omega arith

pub procedure_few : (x : List ℕ) (n : ℕ) → n ≡ procedure_number x → n ≤ 12
unfolding procedure_number library_number
procedure_few x n e = rw e (main_few (same_text x (bytes "main")) (number_of (library_of x)) (number_few (library_of x)))

pub text_few : (p : List ℕ) (w : ℕ) (x : List ℕ) → x ≡ (token_in p w).text → length x < 65536
unfolding token_in text_in
text_few p w x e = rw e (go (eqb (kind_in w) a_string))
  where
    go : (b : Bool) → length (cond b (take (size_in w - 2) (drop (place_in w + 1) p)) (take (size_in w) (drop (place_in w) p))) < 65536
    go true = omega (arith, length-take (size_in w - 2) (drop (place_in w + 1) p))
    go false = omega (arith, length-take (size_in w) (drop (place_in w) p))

-- ---- a payload, by the kind
module _ (k : ℕ) (x : List ℕ) (h : ℕ) where
  pub payload_name : (n : ℕ) → k ≡ 1 → n ≡ procedure_number x → length x + 65536 * h + 4294967296 * n ≡ payload_with k x h
  unfolding payload_with
  payload_name n e u = rw (e, u)

  pub payload_digits : (v : ℕ) → k ≡ 2 → v ≡ min (numeral x) 4294967295 → v ≡ payload_with k x h
  unfolding payload_with
  payload_digits v e u = rw e u

  pub payload_string : k ≡ 3 → length x + 2 + 65536 * h ≡ payload_with k x h
  unfolding payload_with
  payload_string e = rw e

  pub payload_other : (k ≡ 1 → ⊥) → (k ≡ 2 → ⊥) → (k ≡ 3 → ⊥) → length x ≡ payload_with k x h
  unfolding payload_with
  payload_other a b c = rw (ne_eqb k 2 b, ne_eqb k 1 a, ne_eqb k 3 c)

  pub payload_small : (v : ℕ) → length x < 65536 → h < 65536 → v ≡ payload_with k x h → v < 1099511627776
  unfolding payload_with
  payload_small v l s e = rw e (go (eqb k 2) (eqb k 1) (eqb k 3))
    where
      go : (a b c : Bool)
          → cond a (min (numeral x) 4294967295) (cond b (length x + 65536 * h + 4294967296 * procedure_number x) (cond c (length x + 2 + 65536 * h) (length x)))
          < 1099511627776
      go true b c = omega arith
      go false true c = omega (arith, procedure_few x (procedure_number x) refl)
      go false false true = omega arith
      go false false false = omega arith

-- the low 24 bits are the kind and the place
pub word_is : (p : List ℕ) (w h k v : ℕ) (x : List ℕ) → x ≡ (token_in p w).text → k ≡ kind_in w → v ≡ payload_with k x h
    → w % 16777216 + 16777216 * v ≡ word_with (token_in p w) h
unfolding word_with token_in
word_is p w h k v x e u q =
    let low : w % 16777216 ≡ w % 256 + 256 * (w / 256 % 65536) = omega arith in
    rw (q, low, u, e)

-- ---- with the right home it is the prepared word
module _ (ts : List Token) (t : Token) (h : ℕ) (right : named t.kind ≡ true → h ≡ home ts t.kind t.text) where
  payload_is : payload_with t.kind t.text h ≡ payload ts t
  unfolding payload_with payload size_of named
  payload_is = go (eqb t.kind 2) (eqb t.kind 1) (eqb t.kind 3) refl refl refl
    where
      go : (a b c : Bool) → eqb t.kind 2 ≡ a → eqb t.kind 1 ≡ b → eqb t.kind 3 ≡ c → payload_with t.kind t.text h ≡ payload ts t
      go true b c e u v = rw e
      go false true c e u v =
          let q : t.kind ≡ 1 = eqb-true t.kind 1 u in
          let r : h ≡ home ts 1 t.text = rw q at (right (rw q)) in
          rw q (omega arith)
      go false false true e u v =
          let q : t.kind ≡ 3 = eqb-true t.kind 3 v in
          let r : h ≡ home ts 3 t.text = rw q at (right (rw q)) in
          rw q (omega arith)
      go false false false e u v = rw (e, u, v) (omega arith)

  pub word_prepared : word_with t h ≡ prepared ts t
  unfolding word_with prepared
  word_prepared = rw payload_is
