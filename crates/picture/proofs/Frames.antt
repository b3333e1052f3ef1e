-- The laws of a picture's frame, and of the picture by its parts.
-- Assumes nothing.
use mathlib.Core.List.{List, [], ◌∷◌, ◌++◌, append_assoc, append-nil}
use mathlib.Core.Path.{◌≡◌, ◌∙◌, refl, sym, ap}
use Prim.Native.Nat.{ℕ, ◌+◌, ◌^◌, ◌<◌}
use native.Mathlib.Omega.{arith}
use lib.IntN.{ℤ}
use lib.ListN.{length, length-append}
use Rattle.meaning.specs.Basics.{bytes}
use Rattle.meaning.specs.Figure.{Figure}
use Rattle.meaning.specs.Picture.{decimal, line_of, lines_of, picture_of}
use Rattle.writing.specs.Digits.{pair}
use Rattle.writing.specs.Placed.{Wrote, WroteAt}
use Rattle.writing.proofs.Laying.{then, from_front}
use Rattle.picture.specs.Parts.{head, tail, front}

-- ---- the head by its parts
join : (l m n o p : List ℕ) (w h : ℤ) → l ++ m ++ decimal w ++ n ++ decimal h ++ o ++ p ≡ pair (l ++ m) w ++ pair n h ++ (o ++ p)
join l m n o p w h = simp append_assoc

pub head_parts : (w h : ℤ) → head w h
    ≡ pair (bytes "<?xml version=\"1.0\"?>\n<svg viewBox=\"0 0 ") w ++ pair (bytes " ") h
    ++ bytes "\" xmlns=\"http://www.w3.org/2000/svg\" version=\"1.1\">\n<g stroke=\"black\" fill=\"black\">\n"
unfolding head
head_parts w h =
    join (bytes "<?xml version=\"1.0\"?>\n") (bytes "<svg viewBox=\"0 0 ") (bytes " ")
    (bytes "\" xmlns=\"http://www.w3.org/2000/svg\" version=\"1.1\">\n")
    (bytes "<g stroke=\"black\" fill=\"black\">\n") w h

pub length_head : (w h : ℤ) → length (head w h) ≡ 125 + (length (decimal w) + length (decimal h))
length_head w h = ap (λ (b : List ℕ). length b) (head_parts w h) ∙ simp length-append (omega arith)

pub length_tail : length tail ≡ 12
unfolding tail
length_tail = refl

-- ---- the picture by its parts
pub picture_parts : (w h : ℤ) (figures : List Figure) → picture_of w h figures ≡ head w h ++ (lines_of figures ++ tail)
unfolding picture_of head tail
picture_parts w h figures =
    append_assoc (head w h ++ lines_of figures) (bytes "</g>\n") (bytes "</svg>\n")
    ∙ append_assoc (head w h) (lines_of figures) (bytes "</g>\n" ++ bytes "</svg>\n")

pub length_picture : (w h : ℤ) (figures : List Figure) → length (picture_of w h figures) ≡ length (head w h) + length (lines_of figures) + 12
length_picture w h figures = ap (λ (b : List ℕ). length b) (picture_parts w h figures) ∙ simp (length-append, length_tail) (omega arith)

pub lines_append : (figures more : List Figure) → lines_of (figures ++ more) ≡ lines_of figures ++ lines_of more
unfolding lines_of
lines_append [] more = refl
lines_append (a ∷ figures) more =
    ap (λ (l : List ℕ). line_of a ++ l) (lines_append figures more) ∙ sym (append_assoc (line_of a) (lines_of figures) (lines_of more))

-- ---- a picture written part by part
module _ (w h : ℤ) where
  pub front_none : front w h [] ≡ head w h
  unfolding front lines_of
  front_none = append-nil (head w h)

  pub front_more : (figures : List Figure) (a : Figure) → front w h (figures ++ a ∷ []) ≡ front w h figures ++ line_of a
  unfolding front lines_of
  front_more figures a =
      ap (λ (l : List ℕ). head w h ++ l)
      (lines_append figures (a ∷ []) ∙ ap (λ (l : List ℕ). lines_of figures ++ l) (append-nil (line_of a)))
      ∙ sym (append_assoc (head w h) (lines_of figures) (line_of a))

  pub front_all : (figures : List Figure) → picture_of w h figures ≡ front w h figures ++ tail
  unfolding front
  front_all figures = picture_parts w h figures ∙ sym (append_assoc (head w h) (lines_of figures) tail)

  pub begun : {d after : List ℕ} {r : ℕ} → WroteAt 0 (head w h) d after r → WroteAt 0 (front w h []) d after r
  begun p = rw front_none p

  pub line_added : (figures : List Figure) (a : Figure) {d after last : List ℕ} {m r : ℕ} → length d < 2 ^ 64
      → WroteAt 0 (front w h figures) d after m → WroteAt m (line_of a) after last r → WroteAt 0 (front w h (figures ++ a ∷ [])) d last r
  line_added figures a l p q = rw (front_more figures a) (then l p q)

  pub ended : (figures : List Figure) {d after last : List ℕ} {m r : ℕ} → length d < 2 ^ 64 → length (picture_of w h figures) < 2 ^ 64
      → WroteAt 0 (front w h figures) d after m → WroteAt m tail after last r → Wrote (picture_of w h figures) d last r
  ended figures l k p q = from_front k (rw (front_all figures) (then l p q))
