-- Bytes as they are shown, and the mark's line.
-- Assumes nothing.
use Prim.Native.Nat.{ℕ, ◌+◌, ◌-◌, ◌^◌, min, ◌≤◌, ◌<◌}
use mathlib.Core.Bool.{Bool, true, false}
use mathlib.Core.List.{List, [], ◌∷◌, ◌++◌, map}
use mathlib.Core.Path.{◌≡◌, refl, sym, ap}
use native.Mathlib.Numerals.{add-one}
use native.Mathlib.Omega.{arith}
use borrow.Author.Tests.{eq-eqb, ne_eqb, lt-ltb, le-ltb}
use lib.Dec.{ltb}
use lib.ListN.{length, get_or, take, drop, length-append, length-take, length-drop, length-map, take-append-drop}
use lib.Seq.{take-suc, take_all}
use Rattle.meaning.specs.Basics.{bytes, span, laid_over}
use Rattle.writing.specs.Placed.{laid_at, WroteAt}
use Rattle.writing.proofs.Laying.{saturated_small}
use Rattle.writing.proofs.Laying.{then as joined}
use Rattle.numerals.proofs.Spans.{span_le}
use Rattle.excerpts.specs.Excerpts.{glyph_of, glyphs_of, optional, in_line, shown_line, mark_line, excerpt_of, Around}

-- ---- one byte
module _ (m : Bool) (b : ℕ) where
  pub glyph_tab : b ≡ 9 → 9 ≡ glyph_of m b
  unfolding glyph_of
  glyph_tab e = rw (eq-eqb b 9 e)

  pub glyph_mark : (b ≡ 9 → ⊥) → m ≡ true → 32 ≡ glyph_of m b
  unfolding glyph_of
  glyph_mark n e = rw (ne_eqb b 9 n, e)

  pub glyph_low : (b ≡ 9 → ⊥) → m ≡ false → b < 32 → 63 ≡ glyph_of m b
  unfolding glyph_of
  glyph_low n e l = rw (ne_eqb b 9 n, e, lt-ltb b 32 l)

  pub glyph_high : (b ≡ 9 → ⊥) → m ≡ false → 32 ≤ b → 126 < b → 63 ≡ glyph_of m b
  unfolding glyph_of
  glyph_high n e l h = rw (ne_eqb b 9 n, e, le-ltb b 32 l, lt-ltb 126 b h)

  pub glyph_plain : (b ≡ 9 → ⊥) → m ≡ false → 32 ≤ b → b ≤ 126 → b ≡ glyph_of m b
  unfolding glyph_of
  glyph_plain n e l h = rw (ne_eqb b 9 n, e, le-ltb b 32 l, le-ltb 126 b h)

-- ---- several
map_append : (f : ℕ → ℕ) (xs ys : List ℕ) → map f (xs ++ ys) ≡ map f xs ++ map f ys
map_append f [] ys = refl
map_append f (x ∷ xs) ys = ap (λ (l : List ℕ). f x ∷ l) (map_append f xs ys)

glyphs_more : (m : Bool) (bs : List ℕ) (i : ℕ) → i < length bs → glyphs_of m (take (i + 1) bs) ≡ glyphs_of m (take i bs) ++ (glyph_of m (get_or bs i 0) ∷ [])
unfolding glyphs_of
glyphs_more m bs i h = rw (add-one i, take-suc bs i 0 h) (map_append (glyph_of m) (take i bs) (get_or bs i 0 ∷ []))

pub length_glyphs : (m : Bool) (bs : List ℕ) → length (glyphs_of m bs) ≡ length bs
unfolding glyphs_of
length_glyphs m bs = length-map bs (glyph_of m)

-- nothing was written
wrote_nothing : {at : ℕ} {d : List ℕ} → at < 2 ^ 64 → WroteAt at [] d d at
unfolding laid_at laid_over
wrote_nothing {at} {d} h =
    let q : at + 0 ≡ at = omega arith in
    record { laid = sym (take-append-drop at d); ends = rw q (sym (saturated_small at h)) }

-- the loop: the glyphs of the first i bytes are written
pub record Showing (m : Bool) (bs : List ℕ) (at : ℕ) (d₀ d : List ℕ) (next i : ℕ) : Type 0 where
  pub few : i ≤ length bs
  pub wrote : WroteAt at (glyphs_of m (take i bs)) d₀ d next

pub show_none : (m : Bool) (bs : List ℕ) (at : ℕ) (d : List ℕ) → at < 2 ^ 64 → Showing m bs at d d at 0
unfolding glyphs_of
show_none m bs at d h = record { few = omega arith; wrote = wrote_nothing h }

module _ (m : Bool) (bs : List ℕ) (at : ℕ) (d₀ d : List ℕ) (next i : ℕ) (g : Showing m bs at d₀ d next i) where
  pub show_more : (b r : ℕ) (d' : List ℕ) → length d₀ < 2 ^ 64 → i < length bs → b ≡ glyph_of m (get_or bs i 0) → WroteAt next (b ∷ []) d d' r
      → Showing m bs at d₀ d' r (i + 1)
  show_more b r d' l h e w = record { few = omega arith; wrote = rw (glyphs_more m bs i h) (joined l g.wrote (rw e at w)) }

  pub show_all : length bs ≤ i → WroteAt at (glyphs_of m bs) d₀ d next
  show_all h = rw (take_all i bs h) at g.wrote

-- ---- what is there or not
module _ (t : Bool) (b : List ℕ) {at : ℕ} {d : List ℕ} where
  pub wrote_wanted : {after : List ℕ} {r : ℕ} → t ≡ true → WroteAt at b d after r → WroteAt at (optional t b) d after r
  unfolding optional
  wrote_wanted e w = rw e w

  pub wrote_unwanted : t ≡ false → at < 2 ^ 64 → WroteAt at (optional t b) d d at
  unfolding optional
  wrote_unwanted e h = rw e (wrote_nothing h)

pub length_optional : (t : Bool) (b : List ℕ) → length (optional t b) ≤ length b
unfolding optional
length_optional true b = omega arith
length_optional false b = omega arith

-- ---- the two lines
module _ {at r : ℕ} {d e₁ e₂ e₃ : List ℕ} (part : List ℕ) (h : length d < 2 ^ 64) where
  pub wrote_shown : {e₄ : List ℕ} {p₁ p₂ p₃ : ℕ} (s c : Bool) → WroteAt at (optional s (bytes "...")) d e₁ p₁ → WroteAt p₁ (glyphs_of false part) e₁ e₂ p₂
      → WroteAt p₂ (optional c (bytes "...")) e₂ e₃ p₃ → WroteAt p₃ (bytes "\n") e₃ e₄ r → WroteAt at (shown_line s c part) d e₄ r
  unfolding shown_line
  wrote_shown s c w₁ w₂ w₃ w₄ = joined h (joined h (joined h w₁ w₂) w₃) w₄

  pub wrote_mark : {p₁ p₂ : ℕ} (s : Bool) → WroteAt at (optional s (bytes "   ")) d e₁ p₁ → WroteAt p₁ (glyphs_of true part) e₁ e₂ p₂
      → WroteAt p₂ (bytes "^\n") e₂ e₃ r → WroteAt at (mark_line s part) d e₃ r
  unfolding mark_line
  wrote_mark s w₁ w₂ w₃ = joined h (joined h w₁ w₂) w₃

length_shown : (s c : Bool) (part : List ℕ) → length (shown_line s c part) ≤ length part + 7
unfolding shown_line
length_shown s c part =
    simp length-append (omega (arith, length_glyphs false part, length_optional s (bytes "..."), length_optional c (bytes "...")))

length_mark : (s : Bool) (part : List ℕ) → length (mark_line s part) ≤ length part + 5
unfolding mark_line
length_mark s part = simp length-append (omega (arith, length_glyphs true part, length_optional s (bytes "   ")))

-- ---- the excerpt: k bytes before the place and m from it on
module _ (program : List ℕ) (place behind rest k m : ℕ) (g : Around program place behind)
    (a : rest ≡ span in_line (drop place program)) (b : k ≡ min behind 60) (c : m ≡ min rest 20) where
  pub start_fits : k ≤ place
  start_fits = omega (arith, g.enough)

  pub end_fits : place + m ≤ length program
  end_fits = omega (arith, g.within, span_le in_line (drop place program), length-drop place program)

  pub wrote_excerpt : {at p r : ℕ} {d e f : List ℕ} → length d < 2 ^ 64
      → WroteAt at (shown_line (ltb 60 behind) (ltb 20 rest) (take (place + m - (place - k)) (drop (place - k) program))) d e p
      → WroteAt p (mark_line (ltb 60 behind) (take (place - (place - k)) (drop (place - k) program))) e f r
      → WroteAt at (excerpt_of program place behind) d f r
  unfolding excerpt_of
  wrote_excerpt h w v =
      let x : place + m - (place - k) ≡ min behind 60 + min rest 20 = omega (arith, g.enough) in
      let y : place - (place - k) ≡ min behind 60 = omega (arith, g.enough) in
      joined h (rw (x, b, a) at w) (rw (y, b) at v)

pub length_excerpt : (program : List ℕ) (place behind : ℕ) → length (excerpt_of program place behind) ≤ 152
unfolding excerpt_of
length_excerpt program place behind =
    simp length-append
    (omega (
      arith,
      length_shown (ltb 60 behind) (ltb 20 (span in_line (drop place program))) (take (min behind 60 + min (span in_line (drop place program)) 20) (drop (place - min behind 60) program)),
      length-take (min behind 60 + min (span in_line (drop place program)) 20) (drop (place - min behind 60) program),
      length_mark (ltb 60 behind) (take (min behind 60) (drop (place - min behind 60) program)),
      length-take (min behind 60) (drop (place - min behind 60) program),
    ))

-- ---- a line's end
pub line_goes_on : (b : ℕ) → (b ≡ 10 → ⊥) → in_line b ≡ true
unfolding in_line
line_goes_on b e = rw (ne_eqb b 10 e)

pub line_ends : (b : ℕ) → b ≡ 10 → in_line b ≡ false
unfolding in_line
line_ends b e = rw e
