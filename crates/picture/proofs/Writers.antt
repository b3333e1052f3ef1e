-- What the calls of each writer come to together. A call hands a number on as its bits, which `seen` and `seen_wide` read back.
-- Assumes nothing.
use mathlib.Core.List.{List}
use mathlib.Core.Path.{◌≡◌, ◌∙◌}
use Prim.Native.Nat.{ℕ, ◌+◌, ◌*◌, ◌^◌, ◌≤◌, ◌<◌}
use native.Mathlib.Omega.{arith}
use lib.IntN.{ℤ}
use lib.ListN.{length}
use mir.Syntax.{w32, w64}
use mir.Val.{SFits}
use Rattle.meaning.specs.Basics.{bytes}
use Rattle.meaning.specs.Figure.{Figure, line, ellipse, box, text}
use Rattle.meaning.specs.Picture.{decimal, plain_line, line_of}
use Rattle.writing.specs.Digits.{pair}
use Rattle.writing.specs.Placed.{Wrote, WroteAt}
use Rattle.writing.proofs.Decimals.{decimal_limit}
use Rattle.writing.proofs.Laying.{then, from_front}
use Rattle.writing.proofs.Signs.{seen, seen_wide, handed_wide, handed_both}
use Rattle.picture.specs.declared.line.Shape.{Shape}
use Rattle.picture.specs.declared.line.Shown.{Shown}
use Rattle.picture.specs.Parts.{figure_from, figure_of, Shows, head, element}
use Rattle.picture.proofs.Frames.{head_parts, length_head}
use Rattle.picture.proofs.Lines.{
  figure_line,
  figure_ellipse,
  figure_box,
  figure_text,
  line_element,
  ellipse_element,
  box_element,
  text_element,
  numbers,
  numbers_limit,
  length_line,
  length_ellipse,
  length_box,
  length_text,
  line_from,
}

-- ---- elements
pub wrote_element : (a b c d : ℤ) (l m n o : List ℕ) {before e₁ e₂ e₃ e₄ e₅ : List ℕ} {p₁ p₂ p₃ p₄ r : ℕ}
    → SFits w64 a → SFits w64 b → SFits w64 c → SFits w64 d → length before < 2 ^ 64
    → WroteAt 0 (pair l (seen_wide a)) before e₁ p₁ → WroteAt p₁ (pair m (seen_wide b)) e₁ e₂ p₂ → WroteAt p₂ (pair n (seen_wide c)) e₂ e₃ p₃
    → WroteAt p₃ (pair o (seen_wide d)) e₃ e₄ p₄ → WroteAt p₄ (bytes "\"/>\n") e₄ e₅ r → WroteAt 0 (element l a m b n c o d) before e₅ r
unfolding element
wrote_element a b c d l m n o fa fb fc fd h w₁ w₂ w₃ w₄ w₅ =
    rw (handed_wide a fa, handed_wide b fb, handed_wide c fc, handed_wide d fd) at (then h (then h (then h (then h w₁ w₂) w₃) w₄) w₅)

pub wrote_text : (x y : ℤ) {s before e₁ e₂ e₃ e₄ e₅ : List ℕ} {p₁ p₂ p₃ p₄ r : ℕ}
    → SFits w64 x → SFits w64 y → length before < 2 ^ 64 → length s * 1 < 2 ^ 63
    → WroteAt 0 (pair (bytes "<text x=\"") (seen_wide x)) before e₁ p₁ → WroteAt p₁ (pair (bytes "\" y=\"") (seen_wide y)) e₁ e₂ p₂
    → WroteAt p₂ (bytes "\">") e₂ e₃ p₃ → WroteAt p₃ s e₃ e₄ p₄ → WroteAt p₄ (bytes "</text>\n") e₄ e₅ r
    → Wrote (plain_line (text x y s)) before e₅ r
wrote_text x y {s} fx fy h k w₁ w₂ w₃ w₄ w₅ =
    let p = decimal_limit x fx in
    let q = decimal_limit y fy in
    from_front (omega (arith, length_text x y s))
    (rw (text_element x y s) (rw (handed_wide x fx, handed_wide y fy) at (then h (then h (then h (then h w₁ w₂) w₃) w₄) w₅)))

-- ---- the line of each kind
module _ (k : ℕ) (a b c d : ℤ) (s : List ℕ) {before after : List ℕ} {r : ℕ}
    (fa : SFits w64 a) (fb : SFits w64 b) (fc : SFits w64 c) (fd : SFits w64 d) where
  wrote : (f : Figure) (l m n o : List ℕ) → figure_from k a b c d s ≡ f → plain_line f ≡ element l a m b n c o d → length (plain_line f) ≤ 199
      → WroteAt 0 (element l (seen_wide a) m (seen_wide b) n (seen_wide c) o (seen_wide d))
      before after r → Wrote (plain_line (figure_from k a b c d s)) before after r
  wrote f l m n o e g h w = rw e (from_front (omega arith) (rw g (rw (handed_wide a fa, handed_wide b fb, handed_wide c fc, handed_wide d fd) at w)))

  pub wrote_line : k ≡ 0
      → WroteAt 0 (element (bytes "<line x1=\"") (seen_wide a) (bytes "\" y1=\"") (seen_wide b) (bytes "\" x2=\"") (seen_wide c) (bytes "\" y2=\"") (seen_wide d))
      before after r → Wrote (plain_line (figure_from k a b c d s)) before after r
  wrote_line e w = wrote (line a b c d) _ _ _ _ (figure_line a b c d s e) (line_element a b c d)
      (omega (arith, length_line a b c d, numbers_limit a b c d fa fb fc fd)) w

  pub wrote_ellipse : k ≡ 1
      → WroteAt 0 (element (bytes "<ellipse cx=\"") (seen_wide a) (bytes "\" cy=\"") (seen_wide b) (bytes "\" rx=\"") (seen_wide c) (bytes "\" ry=\"") (seen_wide d))
      before after r → Wrote (plain_line (figure_from k a b c d s)) before after r
  wrote_ellipse e w = wrote (ellipse a b c d) _ _ _ _ (figure_ellipse a b c d s e) (ellipse_element a b c d)
      (omega (arith, length_ellipse a b c d, numbers_limit a b c d fa fb fc fd)) w

  pub wrote_box : k ≡ 2
      → WroteAt 0 (element (bytes "<rect x=\"") (seen_wide a) (bytes "\" y=\"") (seen_wide b) (bytes "\" width=\"") (seen_wide c) (bytes "\" height=\"") (seen_wide d))
      before after r → Wrote (plain_line (figure_from k a b c d s)) before after r
  wrote_box e w = wrote (box a b c d) _ _ _ _ (figure_box a b c d s e) (box_element a b c d)
      (omega (arith, length_box a b c d, numbers_limit a b c d fa fb fc fd)) w

  pub wrote_other : (k ≡ 0 → ⊥) → (k ≡ 1 → ⊥) → (k ≡ 2 → ⊥) → Wrote (plain_line (text (seen_wide a) (seen_wide b) s)) before after r
      → Wrote (plain_line (figure_from k a b c d s)) before after r
  wrote_other n₀ n₁ n₂ w = rw (figure_text k a b c d s n₀ n₁ n₂) (rw (handed_wide a fa, handed_wide b fb) at w)

-- ---- lengths
module _ (k : ℕ) (a b c d : ℤ) (s : List ℕ) {m n : ℕ}
    (fa : SFits w64 a) (fb : SFits w64 b) (fc : SFits w64 c) (fd : SFits w64 d) where
  counted : (f : Figure) (x : ℕ) → figure_from k a b c d s ≡ f → length (plain_line f) ≡ x + numbers a b c d
      → m ≡ length (decimal (seen_wide a)) + length (decimal (seen_wide b)) → n ≡ length (decimal (seen_wide c)) + length (decimal (seen_wide d))
      → x + m + n ≡ length (plain_line (figure_from k a b c d s))
  unfolding numbers
  counted f x e g p q = rw (e, g, p, q, handed_wide a fa, handed_wide b fb, handed_wide c fc, handed_wide d fd) (omega arith)

  pub counted_line : k ≡ 0
      → m ≡ length (decimal (seen_wide a)) + length (decimal (seen_wide b)) → n ≡ length (decimal (seen_wide c)) + length (decimal (seen_wide d))
      → 32 + m + n ≡ length (plain_line (figure_from k a b c d s))
  counted_line e = counted (line a b c d) 32 (figure_line a b c d s e) (length_line a b c d)

  pub counted_ellipse : k ≡ 1
      → m ≡ length (decimal (seen_wide a)) + length (decimal (seen_wide b)) → n ≡ length (decimal (seen_wide c)) + length (decimal (seen_wide d))
      → 35 + m + n ≡ length (plain_line (figure_from k a b c d s))
  counted_ellipse e = counted (ellipse a b c d) 35 (figure_ellipse a b c d s e) (length_ellipse a b c d)

  pub counted_box : k ≡ 2
      → m ≡ length (decimal (seen_wide a)) + length (decimal (seen_wide b)) → n ≡ length (decimal (seen_wide c)) + length (decimal (seen_wide d))
      → 37 + m + n ≡ length (plain_line (figure_from k a b c d s))
  counted_box e = counted (box a b c d) 37 (figure_box a b c d s e) (length_box a b c d)

pub counted_other : (k : ℕ) (a b c d : ℤ) (s : List ℕ) {m : ℕ} → SFits w64 a → SFits w64 b → (k ≡ 0 → ⊥) → (k ≡ 1 → ⊥) → (k ≡ 2 → ⊥)
    → m ≡ length (decimal (seen_wide a)) + length (decimal (seen_wide b)) → 24 + m + length s ≡ length (plain_line (figure_from k a b c d s))
counted_other k a b c d s fa fb n₀ n₁ n₂ p =
    rw (figure_text k a b c d s n₀ n₁ n₂, length_text a b s, p, handed_wide a fa, handed_wide b fb) (omega arith)

-- ---- the line with its numbers turned
module _ (f : Shape) (n : Shown) (s : List ℕ) (g : Shows f n) where
  is_turned : line_of (figure_of f s) ≡ plain_line (figure_from f.kind n.a n.b n.c n.d s)
  is_turned = line_from f.kind f.a f.b f.c f.d s ∙ rw (g.at_a, g.at_b, g.at_c, g.at_d)

  pub wrote_turned : {before after : List ℕ} {r : ℕ} → Wrote (plain_line (figure_from f.kind n.a n.b n.c n.d s)) before after r
      → Wrote (line_of (figure_of f s)) before after r
  wrote_turned p = rw is_turned p

  pub counted_turned : {r : ℕ} → r ≡ length (plain_line (figure_from f.kind n.a n.b n.c n.d s)) → r ≡ length (line_of (figure_of f s))
  counted_turned p = rw is_turned p

-- ---- the head
module _ (w h : ℤ) (fw : SFits w32 w) (fh : SFits w32 h) where
  pub wrote_head : {before e₁ e₂ e₃ : List ℕ} {at p₁ p₂ r : ℕ} → length before < 2 ^ 64
      → WroteAt at (pair (bytes "<?xml version=\"1.0\"?>\n<svg viewBox=\"0 0 ") (seen_wide (seen w))) before e₁ p₁
      → WroteAt p₁ (pair (bytes " ") (seen_wide (seen h))) e₁ e₂ p₂
      → WroteAt p₂ (bytes "\" xmlns=\"http://www.w3.org/2000/svg\" version=\"1.1\">\n<g stroke=\"black\" fill=\"black\">\n") e₂ e₃ r
      → WroteAt at (head w h) before e₃ r
  wrote_head l w₁ w₂ w₃ = rw (head_parts w h) (rw (handed_both w fw, handed_both h fh) at (then l (then l w₁ w₂) w₃))

  pub counted_head : {n : ℕ} → n ≡ length (decimal (seen_wide (seen w))) + length (decimal (seen_wide (seen h))) → 125 + n ≡ length (head w h)
  counted_head e = rw (length_head w h, e, handed_both w fw, handed_both h fh)
