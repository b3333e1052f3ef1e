-- The report by its parts.
-- Assumes nothing.
use Prim.Native.Nat.{ℕ, ◌-◌, ◌^◌, min, ◌≤◌, ◌<◌}
use mathlib.Core.Bool.{Bool}
use mathlib.Core.List.{List, ◌++◌}
use mathlib.Core.Path.{◌≡◌}
use native.Mathlib.Omega.{arith}
use borrow.Author.Tests.{ne_eqb}
use lib.Dec.{eqb}
use lib.ListN.{length, length-append}
use Rattle.meaning.specs.Basics.{bytes}
use Rattle.answers.specs.declared.Answer as Declared
use Rattle.answers.specs.declared.Answer.TheVariants.{Picture, Number}
use Rattle.answers.specs.Answers.{meant}
use Rattle.writing.specs.Placed.{Wrote, WroteAt}
use Rattle.writing.proofs.Laying.{from_front}
use Rattle.writing.proofs.Laying.{then as joined}
use Rattle.numerals.specs.Numbers.{NumberAt}
use Rattle.excerpts.specs.Excerpts.{optional, excerpt_of, Around}
use Rattle.excerpts.proofs.Marking.{wrote_wanted, wrote_unwanted, length_optional, length_excerpt}
use Rattle.report.specs.declared.place.Position.{Position}
use Rattle.report.specs.Positions.{position_of}
use Rattle.report.specs.Sentences.{sentence_of}
use Rattle.report.specs.Reports.{heading_of, has_line, failure_of, said_of, Said, HeadingAt, Failed}
use Rattle.report.proofs.Placing.{position_bounded}
use Rattle.report.proofs.Wording.{length_sentence}

-- ---- the heading
pub heading_written : (n place : ℕ) (p : Position) {at p₁ p₂ p₃ p₄ r : ℕ} {d e₁ e₂ e₃ e₄ e₅ : List ℕ} → length d < 2 ^ 64
    → NumberAt at (bytes "error ") n d e₁ p₁ → NumberAt p₁ (bytes " at byte ") place e₁ e₂ p₂
    → NumberAt p₂ (bytes ", line ") p.line e₂ e₃ p₃ → NumberAt p₃ (bytes ", column ") p.column e₃ e₄ p₄
    → WroteAt p₄ (bytes "\n") e₄ e₅ r → HeadingAt at n place p d e₅ r
unfolding heading_of
heading_written n place p h w₁ w₂ w₃ w₄ w₅ = record {
  wrote = joined h (joined h (joined h (joined h w₁.wrote w₂.wrote) w₃.wrote) w₄.wrote) w₅;
  short = simp length-append (omega (arith, w₁.short, w₂.short, w₃.short, w₄.short));
}

-- ---- the line of the place
module _ (n : ℕ) (b : List ℕ) {at : ℕ} {d : List ℕ} where
  pub line_none : n ≡ 73 → at < 2 ^ 64 → WroteAt at (optional (has_line n) b) d d at
  line_none e h = wrote_unwanted (has_line n) b (rw e) h

  pub line_some : {after : List ℕ} {r : ℕ} → (n ≡ 73 → ⊥) → WroteAt at b d after r → WroteAt at (optional (has_line n) b) d after r
  line_some e w = wrote_wanted (has_line n) b (rw (ne_eqb n 73 e)) w

-- ---- a failure
module _ (program : List ℕ) (n place spot : ℕ) (p : Position) (a : spot ≡ min place (length program)) (b : p ≡ position_of program spot) where
  pub spot_fits : spot ≤ length program
  spot_fits = omega arith

  pub column_some : 1 ≤ p.column
  column_some = rw b (position_bounded program spot spot_fits).some

  pub around : Around program spot (p.column - 1)
  around = record { within = spot_fits; enough = rw b (let h = position_bounded program spot spot_fits in omega (arith, h.columns)) }

  pub failed : {p₁ p₂ r : ℕ} {d e₁ e₂ e₃ : List ℕ} (t : Bool) → length d < 2 ^ 64 → t ≡ eqb place (length program) → HeadingAt 0 n place p d e₁ p₁
      → WroteAt p₁ (optional (has_line n) (excerpt_of program spot (p.column - 1))) e₁ e₂ p₂ → WroteAt p₂ (sentence_of n t) e₂ e₃ r
      → Failed program n place d e₃ r
  unfolding failure_of
  failed t h e w₁ w₂ w₃ =
      let few : length (heading_of n place p ++ optional (has_line n) (excerpt_of program spot (p.column - 1)) ++ sentence_of n t) ≤ 344 =
      simp length-append
      (omega (
        arith,
        w₁.short,
        length_optional (has_line n) (excerpt_of program spot (p.column - 1)),
        length_excerpt program spot (p.column - 1),
        length_sentence n t,
      )) in
      let w = from_front (omega arith) (joined h (joined h w₁.wrote w₂) w₃) in
      record { wrote = rw (e, b, a) at w; short = omega (arith, w.counts) }

-- ---- the report
module _ (program : List ℕ) (r : Declared.Answer) {d after : List ℕ} {size : ℕ} where
  pub said_formed : (l s : ℕ) → r ≡ Picture l s → Wrote (bytes "well formed\n") d after size → Said program (meant r) d after size
  unfolding said_of meant
  said_formed l s k w = record { wrote = rw k w; short = omega (arith, w.counts) }

  pub said_failed : (n place s l : ℕ) → r ≡ Number n place s l → Failed program n place d after size → Said program (meant r) d after size
  unfolding said_of meant
  said_failed n place s l k w = record { wrote = rw k w.wrote; short = w.short }
