-- The line of an error by its parts.
-- Assumes nothing.
use Prim.Native.Nat.{ℕ, ◌^◌, ◌≤◌, ◌<◌}
use mathlib.Core.List.{List}
use native.Mathlib.Omega.{arith}
use lib.ListN.{length, length-append}
use Rattle.meaning.specs.Basics.{bytes}
use Rattle.writing.specs.Placed.{WroteAt}
use Rattle.writing.proofs.Laying.{from_front}
use Rattle.writing.proofs.Laying.{then as joined}
use Rattle.numerals.specs.Numbers.{NumberAt}
use Rattle.sheet.specs.Errors.{error_line, ErrorWritten}

pub error_written : (n place : ℕ) {p₁ p₂ r : ℕ} {d e₁ e₂ e₃ : List ℕ} → length d < 2 ^ 64 → NumberAt 0 (bytes "error ") n d e₁ p₁
    → NumberAt p₁ (bytes " at ") place e₁ e₂ p₂ → WroteAt p₂ (bytes "\n") e₂ e₃ r → ErrorWritten n place d e₃ r
unfolding error_line
error_written n place h w₁ w₂ w₃ =
    let few : length (error_line n place) ≤ 64 = simp length-append (omega (arith, w₁.short, w₂.short)) in
    let w = from_front (omega arith) (joined h (joined h w₁.wrote w₂.wrote) w₃) in
    record { wrote = w; short = omega (arith, w.counts) }
