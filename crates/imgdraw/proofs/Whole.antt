-- From what drawing promises to all that is printed.
-- Assumes nothing.
use Prim.Native.Nat.{ℕ, ◌-◌, ◌≤◌}
use mathlib.Core.List.{List, [], ◌∷◌}
use mathlib.Core.Path.{◌≡◌, ◌∙◌, sym, ap}
use native.Mathlib.Omega.{arith}
use lib.IntN.{ℤ}
use lib.ListN.{length, take, drop, length-drop}
use lib.Seq.{take_all}
use mir.Syntax.{w32}
use mir.Val.{SFits, to_z, of_z}
use mir.ValLaws.{to_z-of_z}
use Rattle.std.specs.Prelude.{Option, Some, None}
use Rattle.meaning.specs.Program.{drawing}
use Rattle.meaning.specs.Call.{Call, needed, answer, out_after}
use Rattle.answers.specs.declared.Answer as Declared
use Rattle.answers.specs.Answers.{meant}
use Rattle.lending.specs.Lending.{called}
use Rattle.sheet.specs.declared.line.Sheet.{Sheet}
use Rattle.sheet.specs.Errors.{ErrorWritten}
use Rattle.sheet.specs.Lines.{sheet_of}
use Rattle.sheet.specs.Shown.{shown_text, Front}
use Rattle.imgdraw.specs.Printed.{call_of, drawn_text, printed_on, printed_of}
use Rattle.sheet.proofs.Fronts.{error_line_lem}

-- drawing's call, with its slices' lengths and grants
pub same_call : (program tokens code words texts out : List ℕ) (w h : ℤ) → length tokens ≡ 8193 → length code ≡ 16384 → length words ≡ 338192 → length texts ≡ 16384
    → called drawing program w h (1000000 ∷ 1024 ∷ 1024 ∷ 16384 ∷ 64 ∷ []) tokens code words texts out ≡ call_of program w h out
unfolding needed
same_call program tokens code words texts out w h a b c d = rw (a, b, c, d)

-- the answer and the out slice are those of the call
pub drawn_front : (c : Call) (a : Declared.Answer) {out after : List ℕ} {r : ℕ} → meant a ≡ answer c → out ≡ out_after c
    → Front (shown_text (meant a) out) after r → Front (drawn_text c) after r
unfolding drawn_text
drawn_front c a e o f = rw (e, o) at f

-- a signed number handed over, as its bits
abbrev held : ℤ → ℤ
held z = to_z w32 (of_z w32 z)

pub program_drawn : (program tokens code words texts out : List ℕ) (w h : ℤ) → SFits w32 w → SFits w32 h
    → length tokens ≡ 8193 → length code ≡ 16384 → length words ≡ 338192 → length texts ≡ 16384 → (a : Declared.Answer) (out₁ after : List ℕ) (r : ℕ)
    → meant a ≡ answer (called drawing program (held w) (held h) (1000000 ∷ 1024 ∷ 1024 ∷ 16384 ∷ 64 ∷ []) tokens code words texts out)
    → out₁ ≡ out_after (called drawing program (held w) (held h) (1000000 ∷ 1024 ∷ 1024 ∷ 16384 ∷ 64 ∷ []) tokens code words texts out)
    → Front (shown_text (meant a) out₁) after r → Front (drawn_text (call_of program w h out)) after r
program_drawn program tokens code words texts out w h f g i j k l a out₁ after r e o t =
    let q : called drawing program (held w) (held h) (1000000 ∷ 1024 ∷ 1024 ∷ 16384 ∷ 64 ∷ []) tokens code words texts out ≡ call_of program w h out =
    same_call program tokens code words texts out (held w) (held h) i j k l ∙ rw (to_z-of_z w32 w f, to_z-of_z w32 h g) in
    drawn_front (call_of program w h out) a (e ∙ ap answer q) (o ∙ ap out_after q) t

module _ (input out : List ℕ) (s : Option Sheet) (e : s ≡ sheet_of input) {after : List ℕ} {r : ℕ} where
  pub whole_unread : s ≡ None → 64 ≤ length out → ErrorWritten 72 0 out after r → Front (printed_of input out) after r
  unfolding printed_of printed_on
  whole_unread k h w = rw (sym e ∙ k) (error_line_lem 72 0 r out after h w)

  -- a call hands a signed number on as its bits, and the program as a part of the input
  pub whole_drawn : (t : Sheet) → s ≡ Some t → SFits w32 t.width → SFits w32 t.height
      → Front (drawn_text (call_of (take (length input - t.line_length) (drop t.line_length input)) (held t.width) (held t.height) out)) after r
      → Front (printed_of input out) after r
  unfolding printed_of printed_on
  whole_drawn t k fx fy f =
      let n = t.line_length in
      let rest : take (length input - n) (drop n input) ≡ drop n input = take_all (length input - n) (drop n input) (omega (arith, length-drop n input)) in
      rw (sym e ∙ k) (rw (rest, to_z-of_z w32 t.width fx, to_z-of_z w32 t.height fy) at f)
