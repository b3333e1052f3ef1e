-- What is printed does not depend on what the out slice held, only on its length.
-- Assumes nothing.
use Prim.Native.Nat.{ℕ}
use mathlib.Core.Bool.{Bool, true, false}
use mathlib.Core.List.{List, [], ◌∷◌}
use mathlib.Core.Path.{◌≡◌, ◌∙◌, refl, sym, ap, fun_ext}
use lib.IntN.{ℤ}
use lib.ListN.{length, take}
use lib.Seq.{take-nil}
use Rattle.std.specs.Prelude.{Option, Some, None}
use Rattle.meaning.specs.Basics.{if◌then◌otherwise◌, laid_over}
use Rattle.meaning.specs.Run.{Resource, steps, shapes, entries, text_bytes, calls, picture, End, result, error, unfinished, Run}
use Rattle.meaning.specs.Program.{Outcome, accepted, drawn, drawing}
use Rattle.meaning.specs.Book.{Amounts, Booked, all_fit, lacking, nothing_yet, book, number, answer_to, settled, booked}
use Rattle.meaning.specs.Call.{Grants, granted, answer, out_after_end, out_after, admitted, run_of}
use Rattle.sheet.specs.declared.line.Sheet.{Sheet}
use Rattle.sheet.specs.Lines.{sheet_of}
use Rattle.sheet.specs.Shown.{shown_text}
use Rattle.imgdraw.specs.Printed.{call_of, drawn_text, printed_on, printed_of}

-- what is laid over a text is cut at its length
laid_cut : (b out : List ℕ) → take (length b) (laid_over b out) ≡ take (length out) b
unfolding laid_over
laid_cut [] out = sym (take-nil (length out))
laid_cut (x ∷ b) [] = refl
laid_cut (x ∷ b) (y ∷ out) = ap (λ (l : List ℕ). x ∷ l) (laid_cut b out)

module _ (out other : List ℕ) (e : length out ≡ length other) where
  same_end : (b : Booked) (end : End Outcome) → shown_text (settled b end) (out_after_end drawing b end out) ≡ shown_text (settled b end) (out_after_end drawing b end other)
  unfolding shown_text settled answer_to out_after_end
  same_end (all_fit total) (result accepted s) = refl
  same_end (all_fit total) (result (drawn b) s) = laid_cut b out ∙ ap (λ (n : ℕ). take n b) e ∙ sym (laid_cut b other)
  same_end (all_fit total) (error n p) = refl
  same_end (all_fit total) unfinished = refl
  same_end (lacking t total) end = refl

  same_grants : (g : Grants) → granted g out ≡ granted g other
  unfolding granted
  same_grants g = fun_ext by
    where
      by : (r : Resource) → granted g out r ≡ granted g other r
      by steps = refl
      by shapes = refl
      by entries = refl
      by text_bytes = refl
      by calls = refl
      by picture = e

  -- what drawing answers and writes
  same_drawn : (t : Bool) (a b : Amounts) (r : Run Outcome) → a ≡ b
      → shown_text (if t then (λ _. booked a r) otherwise λ _. number 71 0 0 0) (if t then (λ _. out_after_end drawing (book a nothing_yet r.takings) r.end out) otherwise λ _. out)
      ≡ shown_text (if t then (λ _. booked b r) otherwise λ _. number 71 0 0 0) (if t then (λ _. out_after_end drawing (book b nothing_yet r.takings) r.end other) otherwise λ _. other)
  unfolding if◌then◌otherwise◌ booked shown_text
  same_drawn true a b r k = rw k (same_end (book b nothing_yet r.takings) r.end)
  same_drawn false a b r k = refl

  same_text_lem : (p : List ℕ) (w h : ℤ) → drawn_text (call_of p w h out) ≡ drawn_text (call_of p w h other)
  unfolding drawn_text answer out_after admitted run_of
  same_text_lem p w h = same_drawn _ _ _ _ (same_grants _)

  same_sheet : (input : List ℕ) (s : Option Sheet) → printed_on input out s ≡ printed_on input other s
  unfolding printed_on
  same_sheet input (Some s) = same_text_lem _ s.width s.height
  same_sheet input None = refl

  pub same_printed : (input : List ℕ) → printed_of input out ≡ printed_of input other
  unfolding printed_of
  same_printed input = same_sheet input (sheet_of input)
