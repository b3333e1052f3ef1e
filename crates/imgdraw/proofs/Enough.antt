-- 32,791 bytes of the input are enough: what stands behind them changes nothing in what is printed.
-- Assumes nothing.
use Prim.Native.Nat.{ℕ, ◌-◌, ◌≤◌, ◌<◌}
use mathlib.Core.Bool.{Bool, true, false}
use mathlib.Core.List.{List}
use mathlib.Core.Path.{◌≡◌, ◌∙◌, refl, sym, ap}
use native.Mathlib.Decide.{dec_le}
use native.Mathlib.Omega.{arith}
use borrow.Author.Tests.{lt-ltb}
use lib.IntN.{ℤ}
use lib.ListN.{length, take, drop, replicate, length-take, length-replicate}
use lib.Seq.{take_all}
use Rattle.std.specs.Prelude.{Option, Some, None}
use Rattle.meaning.specs.Run.{Action, ◌>>=◌, ◌>>◌, fail, refuse, go_on}
use Rattle.meaning.specs.Program.{Outcome, drawing, sheet, sized, painting, performing, specified, empty}
use Rattle.meaning.specs.Call.{answer, out_after, run_of, admitted}
use Rattle.sheet.specs.declared.line.Sheet.{Sheet}
use Rattle.sheet.specs.Lines.{sheet_of}
use Rattle.sheet.proofs.Fields.{sheet_ends}
use Rattle.sheet.proofs.Cuts.{drop_cut, sheet_cut}
use Rattle.console.specs.Prints.{Prints}
use Rattle.imgdraw.specs.Sizes.{input_bytes, out_bytes}
use Rattle.sheet.specs.Shown.{Front}
use Rattle.imgdraw.specs.Printed.{call_of, drawn_text, printed_on, printed_of, printed}
use Rattle.imgdraw.proofs.Outs.{same_printed}

-- a program that is too long is not looked into
stopped : {A : Type 0} (t : Bool) (x y : Action A) (after : A → Action Outcome)
    → ((refuse t 72 0 >> (refuse true 73 0 >> x)) >>= after) empty ≡ ((refuse t 72 0 >> (refuse true 73 0 >> y)) >>= after) empty
unfolding refuse fail go_on ◌>>=◌
stopped true x y after = refl
stopped false x y after = refl

module _ (p q : List ℕ) (w h : ℤ) (k : 32768 < length p) (l : 32768 < length q) where
  same_run : (n : ℕ) → specified drawing p w h n ≡ specified drawing q w h n
  unfolding specified performing painting sheet sized
  same_run n = rw (lt-ltb 32768 (length p) k, lt-ltb 32768 (length q) l) (stopped _ _ _ _)

  same_text_lem : (out : List ℕ) → drawn_text (call_of p w h out) ≡ drawn_text (call_of q w h out)
  unfolding drawn_text answer out_after admitted run_of
  same_text_lem out = rw (same_run 1000001)

program_cut : (m : ℕ) (p : List ℕ) (w h : ℤ) (out : List ℕ) → 32769 ≤ m → drawn_text (call_of (take m p) w h out) ≡ drawn_text (call_of p w h out)
program_cut m p w h out l = by (dec_le (length p) m)
  where
    by : Dec (length p ≤ m) → drawn_text (call_of (take m p) w h out) ≡ drawn_text (call_of p w h out)
    by (yes k) = rw (take_all m p k)
    by (no k) = let e = length-take m p in same_text_lem (take m p) p w h (omega arith) (omega arith) out

input_cut : (input out : List ℕ) (r : Option Sheet) → r ≡ sheet_of input → printed_on (take input_bytes input) out r ≡ printed_on input out r
unfolding printed_on
input_cut input out (Some s) e =
    let n = s.line_length in
    let k = (sheet_ends input (Some s) s e refl).few in
    rw (drop_cut n input_bytes input) (program_cut (input_bytes - n) (drop n input) s.width s.height out (omega arith))
input_cut input out None e = refl

-- THE LAW
pub enough : (input : List ℕ) → printed (take input_bytes input) ≡ printed input
unfolding printed printed_of
enough input = rw (sheet_cut input_bytes input (omega arith)) (input_cut input (replicate out_bytes 0) (sheet_of input) refl)

-- so what is drawn from that many bytes is the text of every input that they were read from
pub read_prints : (bytes out after : List ℕ) (n r : ℕ) → length bytes ≡ input_bytes → length out ≡ out_bytes → Front (printed_of (take n bytes) out) after r
    → Prints printed bytes n after r
unfolding printed
read_prints bytes out after n r l o f = record {
  holds = λ input e.
      f.holds
      ∙ same_printed out (replicate out_bytes 0) (o ∙ sym (length-replicate {A = ℕ} out_bytes 0)) (take n bytes)
      ∙ ap printed (sym e ∙ ap (λ (k : ℕ). take k input) l)
      ∙ enough input;
  within = f.within;
}
