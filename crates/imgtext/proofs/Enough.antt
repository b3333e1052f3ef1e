-- 32,769 bytes of the input are enough: what stands behind them changes nothing in what is printed.
use Prim.Native.Nat.{ℕ, ◌≤◌, ◌<◌}
use mathlib.Core.List.{List}
use mathlib.Core.Path.{◌≡◌, ◌∙◌, sym, ap}
use native.Mathlib.Decide.{dec_le}
use native.Mathlib.Omega.{arith}
use borrow.Author.Tests.{lt-ltb}
use lib.ListN.{length, take, length-take}
use lib.Seq.{take_all}
use Rattle.meaning.specs.Basics.{if◌then◌otherwise◌}
use Rattle.checking.specs.Checking.{read_answer}
use Rattle.sheet.specs.Errors.{error_line}
use Rattle.sheet.specs.Shown.{Front}
use Rattle.console.specs.Prints.{Prints}
use Rattle.imgtext.specs.Printed.{input_bytes, printed_for, printed}

-- a program that is too long is not looked into
too_long : (program : List ℕ) → 32768 < length program → printed program ≡ error_line 73 0
unfolding printed printed_for read_answer if◌then◌otherwise◌
too_long program h = rw (lt-ltb 32768 (length program) h)

-- THE LAW
pub enough : (program : List ℕ) → printed (take input_bytes program) ≡ printed program
enough program = by (dec_le (length program) input_bytes)
  where
    by : Dec (length program ≤ input_bytes) → printed (take input_bytes program) ≡ printed program
    by (yes h) = rw (take_all input_bytes program h)
    by (no h) =
        let l = length-take input_bytes program in
        too_long (take input_bytes program) (omega arith) ∙ sym (too_long program (omega arith))

-- so what is printed for that many bytes is what is printed for every input that they were read from
pub read_prints : (bytes after : List ℕ) (n r : ℕ) → length bytes ≡ input_bytes → Front (printed (take n bytes)) after r → Prints printed bytes n after r
read_prints bytes after n r l f = record {
  holds = λ input e. f.holds ∙ ap printed (sym e ∙ ap (λ (m : ℕ). take m input) l) ∙ enough input;
  within = f.within;
}
