-- 32,769 bytes of the input are enough: what stands behind them changes nothing in the report.
-- Assumes nothing.
use Prim.Native.Nat.{ℕ, min, ◌≤◌, ◌<◌}
use mathlib.Core.Bool.{false}
use mathlib.Core.List.{List}
use mathlib.Core.Path.{◌≡◌, ◌∙◌, refl, sym, ap}
use native.Mathlib.Decide.{dec_le}
use native.Mathlib.Omega.{arith}
use borrow.Author.Tests.{lt-ltb, ne_eqb}
use lib.ListN.{length, take, length-take}
use lib.Seq.{take_all}
use Rattle.meaning.specs.Basics.{if◌then◌otherwise◌}
use Rattle.checking.specs.Checking.{read_answer}
use Rattle.meaning.proofs.SliceLaws.{laid_front}
use Rattle.writing.proofs.Laying.{length_over}
use Rattle.excerpts.specs.Excerpts.{optional}
use Rattle.report.specs.Positions.{first, position_of, after_bytes}
use Rattle.report.specs.Reports.{failure_of, said_of}
use Rattle.console.specs.Prints.{Prints}
use Rattle.imgcheck.specs.Sizes.{input_bytes, out_bytes}
use Rattle.imgcheck.specs.Reports.{report_of, Reported}

-- a program that is too long is not looked into
too_long : (program : List ℕ) → 32768 < length program → report_of program ≡ failure_of program 73 0 first false
unfolding report_of said_of read_answer position_of after_bytes if◌then◌otherwise◌
too_long program h =
    let q : min 0 (length program) ≡ 0 = omega arith in
    rw (lt-ltb 32768 (length program) h, q, ne_eqb 0 (length program) (λ e. omega arith))

unread : (p q : List ℕ) → failure_of p 73 0 first false ≡ failure_of q 73 0 first false
unfolding failure_of optional
unread p q = refl

-- THE LAW
pub enough : (program : List ℕ) → report_of (take input_bytes program) ≡ report_of program
enough program = by (dec_le (length program) input_bytes)
  where
    by : Dec (length program ≤ input_bytes) → report_of (take input_bytes program) ≡ report_of program
    by (yes h) = rw (take_all input_bytes program h)
    by (no h) =
        let l = length-take input_bytes program in
        too_long (take input_bytes program) (omega arith) ∙ unread (take input_bytes program) program ∙ sym (too_long program (omega arith))

-- so what is said of that many bytes is the report on every input that they were read from
pub read_prints : (bytes out after : List ℕ) (n r : ℕ) → length bytes ≡ input_bytes → length out ≡ out_bytes → Reported (take n bytes) out after r
    → Prints report_of bytes n after r
read_prints bytes out after n r l o w =
    let k = w.wrote.counts in
    let same = length_over (report_of (take n bytes)) out in
    record {
      holds = λ input e.
          rw (k, w.wrote.laid) (laid_front (report_of (take n bytes)) out (omega (arith, w.short)))
          ∙ ap report_of (sym e ∙ ap (λ (m : ℕ). take m input) l)
          ∙ enough input;
      within = rw w.wrote.laid (omega (arith, w.short));
    }
