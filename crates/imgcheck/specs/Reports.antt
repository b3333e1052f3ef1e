-- What `imgcheck` prints about a program.
use Rattle.std.specs.Prelude.{ℕ, ◌≤◌, List}
use Rattle.writing.specs.Placed.{Wrote}
use Rattle.checking.specs.Checking.{read_answer}
use Rattle.report.specs.Reports.{said_of}
use Rattle.imgcheck.specs.Sizes.{out_bytes}

-- ALL THAT IS PRINTED for a program
unfoldable pub report_of : List ℕ → List ℕ
report_of program = said_of program (read_answer program)

-- it was written to the front of a slice; the array that is printed from is long enough for any
pub record Reported (program before after : List ℕ) (size : ℕ) : Type 0 where
  pub wrote : Wrote (report_of program) before after size
  pub short : size ≤ out_bytes
