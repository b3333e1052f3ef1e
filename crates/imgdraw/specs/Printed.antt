-- What `imgdraw` prints.
use Rattle.std.specs.Prelude.{ℕ, List, ℤ, Option, Some, None, drop, replicate}
use Rattle.meaning.specs.Call.{Call, needed, answer, out_after}
use Rattle.meaning.specs.Program.{drawing}
use Rattle.sheet.specs.declared.line.Sheet.{Sheet}
use Rattle.sheet.specs.Lines.{sheet_of}
use Rattle.sheet.specs.Errors.{error_line}
use Rattle.sheet.specs.Shown.{shown_text}
use Rattle.imgdraw.specs.Sizes.{granted, out_bytes}

-- the call of drawing: document 01's grants, and work slices that are just long enough for them
abbrev pub call_of : List ℕ → ℤ → ℤ → List ℕ → Call
call_of program w h out = record {
  operation = drawing;
  program = program;
  width = w;
  height = h;
  grants = granted;
  lent = needed drawing granted;
  out = out;
}

unfoldable pub drawn_text : Call → List ℕ
drawn_text c = shown_text (answer c) (out_after c)

unfoldable pub printed_on : List ℕ → List ℕ → Option Sheet → List ℕ
printed_on input out (Some s) = drawn_text (call_of (drop s.line_length input) s.width s.height out)
printed_on input out None = error_line 72 0

-- all that is printed for an input, with a given out slice
unfoldable pub printed_of : List ℕ → List ℕ → List ℕ
printed_of input out = printed_on input out (sheet_of input)

-- ALL THAT IS PRINTED for an input
unfoldable pub printed : List ℕ → List ℕ
printed input = printed_of input (replicate out_bytes 0)
