-- What is written from a program's code and tokens is its text.
use Prim.Native.Nat.{ℕ, ◌≤◌}
use native.Mathlib.Nat.{zero-add}
use native.Mathlib.Omega.{arith}
use mathlib.Core.Path.{◌≡◌, ◌∙◌}
use mathlib.Core.List.{List}
use lib.ListN.{length, take, length-map}
use Rattle.meaning.specs.Tree.{Program}
use Rattle.meaning.specs.Grammar.{reading}
use Rattle.canonical.specs.Text.{program_text}
use Rattle.canonical.specs.Call.{text_read, text}
use Rattle.std.specs.Prelude.{Ok}
use Rattle.reader.specs.declared.Program as Declared
use Rattle.reader.specs.Coded.{words_of}
use Rattle.reader.specs.Reading.{tokens_in, seen, coded, Kept}
use Rattle.reader.proofs.Lexing.{lexed_sane}
use Rattle.reader.proofs.Trees.{procedures_understood}
use Rattle.reader.proofs.Whole.{Whole, whole}
use Rattle.phrases.specs.Raw.{source}
use Rattle.formatter.specs.Raw.{enough_fuel, raw_text}
use Rattle.faithful.proofs.Tokens.{parted}
use Rattle.faithful.proofs.Procedures.{own, procedures_say}

-- of a program that was read
whole_says : (program code : List ℕ) (d : ℕ) (m : Program) → length program ≤ 32768 → Whole program code d m
    → raw_text (source program (words_of (tokens_in program)) code) ≡ program_text m
unfolding raw_text program_text
whole_says program code d m short w =
    let ts = tokens_in program in
    let r = w.read in
    let u = procedures_understood ts m r.behind r.tree in
    procedures_say program code ts r.tokens (lexed_sane program ts short r.tokens r.few) enough_fuel (omega arith) (omega arith)
    m.procedures u.each w.different u.short w.stands w.table (parted ts m r.behind r.tree) (own m.procedures w.different)
    (length (words_of ts)) (zero-add (length (words_of ts)) ∙ length-map ts _)

-- ---- behind `reader::read`
module _ (program words code : List ℕ) (short : length program ≤ 32768) (r : Declared.Program) (left : seen (Ok r) code ≡ coded (tokens_in program) (reading program))
    (kept : Kept (Ok r) (tokens_in program) words) where
  so : (m : Program) × Whole program code r.main m
  so = whole program code r left

  -- there are at most 8,192 tokens
  pub tokens_counted : r.tokens ≤ 8192
  unfolding Kept
  tokens_counted = omega (arith, kept.0, so.1.read.few)

  -- WHAT IS WRITTEN IS THE TEXT
  pub faithful : raw_text (source program (take r.tokens words) code) ≡ text program
  unfolding Kept text_read
  faithful =
      let w = so.1 in
      rw (kept.1, w.read.is) (whole_says program code r.main so.0 short w)
