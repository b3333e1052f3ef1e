-- What the meaning says of a call that asks for a text, and the ways through the functions here.
use Prim.Native.Nat.{ℕ, ◌≤◌, ◌<◌, ◌^◌}
use mathlib.Core.Path.{◌≡◌, refl, ap, sym, ◌∙◌}
use mathlib.Core.Bool.{Bool, true, false, not}
use mathlib.Core.List.{List, [], ◌∷◌, ◌++◌}
use lib.ListN.{length, take, drop, replicate}
use native.Mathlib.Omega.{arith}
use borrow.Author.Tests.{le-leb, lt-leb, not-true, not-false}
use Rattle.meaning.specs.Basics.{if◌then◌otherwise◌, laid_over}
use Rattle.meaning.specs.Grammar.{reading}
use Rattle.meaning.specs.Book.{Answer, pictured, number}
use Rattle.meaning.specs.Call.{answer}
use Rattle.canonical.specs.Call.{text, fits, answer_with, text_answer, out_with, text_out}
use Rattle.answers.specs.declared.Answer as Answered
use Rattle.answers.specs.declared.Answer.TheVariants.{Picture, Number}
use Rattle.answers.specs.Answers.{meant}
use Rattle.lending.specs.Lending.{enough_to_read}
use Rattle.writing.specs.Placed.{laid_at, saturated, WroteAt}
use Rattle.checking.specs.Checking.{called_with, Lent, read_answer}
use Rattle.checking.proofs.Answered.{refused_answer, refused_work, admitted_answer, cleared_work, lent, read_long, read_formed, read_malformed}
use Rattle.std.specs.Prelude.{Ok, Err}
use Rattle.reader.specs.declared.Program as Declared
use Rattle.reader.specs.declared.Malformed.{Malformed}
use Rattle.reader.specs.Reading.{tokens_in, seen, coded, Kept}
use Rattle.reader.proofs.Whole.{whole}
use Rattle.phrases.specs.Raw.{source}
use Rattle.formatter.specs.Raw.{raw_text}
use Rattle.faithful.proofs.Faithful.{tokens_counted, faithful}
use Rattle.formatting.specs.Formatting.{Formatted, Written, Fitted}
use Rattle.formatting.proofs.Bounded.{text_bounded}

-- what is laid into nothing leaves nothing
laid_nowhere : (t : List ℕ) → laid_at 0 t [] ≡ []
unfolding laid_at laid_over
laid_nowhere [] = refl
laid_nowhere (x ∷ t) = refl

-- ---- the ways through `format`
pub format_lent : (g tokens code : List ℕ) (ok : Bool) → ok ≡ enough_to_read g (length tokens) (length code) → not ok ≡ false → Lent tokens code
format_lent g tokens code ok e t = lent g tokens code (sym e ∙ not-false ok t)

module _ (program g tokens code out : List ℕ) (ok : Bool) (e : ok ≡ enough_to_read g (length tokens) (length code)) where
  pub format_refused : not ok ≡ true → Formatted (called_with program g tokens code out) (Number 71 0 0 0) tokens code tokens code out
  unfolding meant text_answer answer_with text_out out_with
  format_refused t =
      let short = sym e ∙ not-true ok t in
      let a = refused_answer program g tokens code out short in
      record {
        answered = rw a;
        tokens_after = sym (refused_work program g tokens code out short tokens);
        code_after = sym (refused_work program g tokens code out short code);
        out_after = rw a;
      }

  module _ (t : not ok ≡ false) where
    pub format_read : (r : Answered.Answer) (out' : List ℕ) → Written program out r out' → (tokens' code' : List ℕ) (n m : ℕ) →
        n ≡ length tokens → tokens' ≡ replicate n 0 → m ≡ length code → code' ≡ replicate m 0 →
        Formatted (called_with program g tokens code out) r tokens code tokens' code' out'
    unfolding text_answer text_out
    format_read r out' w tokens' code' n m k c l d =
        let enough = sym e ∙ not-false ok t in
        let a = admitted_answer program g tokens code out enough in
        record {
          answered = rw a w.answered;
          tokens_after = cleared_work program g tokens code out enough tokens tokens' n k c;
          code_after = cleared_work program g tokens code out enough code code' m l d;
          out_after = rw a w.out_after;
        }

-- ---- the ways through `write_read`
module _ (program out : List ℕ) where
  -- a number writes nothing
  pub number_written : (k p : ℕ) → meant (Number k p 0 0) ≡ read_answer program → Written program out (Number k p 0 0) out
  unfolding meant answer_with out_with
  number_written k p e = record { answered = rw (sym e); out_after = rw (sym e) }

  -- a program that was read has its text
  pub text_written : (t : List ℕ) (r : Answered.Answer) (out' : List ℕ) → meant (Picture 0 0) ≡ read_answer program → t ≡ text program → Fitted t out r out' →
      Written program out r out'
  unfolding meant
  text_written t r out' e s f = record { answered = rw (sym e, sym s) f.answered; out_after = rw (sym e, sym s) f.out_after }

-- behind `reader::read`
module _ (program words code : List ℕ) (short : length program ≤ 32768) (p : Declared.Program) (left : seen (Ok p) code ≡ coded (tokens_in program) (reading program))
    (kept : Kept (Ok p) (tokens_in program) words) where
  pub tokens_within : 8193 ≤ length words → p.tokens ≤ length words
  tokens_within h = omega (arith, tokens_counted program words code short p left kept)

  pub raw_bounded : length (raw_text (source program (take p.tokens words) code)) < 2 ^ 64
  raw_bounded =
      let w = whole program code p left in
      rw (faithful program words code short p left kept) (text_bounded program w.0 short w.1.read)

  pub formed_written : (out : List ℕ) (r : Answered.Answer) (out' : List ℕ) → Fitted (raw_text (source program (take p.tokens words) code)) out r out' → Written program out r out'
  formed_written out r out' f = text_written program out _ r out' (read_formed program short code p left) (faithful program words code short p left kept) f

pub malformed_written : (program out code : List ℕ) → length program ≤ 32768 → (m : Malformed) → seen (Err m) code ≡ coded (tokens_in program) (reading program)
    → Written program out (Number m.number m.place 0 0) out
malformed_written program out code short m left = number_written program out m.number m.place (read_malformed program short code m left)

pub long_written : (program out : List ℕ) → 32768 < length program → Written program out (Number 73 0 0 0) out
long_written program out h = number_written program out 73 0 (read_long program h)

-- ---- the ways through `write_fitting`
-- The text t was written into an out slice of length 0, which stays empty and tells how long it is; `last ++ out` is then the out slice itself.
module _ (t out last : List ℕ) (short : length t < 2 ^ 64) (n : ℕ) (w : WroteAt 0 t [] last n) where
  counted : n ≡ length t
  unfolding saturated
  counted = w.ends ∙ omega (arith, short)

  kept : last ++ out ≡ out
  kept = ap (λ (xs : List ℕ). xs ++ out) (w.laid ∙ laid_nowhere t)

  pub text_too_long : 32768 < n → Fitted t out (Number 82 0 0 n) (last ++ out)
  unfolding meant answer_with out_with fits if◌then◌otherwise◌
  text_too_long h =
      let k : 32768 < length t = omega (arith, counted) in
      record { answered = rw (lt-leb (length t) 32768 k, counted); out_after = rw (lt-leb (length t) 32768 k) kept }

  module _ (h : n ≤ 32768) where
    few : length t ≤ 32768
    few = omega (arith, counted)

    pub out_too_short : length (last ++ out) < n → Fitted t out (Number 82 0 0 n) (last ++ out)
    unfolding meant answer_with out_with fits if◌then◌otherwise◌
    out_too_short l =
        let k : length out < length t = omega (arith, counted, ap (λ (xs : List ℕ). length xs) kept) in
        record {
          answered = rw (le-leb (length t) 32768 few, lt-leb (length t) (length out) k, counted);
          out_after = rw (le-leb (length t) 32768 few, lt-leb (length t) (length out) k) kept;
        }

    pub text_fits : n ≤ length (last ++ out) → (out' : List ℕ) (m : ℕ) → WroteAt 0 t (last ++ out) out' m → Fitted t out (Picture n 0) out'
    unfolding meant answer_with out_with fits laid_at if◌then◌otherwise◌
    text_fits l out' m v =
        let k : length t ≤ length out = omega (arith, counted, ap (λ (xs : List ℕ). length xs) kept) in
        record {
          answered = rw (le-leb (length t) 32768 few, le-leb (length t) (length out) k, counted);
          out_after = rw (le-leb (length t) 32768 few, le-leb (length t) (length out) k) (v.laid ∙ ap (laid_at 0 t) kept);
        }
