-- What the meaning says of a call of checking.
use Prim.Native.Nat.{ℕ, ◌≤◌, ◌<◌}
use mathlib.Core.Path.{◌≡◌, refl, ap, sym, ◌∙◌}
use mathlib.Core.Bool.{Bool, true, false, not, ◌&&◌}
use mathlib.Core.List.{List, []}
use mathlib.Core.Option.{Option, none, some}
use lib.ListN.{length, replicate}
use lib.Dec.{ltb}
use native.Mathlib.Omega.{arith}
use borrow.Author.Tests.{lt-ltb, le-ltb, not-true, not-false}
use Rattle.meaning.specs.Basics.{if◌then◌otherwise◌}
use Rattle.meaning.specs.Tree.{Procedure, Program}
use Rattle.meaning.specs.Grammar.{Reading, well_formed, malformed, reading}
use Rattle.meaning.specs.Run.{go_on, ◌>>=◌, give, fail, refuse}
use Rattle.meaning.specs.Procedure.{doubled}
use Rattle.meaning.specs.Program.{accepted, named_apart, understood, sized, performing, specified, empty}
use Rattle.meaning.specs.Book.{Amounts, Answer, pictured, number, book, settled, answer_to, booked}
use Rattle.meaning.specs.Call.{admitted, granted_to, run_of, answer, work_after}
use Rattle.answers.specs.declared.Answer as Declared
use Rattle.answers.specs.declared.Answer.TheVariants.{Picture, Number}
use Rattle.answers.specs.Answers.{meant}
use Rattle.lending.specs.Lending.{enough_to_read}
use Rattle.lending.proofs.Admitted.{can_read}
use Rattle.std.specs.Prelude.{Ok, Err}
use Rattle.reader.specs.declared.Program as Read
use Rattle.reader.specs.declared.Malformed.{Malformed}
use Rattle.reader.specs.Reading.{tokens_in, seen, coded_apart, coded}
use Rattle.checking.specs.Checking.{called_with, Checked, Lent, answer_apart, answer_of, read_answer}

-- ---- the first question
module _ (program g tokens code out : List ℕ) where
  asked : admitted (called_with program g tokens code out) ≡ enough_to_read g (length tokens) (length code)
  unfolding admitted enough_to_read
  asked = refl

-- ---- the answer
answer_apart_lem : (g : Amounts) (m : Program) (d : Option ℕ) → booked g ((named_apart d m >>= λ _. give accepted) empty) ≡ answer_apart d
unfolding named_apart booked book settled answer_to go_on ◌>>=◌ give fail answer_apart
answer_apart_lem g m none = refl
answer_apart_lem g m (some p) = refl

-- whatever is granted, reading takes nothing
answer_read : (g : Amounts) (r : Reading) → booked g ((understood r >>= λ _. give accepted) empty) ≡ answer_of r
unfolding understood booked book settled answer_to go_on ◌>>=◌ give fail answer_of
answer_read g (well_formed m) = answer_apart_lem g m (doubled [] m.procedures)
answer_read g (malformed n p) = refl

answer_sized : (g : Amounts) (b : Bool) (r : Reading) →
    booked g ((refuse b 73 0 >>= λ _. (understood r >>= λ _. give accepted)) empty)
    ≡ (if b then (λ _. number 73 0 0 0) otherwise λ _. answer_of r)
unfolding booked book settled answer_to go_on ◌>>=◌ give fail refuse if◌then◌otherwise◌
answer_sized g true r = refl
answer_sized g false r = answer_read g r

module _ (program g tokens code out : List ℕ) where
  run_answer : booked (granted_to (called_with program g tokens code out)) (run_of (called_with program g tokens code out)) ≡ read_answer program
  unfolding run_of specified performing sized read_answer
  run_answer = answer_sized _ (ltb 32768 (length program)) (reading program)

  -- after 71 nothing has changed
  module _ (short : enough_to_read g (length tokens) (length code) ≡ false) where
    pub refused_answer : answer (called_with program g tokens code out) ≡ number 71 0 0 0
    unfolding answer if◌then◌otherwise◌
    refused_answer = rw (asked program g tokens code out ∙ short)

    pub refused_work : (work : List ℕ) → work_after (called_with program g tokens code out) work ≡ work
    unfolding work_after if◌then◌otherwise◌
    refused_work work = rw (asked program g tokens code out ∙ short)

  -- else the program is read, and the slices are cleared at the length they had
  module _ (enough : enough_to_read g (length tokens) (length code) ≡ true) where
    pub admitted_answer : answer (called_with program g tokens code out) ≡ read_answer program
    unfolding answer if◌then◌otherwise◌
    admitted_answer = rw (asked program g tokens code out ∙ enough) run_answer

    pub cleared_work : (work after : List ℕ) (n : ℕ) → n ≡ length work → after ≡ replicate n 0 → after ≡ work_after (called_with program g tokens code out) work
    unfolding work_after if◌then◌otherwise◌
    cleared_work work after n e h = h ∙ rw (e, asked program g tokens code out ∙ enough)

pub lent : (g tokens code : List ℕ) → enough_to_read g (length tokens) (length code) ≡ true → Lent tokens code
lent g tokens code e =
    let r = can_read g (length tokens) (length code) e in
    record { tokens_long = r.tokens_long; code_long = r.code_long }

-- ---- the ways through `check`
module _ (program g tokens code : List ℕ) (ok : Bool) (e : ok ≡ enough_to_read g (length tokens) (length code)) where
  pub check_refused : not ok ≡ true → Checked program g tokens code (Number 71 0 0 0) tokens code
  unfolding meant
  check_refused t =
      let short = sym e ∙ not-true ok t in
      record {
        answered = sym (refused_answer program g tokens code [] short);
        tokens_after = sym (refused_work program g tokens code [] short tokens);
        code_after = sym (refused_work program g tokens code [] short code);
      }

  module _ (t : not ok ≡ false) where
    pub check_lent : Lent tokens code
    check_lent = lent g tokens code (sym e ∙ not-false ok t)

    pub check_read : (r : Declared.Answer) → meant r ≡ read_answer program → (tokens' code' : List ℕ) (n m : ℕ) →
        n ≡ length tokens → tokens' ≡ replicate n 0 → m ≡ length code → code' ≡ replicate m 0 → Checked program g tokens code r tokens' code'
    check_read r a tokens' code' n m k c l d =
        let enough = sym e ∙ not-false ok t in
        record {
          answered = a ∙ sym (admitted_answer program g tokens code [] enough);
          tokens_after = cleared_work program g tokens code [] enough tokens tokens' n k c;
          code_after = cleared_work program g tokens code [] enough code code' m l d;
        }

-- ---- the ways through `read_answer`
module _ (program : List ℕ) where
  pub read_long : 32768 < length program → meant (Number 73 0 0 0) ≡ read_answer program
  unfolding read_answer meant if◌then◌otherwise◌
  read_long h = rw (lt-ltb 32768 (length program) h)

  module _ (short : length program ≤ 32768) (slice : List ℕ) where
    is_read : read_answer program ≡ answer_of (reading program)
    unfolding read_answer if◌then◌otherwise◌
    is_read = rw (le-ltb 32768 (length program) short)

    module _ (p : Read.Program) where
      formed_apart : (fs : List Procedure) (o : Option ℕ) → seen (Ok p) slice ≡ coded_apart (tokens_in program) fs o → pictured 0 0 ≡ answer_apart o
      unfolding seen coded_apart answer_apart
      formed_apart fs none k = refl
      formed_apart fs (some q) k = absurd (let z : ◌≡◌ {A = ℕ} 0 1 = cc in omega arith)

      pub read_formed : seen (Ok p) slice ≡ coded (tokens_in program) (reading program) → meant (Picture 0 0) ≡ read_answer program
      unfolding meant seen coded answer_of
      read_formed h = go (reading program) h ∙ sym is_read
        where
          go : (r : Reading) → seen (Ok p) slice ≡ coded (tokens_in program) r → pictured 0 0 ≡ answer_of r
          go (well_formed q) k = formed_apart q.procedures (doubled [] q.procedures) k
          go (malformed i q) k = absurd (let z : ◌≡◌ {A = ℕ} 0 1 = cc in omega arith)

    module _ (m : Malformed) where
      malformed_apart : (fs : List Procedure) (o : Option ℕ) → seen (Err m) slice ≡ coded_apart (tokens_in program) fs o → number m.number m.place 0 0 ≡ answer_apart o
      unfolding seen coded_apart answer_apart
      malformed_apart fs none g = absurd (let z : ◌≡◌ {A = ℕ} 0 1 = cc in omega arith)
      malformed_apart fs (some q) g =
          let x : m.number ≡ 60 = cc in
          let y : m.place ≡ q = cc in
          rw (x, y)

      pub read_malformed : seen (Err m) slice ≡ coded (tokens_in program) (reading program) → meant (Number m.number m.place 0 0) ≡ read_answer program
      unfolding meant seen coded answer_of
      read_malformed h = go (reading program) h ∙ sym is_read
        where
          go : (r : Reading) → seen (Err m) slice ≡ coded (tokens_in program) r → number m.number m.place 0 0 ≡ answer_of r
          go (well_formed q) g = malformed_apart q.procedures (doubled [] q.procedures) g
          go (malformed j q) g =
              let x : m.number ≡ j = cc in
              let y : m.place ≡ q = cc in
              rw (x, y)
