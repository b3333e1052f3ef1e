-- One law for each way through each function on procedures.
-- Assumes nothing.
use Prim.Native.Nat.{ℕ, suc, ◌+◌, ◌-◌, ◌^◌, ◌≤◌, ◌<◌, min}
use mathlib.Core.Path.{◌≡◌, ◌∙◌, sym}
use mathlib.Core.List.{List, [], ◌++◌, map}
use native.Mathlib.Decide.{dec_lt}
use native.Mathlib.Numerals.{add-one}
use native.Mathlib.Omega.{arith}
use borrow.Author.Tests.{ne_eqb}
use lib.ListN.{length, get_or, take, drop, length-drop, drop_of_length-le}
use lib.Seq.{take_all, take-nil}
use Rattle.meaning.specs.Basics.{bytes, if◌then◌otherwise◌}
use Rattle.meaning.specs.Token.{word_def}
use Rattle.canonical.specs.Text.{comma_separated}
use Rattle.machine.specs.Opcodes.{table_place, start_in, parameters_in, body_in}
use Rattle.expressions.specs.Words.{home_at}
use Rattle.tokens.specs.Words as Tokens
use Rattle.writing.specs.Placed.{WroteAt}
use Rattle.spellings.specs.Spelling.{name_text}
use Rattle.phrases.specs.Raw.{source, word_at, spelling}
use Rattle.formatter.specs.Raw.{raw_statement, raw_statements, parameter_names, procedure_by, procedure_text, raw_procedures, enough_fuel, raw_text}
use Rattle.spellings.proofs.Chains.{nothing, then_three, then_five, Writing, begin, goes_on, ends}

-- ---- a part whose ends are clipped is what `take` and `drop` leave
take_least : (n : ℕ) (l : List ℕ) → take (min n (length l)) l ≡ take n l
take_least n l = by (dec_lt n (length l))
  where
    by : Dec (n < length l) → take (min n (length l)) l ≡ take n l
    by (yes h) = let q : min n (length l) ≡ n = omega arith in rw q
    by (no h) = take_all (min n (length l)) l (omega arith) ∙ sym (take_all n l (omega arith))

module _ (s : List ℕ) (start count : ℕ) where
  empty : min (start + count) (length s) ≤ start → take count (drop start s) ≡ []
  empty h = by (dec_lt start (length s))
    where
      by : Dec (start < length s) → take count (drop start s) ≡ []
      by (yes l) = let q : count ≡ 0 = omega arith in rw q
      by (no l) = rw (drop_of_length-le s {i = start} (omega arith)) (take-nil count)

  pub clipped : (e b : ℕ) → e ≡ min (start + count) (length s) → b ≡ min start e → take (e - b) (drop b s) ≡ take count (drop start s)
  clipped e b he hb = by (dec_lt start e)
    where
      by : Dec (start < e) → take (e - b) (drop b s) ≡ take count (drop start s)
      by (yes l) =
          let q : b ≡ start = omega arith in
          let m : e - start ≡ min count (length (drop start s)) = omega (arith, length-drop start s) in
          rw (q, m) (take_least count (drop start s))
      by (no l) =
          let m : e - b ≡ 0 = omega arith in
          rw m (sym (empty (omega arith)))

-- ---- a procedure
module _ (program tokens code : List ℕ) {at r : ℕ} {d : List ℕ} where
  pub head_written : (slot w start count : ℕ) (slots : List ℕ) {m n o q : ℕ} {e f g i k : List ℕ} → length d < 2 ^ 64
      → start ≡ start_in w → count ≡ parameters_in w → slots ≡ take count (drop start code)
      → WroteAt at (bytes "def ") d e m → WroteAt m (name_text program tokens slot) e f n → WroteAt n (bytes "(") f g o
      → WroteAt o (comma_separated (map (name_text program tokens) slots)) g i q → WroteAt q (bytes "){\n") i k r
      → WroteAt at (bytes "def " ++ spelling (source program tokens code) slot ++ bytes "("
      ++ comma_separated (parameter_names (source program tokens code) (start_in w) (parameters_in w)) ++ bytes "){\n") d k r
  unfolding parameter_names
  head_written slot w start count slots h a b c p q s t u = rw (← a, ← b, ← c) (then_five h p q s t u)

  pub procedure_written : (slot place w start count size : ℕ) {m n : ℕ} {e f g : List ℕ} → length d < 2 ^ 64
      → place ≡ table_place slot → w ≡ get_or code place 0 → start ≡ start_in w → count ≡ parameters_in w → size ≡ body_in w
      → WroteAt at (bytes "def " ++ spelling (source program tokens code) slot ++ bytes "("
      ++ comma_separated (parameter_names (source program tokens code) (start_in w) (parameters_in w)) ++ bytes "){\n") d e m
      → WroteAt m (raw_statements (size + 1) (raw_statement enough_fuel (source program tokens code)) (source program tokens code) (start + count) (start + count + size)) e f n
      → WroteAt n (bytes "}\n") f g r
      → WroteAt at (procedure_by enough_fuel (source program tokens code) slot (word_at (source program tokens code) (table_place slot))) d g r
  unfolding procedure_by
  procedure_written slot place w start count size h a b i j k p q s = rw (← a, ← b) (then_three h p (rw (add-one size, i, j, k) at q) s)

-- ---- a token
module _ (program tokens code : List ℕ) (i w kind : ℕ) (a : w ≡ get_or tokens i 0) (b : kind ≡ Tokens.kind_in w) {at : ℕ} {d : List ℕ} where
  pub begins_nothing : (kind ≡ word_def → ⊥) → at < 2 ^ 64 → WroteAt at (procedure_text enough_fuel (source program tokens code) i) d d at
  unfolding procedure_text if◌then◌otherwise◌
  begins_nothing n h = rw (← a, ← b, ne_eqb _ _ n) (nothing h)

  pub begins_procedure : (slot : ℕ) {r : ℕ} {e : List ℕ} → kind ≡ word_def → slot ≡ home_at tokens (i + 1)
      → WroteAt at (procedure_by enough_fuel (source program tokens code) slot (word_at (source program tokens code) (table_place slot))) d e r
      → WroteAt at (procedure_text enough_fuel (source program tokens code) i) d e r
  unfolding procedure_text if◌then◌otherwise◌
  begins_procedure slot n s p = rw (← a, ← b, n, ← s) p

-- ---- the text
-- the procedures that begin at token i or behind it are left
pub record Going (program tokens code : List ℕ) (before now : List ℕ) (at i : ℕ) : Type 0 where
  pub short : length before < 2 ^ 64
  pub upto : i ≤ length tokens
  pub writing : Writing 0 (raw_text (source program tokens code)) (raw_procedures enough_fuel (length tokens - i) (source program tokens code) i) before now at

module _ (program tokens code : List ℕ) {before : List ℕ} where
  pub text_first : length before < 2 ^ 64 → Going program tokens code before before 0 0
  unfolding raw_text
  text_first h = record { short = h; upto = omega arith; writing = let q : length tokens - 0 ≡ length tokens = omega arith in rw q (begin _ (omega arith)) }

  module _ (i : ℕ) {at : ℕ} {now : List ℕ} (g : Going program tokens code before now at i) where
    one_token : i < length tokens
        → raw_procedures enough_fuel (length tokens - i) (source program tokens code) i
        ≡ procedure_text enough_fuel (source program tokens code) i ++ raw_procedures enough_fuel (length tokens - (i + 1)) (source program tokens code) (i + 1)
    unfolding raw_procedures
    one_token l = let q : length tokens - i ≡ suc (length tokens - (i + 1)) = omega arith in rw q

    pub text_next : {next : ℕ} {after : List ℕ} → i < length tokens → WroteAt at (procedure_text enough_fuel (source program tokens code) i) now after next
        → Going program tokens code before after next (i + 1)
    text_next l p = record { short = g.short; upto = omega arith; writing = goes_on _ _ g.short g.writing (one_token l) p }

    no_token : length tokens ≤ i → raw_procedures enough_fuel (length tokens - i) (source program tokens code) i ≡ []
    unfolding raw_procedures
    no_token l = let q : length tokens - i ≡ 0 = omega arith in rw q

    pub text_end : length tokens ≤ i → WroteAt 0 (raw_text (source program tokens code)) before now at
    text_end l = ends g.writing (no_token l)
