-- The ways through reading: what the lexer, the names and the grammar leave is what the meaning reads.
use Prim.Native.Nat.{ℕ, zero, suc, ◌+◌, ◌-◌, ◌≤◌, ◌<◌}
use mathlib.Core.Path.{◌≡◌, refl, ap, sym, ◌∙◌}
use mathlib.Core.List.{List, [], ◌∷◌, ◌++◌, map}
use native.Mathlib.Omega.{arith}
use native.Mathlib.Nat.{not-suc-le-zero, le_of_suc-le-suc, sub-zero}
use lib.ListN.{length, get_or, take, drop, replicate, length-map, length-take, length-drop, length-replicate}
use lib.Seq.{length-take-le, take-length, take-append-le, get_or-take, get_or-drop, ext_get_or}
use borrow.Author.Tests.{lt-ltb, le-ltb}
use Rattle.expressions.specs.declared.Misfit as Expressions
use Rattle.meaning.specs.Basics.{if◌then◌otherwise◌, laid_over}
use Rattle.meaning.specs.Token.{Token, Lexed, lexed, stray, tokens_of}
use Rattle.meaning.specs.Grammar.{start_at, procedures, place_of, read_of, parsed, reading}
use Rattle.tokens.specs.Words.{word_of, place_in, token_in}
use Rattle.std.specs.declared.result.Result.{Result}
use Rattle.std.specs.declared.result.Result.TheVariants.{Ok, Err}
use Rattle.lexer.specs.declared.Stray.{Stray}
use Rattle.lexer.specs.Lexing.{laid_tokens}
use Rattle.lexer.specs.Lexing as Lexing
use Rattle.lexer.proofs.Decode.{held, words_decode, word_decodes}
use Rattle.names.specs.Prepared.{prepared_all}
use Rattle.names.specs.Index.{Room}
use Rattle.definitions.specs.declared.Parsed.{Parsed}
use Rattle.definitions.specs.declared.Unread.{Unread}
use Rattle.definitions.specs.declared.Unread.TheVariants.{Twice, Misfit}
use Rattle.definitions.specs.Words.{nothing, table_in, seen_whole, written_whole}
use Rattle.definitions.specs.Words as Definitions
use Rattle.definitions.specs.Room.{Halves}
use Rattle.reader.specs.declared.Program.{Program}
use Rattle.reader.specs.declared.Malformed.{Malformed}
use Rattle.reader.specs.Coded.{words_of}
use Rattle.reader.specs.Reading.{Lent, Worded, tokens_among, tokens_in, Seen, refused, seen, coded, Kept, place_among}
use Rattle.reader.specs.Sane.{Sane}
use Rattle.reader.proofs.Fields.{prepared_words, place_at}
use Rattle.reader.proofs.Statements.{procedures_law}
use Rattle.reader.proofs.Gathered.{zero_at, to_seen, whole_law}
use Rattle.reader.proofs.Lexing.{lexed_sane}

-- an answer is what the meaning reads
pub record Reads (program : List ℕ) (r : Result Program Malformed) (code : List ℕ) : Type 0 where
  pub is : seen r code ≡ coded (tokens_in program) (reading program)

-- what `read` and `parse` leave
abbrev pub Left : List ℕ → Result Program Malformed → List ℕ → List ℕ → Type 0
Left program r words code = (seen r code ≡ coded (tokens_in program) (reading program)) × Kept r (tokens_in program) words

-- ---- tokens
stray_lexed : (program before slice : List ℕ) (p : ℕ) → Lexing.seen (Err (record { place = p })) slice ≡ laid_tokens (tokens_of program) before → tokens_of program ≡ stray p
unfolding Lexing.seen laid_tokens
stray_lexed program before slice p h = go (tokens_of program) refl
  where
    go : (r : Lexed) → tokens_of program ≡ r → tokens_of program ≡ stray p
    go (lexed ts) e = absurd (let q : Lexing.seen (Err (record { place = p })) slice ≡ laid_tokens (lexed ts) before = h ∙ ap (λ (x : Lexed). laid_tokens x before) e in
        let z : ◌≡◌ {A = ℕ} 0 1 = cc in omega arith)
    go (stray q) e =
        let k : Lexing.seen (Err (record { place = p })) slice ≡ laid_tokens (stray q) before = h ∙ ap (λ (x : Lexed). laid_tokens x before) e in
        let z : q ≡ p = cc in e ∙ ap stray z

-- a byte at which no token begins
pub stray_read : (program before slice code : List ℕ) (p : ℕ) → Lexing.seen (Err (record { place = p })) slice ≡ laid_tokens (tokens_of program) before →
    Reads program (Err (record { number = 10; place = p })) code
unfolding seen coded reading parsed
stray_read program before slice code p h = record { is = rw (stray_lexed program before slice p h) }

laid_at : (xs d : List ℕ) (i : ℕ) → i < length xs → i < length d → get_or (laid_over xs d) i 0 ≡ get_or xs i 0
unfolding laid_over
laid_at [] d i h k = absurd (not-suc-le-zero h)
laid_at (x ∷ xs) [] i h k = absurd (not-suc-le-zero k)
laid_at (x ∷ xs) (y ∷ d) zero h k = refl
laid_at (x ∷ xs) (y ∷ d) (suc i) h k = laid_at xs d i (le_of_suc-le-suc h) (le_of_suc-le-suc k)

-- more than 8,192 tokens
pub record Many (program slice : List ℕ) (n : ℕ) : Type 0 where
  pub tokens : List Token
  pub are : tokens_of program ≡ lexed tokens
  pub count : length tokens ≡ n
  pub place : place_in (get_or slice 8192 0) ≡ start_at tokens 8192

many : (program before slice : List ℕ) (n : ℕ) → length program ≤ 32768 → 8193 ≤ length before → 8192 < n →
    Lexing.seen (Ok n) slice ≡ laid_tokens (tokens_of program) before → Many program slice n
unfolding Lexing.seen laid_tokens token_in
many program before slice n l b m h = go (tokens_of program) refl
  where
    go : (r : Lexed) → tokens_of program ≡ r → Many program slice n
    go (stray q) e = absurd (let k : Lexing.seen (Ok n) slice ≡ laid_tokens (stray q) before = h ∙ ap (λ (x : Lexed). laid_tokens x before) e in
        let z : ◌≡◌ {A = ℕ} 0 1 = cc in omega arith)
    go (lexed ts) e =
        let q : Lexing.seen (Ok n) slice ≡ laid_tokens (lexed ts) before = h ∙ ap (λ (x : Lexed). laid_tokens x before) e in
        let c : n ≡ length ts = cc in
        let s : slice ≡ laid_over (map word_of ts) before = cc in
        let g : get_or slice 8192 0 ≡ get_or (map word_of ts) 8192 0 = rw s (laid_at (map word_of ts) before 8192 (rw length-map (omega arith)) (omega arith)) in
        record { tokens = ts; are = e; count = sym c; place = ap place_in g ∙ ap (λ (t : Token). t.place) (word_decodes program ts l e 8192) }

pub many_read : (program before slice code : List ℕ) (n : ℕ) → Lent program before code → 8192 < n →
    Lexing.seen (Ok n) slice ≡ laid_tokens (tokens_of program) before → Reads program (Err (record { number = 74; place = place_in (get_or slice 8192 0) })) code
unfolding seen coded reading parsed if◌then◌otherwise◌
many_read program before slice code n l m h =
    let k = many program before slice n l.short l.tokens_long m h in
    record { is = rw (k.are, k.place, lt-ltb 8192 (length k.tokens) (omega (arith, k.count))) }

-- at most 8,192 tokens
pub few_worded : (program before slice code : List ℕ) (n : ℕ) → Lent program before code → n ≤ 8192 →
    Lexing.seen (Ok n) slice ≡ laid_tokens (tokens_of program) before → Worded program (take n slice) code
few_worded program before slice code n l m h =
    let k = held program before slice n h (omega (arith, l.tokens_long)) in
    record { short = l.short; tokens = k.tokens; are = k.are; worded = k.words; few = omega (arith, k.count); code_long = l.code_long }

-- the upper half of a cleared slice
cleared : (n : ℕ) → 16384 ≤ n → table_in (replicate n 0) ≡ replicate 8192 0
cleared n h =
    let xs : List ℕ = replicate n 0 in
    let d : length (drop 8192 xs) ≡ n - 8192 = length-drop 8192 xs ∙ ap (λ m. m - 8192) (length-replicate {A = ℕ} n 0) in
    let l : length (table_in xs) ≡ 8192 = length-take-le 8192 (drop 8192 xs) (omega arith) in
    ext_get_or 0 (table_in xs) (replicate 8192 0) (l ∙ sym (length-replicate {A = ℕ} 8192 0)) λ i m.
    get_or-take 8192 (drop 8192 xs) i 0 (omega arith) ∙ get_or-drop 8192 xs i 0 ∙ zero_at n (8192 + i) ∙ sym (zero_at 8192 i)

-- ---- the grammar
module _ (program words code : List ℕ) (w : Worded program words code) where
  abbrev ts : List Token
  ts = w.tokens

  sane : Sane ts
  sane = lexed_sane program ts w.short w.are w.few

  prepared : prepared_all program words ≡ words_of ts
  prepared = prepared_words program words ts (ap (map (token_in program)) w.worded ∙ words_decode program ts w.short w.are)

  read_so : reading program ≡ read_of program ts (procedures ts)
  unfolding reading parsed if◌then◌otherwise◌
  read_so = rw (w.are, le-ltb 8192 (length ts) w.few)

  places : (i : ℕ) → place_among (words_of ts) i (length program) ≡ place_of program ts i
  unfolding place_among place_of
  places i = rw (length-map, place_at ts sane i)

  among : tokens_in program ≡ ts
  unfolding tokens_among
  among = rw w.are

  ways : to_seen ts program w.few (written_whole (length ts) nothing (Definitions.procedures (words_of ts))) ≡ coded (tokens_in program) (reading program)
  ways =
      ap (λ g. to_seen ts program w.few (written_whole (length ts) nothing g)) (procedures_law ts sane)
      ∙ whole_law ts program w.few ∙ ap (coded ts) (sym read_so) ∙ ap (λ (xs : List Token). coded xs (reading program)) (sym among)

-- ---- the ways through `parse`
module _ (program words code : List ℕ) (w : Worded program words code) where
  module _ (ws blank : List ℕ) (given : ws ≡ prepared_all program words) (zeros : blank ≡ replicate (length code) 0) where
    -- the table is cleared
    pub clear : table_in blank ≡ replicate 8192 0
    clear = rw zeros (cleared (length code) w.code_long)

    given_words : ws ≡ words_of w.tokens
    given_words = given ∙ prepared program words code w

    -- they are the words of the program's tokens
    given_kept : (length ws ≡ length (tokens_in program)) × (take (length ws) ws ≡ words_of (tokens_in program))
    given_kept =
        let so : ws ≡ words_of (tokens_in program) = given_words ∙ ap words_of (sym (among program words code w)) in
        (ap (λ (xs : List ℕ). length xs) so ∙ length-map (tokens_in program) _, take-length ws ∙ so)

    module _ (r : Result Parsed Unread) (slice : List ℕ) (h : seen_whole r slice ≡ written_whole (length ws) nothing (Definitions.procedures ws)) where
      answer : (a : Seen) → to_seen w.tokens program w.few (seen_whole r slice) ≡ a → a ≡ coded (tokens_in program) (reading program)
      answer a e =
          let l : length ws ≡ length w.tokens = rw (given_words, length-map) in
          sym e ∙ ap (to_seen w.tokens program w.few) (h ∙ rw (l, given_words)) ∙ ways program words code w

      pub parse_formed : (p : Parsed) → r ≡ Ok p → Left program (Ok (record { main = p.main; words = p.words; tokens = length ws })) ws slice
      unfolding to_seen seen_whole seen Kept
      parse_formed p e = (answer _ (rw e), given_kept)

      pub parse_twice : (p : ℕ) → r ≡ Err (Twice p) → Left program (Err (record { number = 60; place = p })) ws slice
      unfolding to_seen seen_whole seen Kept
      parse_twice p e = (answer _ (rw e), tt)

      pub parse_misfit : (m : Expressions.Misfit) (q : ℕ) → r ≡ Err (Misfit m) → q ≡ place_among ws m.token (length program) → Left program (Err (record { number = m.number; place = q })) ws slice
      unfolding to_seen seen_whole seen Kept
      parse_misfit m q e p =
          (answer _ (rw e (ap (refused m.number) (sym (p ∙ ap (λ (xs : List ℕ). place_among xs m.token (length program)) given_words ∙ places program words code w m.token)))), tt)

-- ---- the ways through `read`
module _ (program before code : List ℕ) (l : Lent program before code) (r : Result ℕ Stray) (slice : List ℕ)
    (h : Lexing.seen r slice ≡ laid_tokens (tokens_of program) before) where
  pub read_stray : (e : Stray) → r ≡ Err e → (words last : List ℕ) → Left program (Err (record { number = 10; place = e.place })) words last
  unfolding Kept
  read_stray e q words last = ((stray_read program before slice last e.place (ap (λ (x : Result ℕ Stray). Lexing.seen x slice) (sym q) ∙ h)).is, tt)

  pub read_many : (n : ℕ) → r ≡ Ok n → 8192 < n → (q : ℕ) → q ≡ place_in (get_or slice 8192 0) → (words last : List ℕ) →
      Left program (Err (record { number = 74; place = q })) words last
  unfolding seen Kept
  read_many n e m q p words last =
      (ap (refused 74) p ∙ (many_read program before slice code n l m (ap (λ (x : Result ℕ Stray). Lexing.seen x slice) (sym e) ∙ h)).is, tt)

  pub read_few : (n : ℕ) → r ≡ Ok n → n ≤ 8192 → Worded program (take (n - 0) slice) code
  read_few n e m = simp sub-zero (few_worded program before slice code n l m (ap (λ (x : Result ℕ Stray). Lexing.seen x slice) (sym e) ∙ h))

-- what stands behind the tokens' words does not matter
kept_before : (r : Result Program Malformed) (us : List Token) (front back : List ℕ) → Kept r us front → Kept r us (front ++ back)
unfolding Kept
kept_before (Ok p) us front back h =
    let l : length (take p.tokens front) ≡ length us = ap (λ (xs : List ℕ). length xs) h.1 ∙ length-map us _ in
    (h.0, take-append-le p.tokens front back (omega (arith, h.0, sym (length-take p.tokens front) ∙ l)) ∙ h.1)
kept_before (Err m) us front back h = tt

pub read_parsed : (program : List ℕ) (r : Result Program Malformed) (front back code : List ℕ) → Left program r front code → Left program r (front ++ back) code
read_parsed program r front back code h = (h.0, kept_before r (tokens_in program) front back h.1)
