-- The text of a tree lexes to its words.
use Prim.Native.Nat.{ℕ, suc, ◌+◌, ◌-◌}
use native.Mathlib.Omega.{arith}
use mathlib.Core.Path.{◌≡◌, refl, ap, sym, ◌∙◌, subst}
use mathlib.Core.Bool.{Bool, true, false, not, ◌&&◌, ◌||◌, cond, and-eq-true_iff}
use mathlib.Core.List.{List, [], ◌∷◌, ◌++◌}
use lib.ListN.{length, get_or, length-append}
use lib.Seq.{get_or-append-add}
use lib.IntN.{ℤ, pos, negsuc}
use lib.Dec.{eqb}
use borrow.Author.Tests.{eqb-true, not-true}
use Rattle.meaning.specs.Basics.{bytes, if◌then◌otherwise◌, stands_in, same_text}
use Rattle.meaning.specs.Byte.{is_space, is_letter, is_digit, is_name_part, is_quote, is_sign}
use Rattle.meaning.specs.Token.{found, nothing, word_kind, is_double, front}
use Rattle.meaning.specs.Grammar.{numeral, numeral_from}
use Rattle.meaning.specs.Picture.{digits_of, decimal}
use Rattle.meaning.specs.Tree.{Operator, concatenate, add, subtract, multiply, divide, remainder, shift_right, shift_left, equal, unequal, greater, less, Expression, number, string, nothing, truth}
use Rattle.meaning.specs.Tree.{name, table, entry, operation, call, paren, Arguments, no_argument, argument, Statement, declare, assign, update, when, while, foreach, return, block, act, Statements}
use Rattle.meaning.specs.Tree.{only, first, Procedure}
use Rattle.meaning.proofs.DecimalLaws.{AllDigits, digits_digits_of, numeral_digits_of, digits_of_zero}
use Rattle.canonical.specs.Text.{operator_text, is_operation, is_entry, enclosed_if, comma_separated, expression_text, argument_texts}
use Rattle.canonical.specs.Text.{apart, between, statement_text, statements_text, procedure_text, procedures_text}
use Rattle.roundtrip.proofs.Words.{Word, sign, a_word, joined, operator_kind, number_words, enclosed_words, words, argument_words}
use Rattle.roundtrip.proofs.Words.{statement_words, statements_words, name_words, procedure_words, procedures_words}
use Rattle.roundtrip.proofs.Scanning.{AllPass, Lone, not_double, scan_found}
use Rattle.roundtrip.proofs.Weights.{part_digit}
use Rattle.roundtrip.proofs.Sound.{Spelled, Named, Sound, SoundAll, SoundStatement, SoundStatements, NamedAll, SoundProcedure, SoundProcedures}
use Rattle.roundtrip.proofs.Lexes.{Lexes, lexes_append, lexes_nothing, lexes_space, lexes_then, lexes_one, lexes_word}
use Rattle.roundtrip.proofs.Lexes.{lexes_name, lexes_digits, lexes_string, lexes_sign, lexes_mark, lexes_negative}

-- all classes of bytes at once
unfoldable pub classes : Unit {0}
unfolding is_space is_letter is_digit is_name_part is_quote is_sign stands_in
classes = tt

-- r goes on behind a name or digits
abbrev pub Stops : List ℕ → Type 0
Stops r = is_name_part (get_or r 0 0) ≡ false

-- the last byte
abbrev pub last_of : List ℕ → ℕ
last_of t = get_or t (length t - 1) 0

-- no two letters or digits meet where r stands behind t
pub record Parts (t r : List ℕ) : Type 0 where
  pub so : is_name_part (last_of t) ≡ true → Stops r

pub stopped : {t r : List ℕ} → Stops r → Parts t r
stopped s = record { so = λ _. s }

-- no sign of two bytes ends with the first byte
abbrev pub BeginsSo : List ℕ → Type 0
BeginsSo [] = ⊥
BeginsSo (c ∷ t) = (eqb 43 c ≡ false) × (eqb 62 c ≡ false) × (eqb 60 c ≡ false) × (eqb 61 c ≡ false)

pub record Begins (t : List ℕ) : Type 0 where
  pub so : BeginsSo t

-- with more behind
pub begins_append : (t r : List ℕ) → Begins t → Begins (t ++ r)
begins_append [] r h = absurd h.so
begins_append (c ∷ t) r h = record { so = h.so }

-- a first byte that passes a test which the four signs fail
begins_by : (f : ℕ → Bool) (t : List ℕ) → f (get_or t 0 0) ≡ true → f 0 ≡ false → f 43 ≡ false → f 62 ≡ false → f 60 ≡ false → f 61 ≡ false → Begins t
begins_by f [] e z p q s u = let w : ◌≡◌ {A = Bool} true false = cc in let v : ◌≡◌ {A = ℕ} 0 1 = cc in absurd (omega arith)
begins_by f (c ∷ t) e z p q s u = record { so = (other 43 p, other 62 q, other 60 s, other 61 u) }
  where
    other : (d : ℕ) → f d ≡ false → eqb d c ≡ false
    other d k = by (eqb d c) refl
      where
        by : (t : Bool) → eqb d c ≡ t → t ≡ false
        by true w = let v : f d ≡ f c = ap f (eqb-true d c w) in cc
        by false w = refl

-- ---- digits
-- each byte a digit
all_digits : (ds : List ℕ) → AllDigits ds → AllPass is_digit ds
all_digits [] h = tt
all_digits (d ∷ ds) h = (h.0, all_digits ds h.1)

-- no number has no digits
pub first_digit : (n : ℕ) → is_digit (get_or (digits_of n) 0 0) ≡ true
unfolding numeral_from
first_digit n = by (digits_of n) refl (digits_digits_of n)
  where
    by : (ds : List ℕ) → digits_of n ≡ ds → AllDigits ds → is_digit (get_or ds 0 0) ≡ true
    by [] e h =
        let z : n ≡ 0 = sym (numeral_digits_of n) ∙ ap numeral e in
        let y : digits_of 0 ≡ [] = ap digits_of (sym z) ∙ e in
        let x : ◌≡◌ {A = ℕ} 1 0 = ap length (sym digits_of_zero ∙ y) in
        absurd (omega arith)
    by (d ∷ ds) e h = h.0

-- ---- signs
-- a sign of one byte, which begins no other
unfoldable pub lone_sign : ℕ → Bool
lone_sign b = not (is_space b) && not (is_letter b) && not (is_digit b) && not (is_quote b) && is_sign b && not (eqb b 33)

-- such a byte by the test
pub lone : (b : ℕ) → lone_sign b ≡ true → Lone b
unfolding lone_sign
lone b e =
    let f = (and-eq-true_iff (not (is_space b) && not (is_letter b) && not (is_digit b) && not (is_quote b) && is_sign b) (not (eqb b 33))).0 e in
    let d = (and-eq-true_iff (not (is_space b) && not (is_letter b) && not (is_digit b) && not (is_quote b)) (is_sign b)).0 f.0 in
    let c = (and-eq-true_iff (not (is_space b) && not (is_letter b) && not (is_digit b)) (not (is_quote b))).0 d.0 in
    let h = (and-eq-true_iff (not (is_space b) && not (is_letter b)) (not (is_digit b))).0 c.0 in
    let a = (and-eq-true_iff (not (is_space b)) (not (is_letter b))).0 h.0 in
    record {
      space = not-true (is_space b) a.0;
      letter = not-true (is_letter b) a.1;
      digit = not-true (is_digit b) h.1;
      quote = not-true (is_quote b) c.1;
      sign = d.1;
      bang = not-true (eqb b 33) f.1;
    }

-- all at once
unfoldable pub signs : Unit {0}
unfolding classes lone_sign
signs = tt

-- a sign that begins no other
mark : (b : ℕ) (r : List ℕ) → lone_sign b ≡ true → stands_in b (bytes "+><=") ≡ false → Lexes (sign b) (b ∷ []) r
mark b r e k = lexes_mark b r (lone b e) k

-- the sign of an assignment
lexes_becomes : (r : List ℕ) → Begins r → Lexes (sign 61) (61 ∷ []) r
unfolding signs
lexes_becomes [] h = absurd h.so
lexes_becomes (c ∷ r) h = lexes_sign 61 (c ∷ r) (lone 61 refl) (not_double 61 c h.so.3 refl)

-- a sign of two bytes
pair : (b c : ℕ) (r : List ℕ) (k : ℕ) → is_space b ≡ false → front (b ∷ c ∷ r) ≡ found k 2 (b ∷ c ∷ []) → Lexes (a_word k (b ∷ c ∷ [])) (b ∷ c ∷ []) r
pair b c r k s e = lexes_one λ p. scan_found b (c ∷ []) r p k 2 (b ∷ c ∷ []) s e refl

-- an operator
lexes_operator : (o : Operator) (r : List ℕ) → Begins r → Lexes (a_word (operator_kind o) (operator_text o)) (operator_text o) r
unfolding signs front if◌then◌otherwise◌ is_double operator_kind operator_text
lexes_operator o [] h = absurd h.so
lexes_operator concatenate (c ∷ r) h = pair 43 43 (c ∷ r) _ refl refl
lexes_operator add (c ∷ r) h = lexes_sign 43 (c ∷ r) (lone 43 refl) (not_double 43 c h.so.0 refl)
lexes_operator subtract (c ∷ r) h = mark 45 (c ∷ r) refl refl
lexes_operator multiply (c ∷ r) h = mark 42 (c ∷ r) refl refl
lexes_operator divide (c ∷ r) h = mark 47 (c ∷ r) refl refl
lexes_operator remainder (c ∷ r) h = mark 37 (c ∷ r) refl refl
lexes_operator shift_right (c ∷ r) h = pair 62 62 (c ∷ r) _ refl refl
lexes_operator shift_left (c ∷ r) h = pair 60 60 (c ∷ r) _ refl refl
lexes_operator equal (c ∷ r) h = pair 61 61 (c ∷ r) _ refl refl
lexes_operator unequal (c ∷ r) h = pair 33 61 (c ∷ r) _ refl refl
lexes_operator greater (c ∷ r) h = lexes_sign 62 (c ∷ r) (lone 62 refl) (not_double 62 c h.so.1 refl)
lexes_operator less (c ∷ r) h = lexes_sign 60 (c ∷ r) (lone 60 refl) (not_double 60 c h.so.2 refl)

-- an operator ends a name
operator_stops : (o : Operator) (r : List ℕ) → Stops (operator_text o ++ r)
unfolding signs operator_text
operator_stops concatenate r = refl
operator_stops add r = refl
operator_stops subtract r = refl
operator_stops multiply r = refl
operator_stops divide r = refl
operator_stops remainder r = refl
operator_stops shift_right r = refl
operator_stops shift_left r = refl
operator_stops equal r = refl
operator_stops unequal r = refl
operator_stops greater r = refl
operator_stops less r = refl

-- ---- how texts begin
begins_enclosed : (b : Bool) (t : List ℕ) → Begins t → Begins (enclosed_if b t)
unfolding enclosed_if
begins_enclosed true t h = record { so = (refl, refl, refl, refl) }
begins_enclosed false t h = h

-- a constant
begins_digits : (n : ℕ) → Begins (digits_of n)
unfolding signs
begins_digits n = begins_by is_digit (digits_of n) (first_digit n) refl refl refl refl refl

begins_decimal : (z : ℤ) → Begins (decimal z)
unfolding decimal
begins_decimal (pos n) = begins_digits n
begins_decimal (negsuc n) = record { so = (refl, refl, refl, refl) }

-- a word
begins_spelled : (x : List ℕ) → Spelled x → Begins x
unfolding signs
begins_spelled x h = begins_by is_letter x h.letter refl refl refl refl refl

-- an expression
pub begins_expression : (e : Expression) → Sound e → Begins (expression_text e)
unfolding expression_text Sound
begins_expression (number z) h = begins_decimal z
begins_expression (string t) h = record { so = (refl, refl, refl, refl) }
begins_expression nothing h = record { so = (refl, refl, refl, refl) }
begins_expression (truth true) h = record { so = (refl, refl, refl, refl) }
begins_expression (truth false) h = record { so = (refl, refl, refl, refl) }
begins_expression (name x) h = begins_spelled x h.spelled
begins_expression (table e) h = record { so = (refl, refl, refl, refl) }
begins_expression (entry a b) h =
    begins_append _ _ (begins_append _ _ (begins_enclosed (is_operation a || is_entry a) (expression_text a) (begins_expression a h.0)))
begins_expression (operation o a b) h =
    begins_append _ _ (begins_append _ _ (begins_enclosed (is_operation a) (expression_text a) (begins_expression a h.0)))
begins_expression (call f es) h = begins_append _ _ (begins_append _ _ (begins_append _ _ (begins_spelled f h.0.spelled)))
begins_expression (paren e) h = begins_expression e h

-- ---- how texts end
-- behind another text
pub last_behind : (t : List ℕ) (c : ℕ) (u : List ℕ) → last_of (t ++ c ∷ u) ≡ last_of (c ∷ u)
last_behind t c u =
    let n : length (t ++ c ∷ u) - 1 ≡ length t + (length (c ∷ u) - 1) = omega (arith, length-append t (c ∷ u)) in
    ap (λ (m : ℕ). get_or (t ++ c ∷ u) m 0) n ∙ get_or-append-add t (c ∷ u) (length (c ∷ u) - 1) 0

last_append : (t u : List ℕ) → Begins u → last_of (t ++ u) ≡ last_of u
last_append t [] b = absurd b.so
last_append t (c ∷ u) b = last_behind t c u

parts_append : (t u r : List ℕ) → Begins u → Parts (t ++ u) r → Parts u r
parts_append t u r b h = record { so = λ k. h.so (ap is_name_part (last_append t u b) ∙ k) }

-- a text whose bytes all pass a test
last_passes : (f : ℕ → Bool) (t : List ℕ) → Begins t → AllPass f t → f (last_of t) ≡ true
last_passes f [] b h = absurd b.so
last_passes f (c ∷ t) b h = by c t h
  where
    by : (c : ℕ) (t : List ℕ) → AllPass f (c ∷ t) → f (last_of (c ∷ t)) ≡ true
    by c [] h = h.0
    by c (d ∷ t) h = ap f (last_behind (c ∷ []) d t) ∙ by d t h.1

-- a word
pub last_spelled : (x : List ℕ) → Spelled x → is_name_part (last_of x) ≡ true
last_spelled x h = last_passes is_name_part x (begins_spelled x h) h.parts

-- a constant
last_digits : (n : ℕ) → is_name_part (last_of (digits_of n)) ≡ true
last_digits n = part_digit (last_of (digits_of n)) (last_passes is_digit (digits_of n) (begins_digits n) (all_digits (digits_of n) (digits_digits_of n)))

pub last_decimal : (z : ℤ) → is_name_part (last_of (decimal z)) ≡ true
unfolding decimal
last_decimal (pos n) = last_digits n
last_decimal (negsuc n) = ap is_name_part (last_append (45 ∷ []) (digits_of (suc n)) (begins_digits (suc n))) ∙ last_digits (suc n)

-- ---- expressions
-- in parentheses or not
lexes_enclosed : (b : Bool) {ws : List Word} {t r : List ℕ} → Parts (enclosed_if b t) r → ((r : List ℕ) → Parts t r → Lexes ws t r) → Lexes (enclosed_words b ws) (enclosed_if b t) r
unfolding enclosed_words enclosed_if signs
lexes_enclosed true {ws} {t} {r} s h = lexes_append (lexes_append (mark 40 (t ++ 41 ∷ r) refl refl) (h (41 ∷ r) (stopped refl))) (mark 41 r refl refl)
lexes_enclosed false {ws} {t} {r} s h = h r s

-- a constant
lexes_decimal : (z : ℤ) (r : List ℕ) → Stops r → Lexes (number_words z) (decimal z) r
unfolding number_words decimal
lexes_decimal (pos n) r s = lexes_digits (digits_of n) r (first_digit n) (all_digits (digits_of n) (digits_digits_of n)) s
lexes_decimal (negsuc n) r s = lexes_negative (digits_of (suc n)) r (first_digit (suc n)) (all_digits (digits_of (suc n)) (digits_digits_of (suc n))) s

-- a reserved word
reserved : (k : ℕ) (x r : List ℕ) → word_kind x ≡ k → is_letter (get_or x 0 0) ≡ true → AllPass is_name_part x → Stops r → Lexes (a_word k x) x r
reserved k x r e l p s = subst (λ (n : ℕ). Lexes (a_word n x) x r) e (lexes_word x r (record { letter = l; parts = p }) s)

-- texts with commas between
abbrev LexesAll : List (List Word) → List (List ℕ) → Type 0
LexesAll [] [] = Unit {0}
LexesAll [] (t ∷ ts) = ⊥
LexesAll (w ∷ ws) [] = ⊥
LexesAll (w ∷ ws) (t ∷ ts) = ((r : List ℕ) → Stops r → Lexes w t r) × LexesAll ws ts

-- with commas between
lexes_commas : (ws : List (List Word)) (ts : List (List ℕ)) (r : List ℕ) → Stops r → LexesAll ws ts → Lexes (joined ws) (comma_separated ts) r
unfolding joined comma_separated signs
lexes_commas [] [] r s h = lexes_nothing
lexes_commas [] (t ∷ ts) r s h = absurd h
lexes_commas (w ∷ ws) [] r s h = absurd h
lexes_commas (w ∷ []) (t ∷ []) r s h = h.0 r s
lexes_commas (w ∷ v ∷ ws) (t ∷ []) r s h = absurd h.1
lexes_commas (w ∷ []) (t ∷ u ∷ ts) r s h = absurd h.1
lexes_commas (w ∷ v ∷ ws) (t ∷ u ∷ ts) r s h =
    lexes_append (lexes_append (h.0 (44 ∷ (comma_separated (u ∷ ts) ++ r)) refl) (mark 44 (comma_separated (u ∷ ts) ++ r) refl refl))
    (lexes_commas (v ∷ ws) (u ∷ ts) r s h.1)

mutual
  unfolding words expression_text Sound signs word_kind same_text

  pub lexes_expression : (e : Expression) → Sound e → (r : List ℕ) → Parts (expression_text e) r → Lexes (words e) (expression_text e) r
  lexes_expression (number z) h r s = lexes_decimal z r (s.so (last_decimal z))
  lexes_expression (string t) h r s = lexes_string t r h
  lexes_expression nothing h r s = reserved 9 (bytes "none") r refl refl (refl, (refl, (refl, (refl, tt)))) (s.so refl)
  lexes_expression (truth true) h r s = reserved 10 (bytes "true") r refl refl (refl, (refl, (refl, (refl, tt)))) (s.so refl)
  lexes_expression (truth false) h r s = reserved 11 (bytes "false") r refl refl (refl, (refl, (refl, (refl, (refl, tt))))) (s.so refl)
  lexes_expression (name x) h r s = lexes_name x r h (s.so (last_spelled x h.spelled))
  lexes_expression (table e) h r s =
      lexes_append (lexes_append (mark 91 (expression_text e ++ 93 ∷ r) refl refl) (lexes_expression e h (93 ∷ r) (stopped refl))) (mark 93 r refl refl)
  lexes_expression (entry a b) h r s =
      let t = enclosed_if (is_operation a || is_entry a) (expression_text a) in
      let u = enclosed_if (is_operation b || is_entry b) (expression_text b) in
      let k = begins_enclosed (is_operation b || is_entry b) (expression_text b) (begins_expression b h.1) in
      lexes_append (lexes_append (lexes_enclosed (is_operation a || is_entry a) (stopped refl) (λ q k. lexes_expression a h.0 q k)) (mark 46 (u ++ r) refl refl))
      (lexes_enclosed (is_operation b || is_entry b) (parts_append (t ++ bytes ".") u r k s) (λ q k. lexes_expression b h.1 q k))
  lexes_expression (operation o a b) h r s =
      let t = enclosed_if (is_operation a) (expression_text a) in
      let u = enclosed_if (is_operation b) (expression_text b) in
      let k = begins_enclosed (is_operation b) (expression_text b) (begins_expression b h.1) in
      lexes_append (lexes_append (lexes_enclosed (is_operation a) (stopped (operator_stops o (u ++ r))) (λ q k. lexes_expression a h.0 q k))
      (lexes_operator o (u ++ r) (begins_append _ r k)))
      (lexes_enclosed (is_operation b) (parts_append (t ++ operator_text o) u r k s) (λ q k. lexes_expression b h.1 q k))
  lexes_expression (call f es) h r s =
      lexes_append (lexes_append (lexes_append (lexes_name f (40 ∷ (comma_separated (argument_texts es) ++ 41 ∷ r)) h.0 refl)
      (mark 40 (comma_separated (argument_texts es) ++ 41 ∷ r) refl refl))
      (lexes_commas (argument_words es) (argument_texts es) (41 ∷ r) refl (lexes_arguments es h.1))) (mark 41 r refl refl)
  lexes_expression (paren e) h r s = lexes_expression e h r s

  lexes_arguments : (es : Arguments) → SoundAll es → LexesAll (argument_words es) (argument_texts es)
  lexes_arguments no_argument h = tt
  lexes_arguments (argument e es) h = (λ r s. lexes_expression e h.0 r (stopped s), lexes_arguments es h.1)

-- ---- statements
-- behind a word
apart_stops : (t r : List ℕ) → Begins t → Stops (apart t ++ r)
unfolding apart signs
apart_stops [] r h = absurd h.so
apart_stops (c ∷ t) r h = by (is_name_part c) refl
  where
    by : (b : Bool) → is_name_part c ≡ b → Stops (cond b (32 ∷ c ∷ t) (c ∷ t) ++ r)
    by true e = refl
    by false e = e

-- a space before a word or not
lexes_apart : {ws : List Word} {t r : List ℕ} → Lexes ws t r → Lexes ws (apart t) r
unfolding apart signs
lexes_apart {ws} {t} {r} h = by (is_name_part (get_or t 0 0))
  where
    by : (b : Bool) → Lexes ws (cond b (32 ∷ t) t) r
    by true = lexes_append (lexes_space 32 (t ++ r) refl) h
    by false = h

-- a space behind a word or not
abbrev spaced : List ℕ → List ℕ
spaced t = cond (is_name_part (last_of t)) (t ++ 32 ∷ []) t

begins_spaced : (t : List ℕ) → Begins t → Begins (spaced t)
begins_spaced t h = by (is_name_part (last_of t))
  where
    by : (b : Bool) → Begins (cond b (t ++ 32 ∷ []) t)
    by true = begins_append t (32 ∷ []) h
    by false = h

lexes_spaced : {ws : List Word} {t r : List ℕ} → ((r : List ℕ) → Parts t r → Lexes ws t r) → Lexes ws (spaced t) r
unfolding signs
lexes_spaced {ws} {t} {r} h = by (is_name_part (last_of t)) refl
  where
    by : (b : Bool) → is_name_part (last_of t) ≡ b → Lexes ws (cond b (t ++ 32 ∷ []) t) r
    by true e = lexes_then (h (32 ∷ r) (stopped refl)) (lexes_space 32 r refl)
    by false e = h r (record { so = λ k. let w : ◌≡◌ {A = Bool} true false = cc in let v : ◌≡◌ {A = ℕ} 0 1 = cc in absurd (omega arith) })

-- a sign and a linefeed
mark_line : (b : ℕ) (r : List ℕ) → lone_sign b ≡ true → stands_in b (bytes "+><=") ≡ false → Lexes (sign b) (b ∷ 10 ∷ []) r
unfolding is_space
mark_line b r e k = lexes_then (mark b (10 ∷ r) e k) (lexes_space 10 r refl)

-- if or while, and what it tests
lexes_guard : (k : ℕ) (w : List ℕ) {t r : List ℕ} {vs : List Word} → ((r : List ℕ) → Stops r → Lexes (a_word k w) w r) →
    (Lexes vs t (41 ∷ 10 ∷ r)) → Lexes (a_word k w ++ sign 40 ++ vs ++ sign 41) ((w ++ 40 ∷ []) ++ t ++ 41 ∷ 10 ∷ []) r
unfolding signs
lexes_guard k w {t} {r} {vs} h e =
    lexes_append (lexes_append (lexes_append (h (40 ∷ (t ++ 41 ∷ 10 ∷ r)) refl) (mark 40 (t ++ 41 ∷ 10 ∷ r) refl refl)) e) (mark_line 41 r refl refl)

-- foreach, and what it goes through
lexes_foreach : (x : List ℕ) (e : Expression) (r : List ℕ) → Named x → Sound e →
    Lexes (a_word 12 (bytes "foreach") ++ a_word 1 x ++ a_word 13 (bytes "in") ++ words e ++ a_word 14 (bytes "do"))
    (bytes "foreach" ++ apart x ++ bytes " in" ++ between (expression_text e) ++ bytes "do\n") r
unfolding signs word_kind same_text between
lexes_foreach x e r h k =
    let t = expression_text e in
    let u = spaced t in
    let p : List ℕ = bytes "do\n" ++ r in
    let q : List ℕ = bytes " in" ++ (apart u ++ p) in
    lexes_append (lexes_append (lexes_append (lexes_append
    (reserved 12 (bytes "foreach") (apart x ++ q) refl refl (refl, (refl, (refl, (refl, (refl, (refl, (refl, tt))))))) (apart_stops x q (begins_spelled x h.spelled)))
    (lexes_apart (lexes_name x q h refl)))
    (lexes_append (lexes_space 32 (bytes "in" ++ (apart u ++ p)) refl)
    (reserved 13 (bytes "in") (apart u ++ p) refl refl (refl, (refl, tt)) (apart_stops u p (begins_spaced t (begins_expression e k))))))
    (lexes_apart (lexes_spaced (λ r s. lexes_expression e k r s))))
    (lexes_then (reserved 14 (bytes "do") (10 ∷ r) refl refl (refl, (refl, tt)) refl) (lexes_space 10 r refl))

mutual
  unfolding statement_words statement_text SoundStatement words expression_text Sound signs word_kind same_text

  pub lexes_statement : (s : Statement) → SoundStatement s → (r : List ℕ) → Lexes (statement_words s) (statement_text s) r
  lexes_statement (declare p x) h r =
      lexes_append (lexes_append (reserved 5 (bytes "var") (apart x ++ 59 ∷ r) refl refl (refl, (refl, (refl, tt))) (apart_stops x (59 ∷ r) (begins_spelled x h.spelled)))
      (lexes_apart (lexes_name x (59 ∷ r) h refl))) (mark 59 r refl refl)
  lexes_statement (assign p x e) h r =
      lexes_append (lexes_append (lexes_append (lexes_name x (61 ∷ (expression_text e ++ 59 ∷ r)) h.0 refl)
      (lexes_becomes (expression_text e ++ 59 ∷ r) (begins_append _ (59 ∷ r) (begins_expression e h.1)))) (lexes_expression e h.1 (59 ∷ r) (stopped refl))) (mark 59 r refl refl)
  lexes_statement (update p a b e) h r =
      lexes_append (lexes_append (lexes_append (lexes_expression (entry a b) (h.0, h.1) (61 ∷ (expression_text e ++ 59 ∷ r)) (stopped refl))
      (lexes_becomes (expression_text e ++ 59 ∷ r) (begins_append _ (59 ∷ r) (begins_expression e h.2)))) (lexes_expression e h.2 (59 ∷ r) (stopped refl))) (mark 59 r refl refl)
  lexes_statement (when p e s) h r =
      lexes_append (lexes_guard 6 (bytes "if") (λ q. reserved 6 (bytes "if") q refl refl (refl, (refl, tt))) (lexes_expression e h.0 (41 ∷ 10 ∷ (statement_text s ++ r)) (stopped refl)))
      (lexes_statement s h.1 r)
  lexes_statement (while p e s) h r =
      lexes_append (lexes_guard 7 (bytes "while") (λ q. reserved 7 (bytes "while") q refl refl (refl, (refl, (refl, (refl, (refl, tt))))))
      (lexes_expression e h.0 (41 ∷ 10 ∷ (statement_text s ++ r)) (stopped refl)))
      (lexes_statement s h.1 r)
  lexes_statement (foreach p x e s) h r = lexes_append (lexes_foreach x e (statement_text s ++ r) h.0 h.1) (lexes_statement s h.2 r)
  lexes_statement (return p e) h r =
      lexes_append (lexes_append (reserved 8 (bytes "return") (apart (expression_text e) ++ 59 ∷ r) refl refl (refl, (refl, (refl, (refl, (refl, (refl, tt))))))
      (apart_stops (expression_text e) (59 ∷ r) (begins_expression e h)))
      (lexes_apart (lexes_expression e h (59 ∷ r) (stopped refl)))) (mark 59 r refl refl)
  lexes_statement (block p ss) h r =
      lexes_append (lexes_append (mark_line 123 (statements_text ss ++ 10 ∷ 125 ∷ r) refl refl) (lexes_statements ss h (10 ∷ 125 ∷ r)))
      (lexes_append (lexes_space 10 (125 ∷ r) refl) (mark 125 r refl refl))
  lexes_statement (act p e) h r = lexes_append (lexes_expression e h (59 ∷ r) (stopped refl)) (mark 59 r refl refl)

  pub lexes_statements : (ss : Statements) → SoundStatements ss → (r : List ℕ) → Lexes (statements_words ss) (statements_text ss) r
  lexes_statements (only s) h r = lexes_statement s h r
  lexes_statements (first s ss) h r =
      lexes_append (lexes_then (lexes_statement s h.0 (10 ∷ (statements_text ss ++ r))) (lexes_space 10 (statements_text ss ++ r) refl)) (lexes_statements ss h.1 r)

-- ---- the program
-- parameters
lexes_names : (xs : List (List ℕ)) → NamedAll xs → LexesAll (name_words xs) xs
unfolding name_words NamedAll
lexes_names [] h = tt
lexes_names (x ∷ xs) h = (λ r s. lexes_name x r h.0 s, lexes_names xs h.1)

-- a procedure
lexes_procedure : (f : Procedure) → SoundProcedure f → (r : List ℕ) → Lexes (procedure_words f) (procedure_text f) r
unfolding procedure_words procedure_text signs word_kind same_text
lexes_procedure f h r =
    let b = statements_text f.body in
    let c = comma_separated f.parameters in
    lexes_append (lexes_append (lexes_append (lexes_append (lexes_append (lexes_append
    (reserved 4 (bytes "def") (apart f.name ++ 40 ∷ (c ++ 41 ∷ 123 ∷ 10 ∷ (b ++ 10 ∷ 125 ∷ r))) refl refl (refl, (refl, (refl, tt)))
    (apart_stops f.name (40 ∷ (c ++ 41 ∷ 123 ∷ 10 ∷ (b ++ 10 ∷ 125 ∷ r))) (begins_spelled f.name h.name.spelled)))
    (lexes_apart (lexes_name f.name (40 ∷ (c ++ 41 ∷ 123 ∷ 10 ∷ (b ++ 10 ∷ 125 ∷ r))) h.name refl)))
    (mark 40 (c ++ 41 ∷ 123 ∷ 10 ∷ (b ++ 10 ∷ 125 ∷ r)) refl refl))
    (lexes_commas (name_words f.parameters) f.parameters (41 ∷ 123 ∷ 10 ∷ (b ++ 10 ∷ 125 ∷ r)) refl (lexes_names f.parameters h.parameters)))
    (lexes_append (mark 41 (123 ∷ 10 ∷ (b ++ 10 ∷ 125 ∷ r)) refl refl) (mark_line 123 (b ++ 10 ∷ 125 ∷ r) refl refl)))
    (lexes_statements f.body h.body (10 ∷ 125 ∷ r)))
    (lexes_append (lexes_space 10 (125 ∷ r) refl) (mark 125 r refl refl))

-- THE TEXT OF PROCEDURES LEXES TO THEIR WORDS
pub lexes_procedures : (fs : List Procedure) → SoundProcedures fs → (r : List ℕ) → Lexes (procedures_words fs) (procedures_text fs) r
unfolding procedures_words procedures_text SoundProcedures is_space
lexes_procedures [] h r = lexes_nothing
lexes_procedures (f ∷ fs) h r =
    lexes_append (lexes_then (lexes_procedure f h.0 (10 ∷ (procedures_text fs ++ r))) (lexes_space 10 (procedures_text fs ++ r) refl)) (lexes_procedures fs h.1 r)
