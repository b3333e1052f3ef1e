-- What the fields of words hold: of token words, and of words of code.
use Prim.Native.Nat.{ℕ, zero, suc, ◌+◌, ◌-◌, ◌*◌, ◌/◌, ◌%◌, ◌≤◌, ◌<◌, min}
use native.Mathlib.Nat.{add-zero}
use native.Mathlib.Numerals.{add-one}
use native.Mathlib.Omega.{arith}
use mathlib.Core.Path.{◌≡◌, refl, sym, ap, ◌∙◌}
use mathlib.Core.Bool.{Bool, true, false, ◌&&◌, cond}
use mathlib.Core.List.{List, [], ◌∷◌, ◌++◌, append_assoc, map}
use mathlib.Core.Option.{Option, none, some}
use lib.ListN.{length, get_or, length-append, get_or-map, get_or-eq_default, length-map}
use lib.Seq.{get_or_at}
use lib.Dec.{eqb, leb}
use lib.IntN.{pos, negsuc, neg_ℤ}
use borrow.Author.Tests.{eqb-true, leb-true, leb-false, le-leb, lt-leb, lt-ltb, le-ltb}
use Rattle.meaning.specs.Basics.{bytes, same_text}
use Rattle.meaning.specs.Token.{Token, a_name, digits, a_string}
use Rattle.meaning.specs.Grammar.{after_last, kind_at, text_at, start_at, is, numeral, positive_at, negative_at, signed_at}
use Rattle.meaning.specs.Tree.{Operator, concatenate, add, subtract, multiply, divide, remainder, shift_right, shift_left, equal, unequal, greater, less, Expression, number, string}
use Rattle.meaning.specs.Tree.{nothing, truth, name, table, entry, operation, call, paren, Statement, declare, assign, update, when, while, foreach, return, block, act}
use Rattle.meaning.specs.Integer.{bits, wrap}
use Rattle.meaning.specs.Library.{Library, draw_line, draw_ellipse, draw_box, draw_text, connect_shapes, draw_text_on_shape, x_coordinate, y_coordinate, destroy_shape, clear_scene, draw_group, library_of}
use Rattle.tokens.specs.Words.{size_of, token_in}
use Rattle.names.specs.Prepared.{home, number_of, library_number, procedure_number, payload, prepared, prepared_all}
use Rattle.machine.specs.Opcodes.{word, tag_in, size_in, number_in, tag_of}
use Rattle.code.specs.Code.{slot_of, part_of, joined, code_of, code_of_statement, code_with, arguments_with, statement_with}
use Rattle.expressions.specs.Words as Words
use Rattle.reader.specs.Coded.{words_of}
use Rattle.reader.specs.Sane.{Sane}
use Rattle.reader.proofs.Homes.{both_true, home_within}

-- ---- library numbers
pub number_small : (l : Option Library) → number_of l ≤ 11
unfolding number_of
number_small (some draw_line) = omega arith
number_small (some draw_ellipse) = omega arith
number_small (some draw_box) = omega arith
number_small (some draw_text) = omega arith
number_small (some connect_shapes) = omega arith
number_small (some draw_text_on_shape) = omega arith
number_small (some x_coordinate) = omega arith
number_small (some y_coordinate) = omega arith
number_small (some destroy_shape) = omega arith
number_small (some clear_scene) = omega arith
number_small (some draw_group) = omega arith
number_small none = omega arith

pub library_small : (f : List ℕ) → library_number f ≤ 11
unfolding library_number
library_small f = number_small (library_of f)

main_small : (b : Bool) (n : ℕ) → n ≤ 11 → cond b 12 n ≤ 12
main_small true n h = omega arith
main_small false n h = omega arith

pub procedure_small : (f : List ℕ) → procedure_number f ≤ 12
unfolding procedure_number
procedure_small f = main_small (same_text f (bytes "main")) (library_number f) (library_small f)

-- a call's number
pub call_number : (f : List ℕ) (n : ℕ) → (procedure_number f + 16 * n) % 16 ≡ procedure_number f
call_number f n = omega (arith, procedure_small f)

pub call_slot : (f : List ℕ) (n : ℕ) → (procedure_number f + 16 * n) / 16 ≡ n
call_slot f n = omega (arith, procedure_small f)

-- ---- three fields in one number
first_field : (k p q : ℕ) → k < 256 → (k + 256 * p + 16777216 * q) % 256 ≡ k
first_field k p q h = omega arith

second_field : (k p q : ℕ) → k < 256 → p < 65536 → (k + 256 * p + 16777216 * q) / 256 % 65536 ≡ p
second_field k p q h h' = omega arith

third_field : (k p q : ℕ) → k < 256 → p < 65536 → (k + 256 * p + 16777216 * q) / 16777216 ≡ q
third_field k p q h h' = omega arith

low_field : (s h n : ℕ) → s < 65536 → (s + 65536 * h + 4294967296 * n) % 65536 ≡ s
low_field s h n p = omega arith

mid_field : (s h n : ℕ) → s < 65536 → h < 65536 → (s + 65536 * h + 4294967296 * n) / 65536 % 65536 ≡ h
mid_field s h n p q = omega arith

high_field : (s h n : ℕ) → s < 65536 → h < 65536 → (s + 65536 * h + 4294967296 * n) / 4294967296 ≡ n
high_field s h n p q = omega arith

-- ---- numbers
capped : (n b : ℕ) → b < 4294967295 → leb (min n 4294967295) b ≡ leb n b
capped n b h = go (leb n b) refl
  where
    go : (t : Bool) → leb n b ≡ t → leb (min n 4294967295) b ≡ t
    go true e = le-leb (min n 4294967295) b (omega (arith, leb-true))
    go false e = lt-leb (min n 4294967295) b (omega (arith, leb-false))

pub plain_bits : (n : ℕ) → n ≤ 2147483648 → bits (pos n) ≡ n
unfolding bits
plain_bits n h = omega arith

pub minus_bits : (n : ℕ) → n ≤ 2147483648 → Words.minus_bits n ≡ bits (neg_ℤ (pos n))
unfolding bits
minus_bits zero h = refl
minus_bits (suc n) h = omega arith

pub plain_wrap : (n : ℕ) → n < 2147483648 → wrap (pos n) ≡ pos n
unfolding wrap
plain_wrap n h = rw (plain_bits n (omega arith), lt-ltb n 2147483648 h)

pub minus_wrap : (n : ℕ) → n ≤ 2147483648 → wrap (neg_ℤ (pos n)) ≡ neg_ℤ (pos n)
unfolding wrap bits
minus_wrap zero h = refl
minus_wrap (suc n) h =
    let m = 4294967295 - n % 4294967296 in
    let back : 4294967296 - suc m ≡ n = omega arith in
    rw (le-ltb m 2147483648 (omega arith)) (ap negsuc back)

-- ---- token words
pub prepared_words : (program words : List ℕ) (ts : List Token) → map (token_in program) words ≡ ts → prepared_all program words ≡ words_of ts
unfolding prepared_all
prepared_words program words ts e = ap words_of e

module _ (ts : List Token) where
  pub word_at : (i : ℕ) → get_or (words_of ts) i 0 ≡ prepared ts (get_or ts i after_last)
  unfolding prepared payload size_of
  word_at i = get_or-map (prepared ts) ts i after_last

  -- behind the last token the word is 0, and with it each of its fields
  pub word_behind : (i : ℕ) → length ts ≤ i → get_or (words_of ts) i 0 ≡ 0
  word_behind i h = get_or-eq_default (words_of ts) 0 (rw (length-map ts (prepared ts)) h)

  pub token_behind : (i : ℕ) → length ts ≤ i → get_or ts i after_last ≡ after_last
  token_behind i h = get_or-eq_default ts after_last h

module _ (ts : List Token) (sane : Sane ts) where
  pub kind_at_lem : (i : ℕ) → Words.kind_at (words_of ts) i ≡ kind_at ts i
  unfolding prepared
  kind_at_lem i = ap (λ w. w % 256) (word_at ts i) ∙ first_field _ _ _ (sane.kinds i)

  pub place_at : (i : ℕ) → Words.place_at (words_of ts) i ≡ start_at ts i
  unfolding prepared
  place_at i = ap (λ w. w / 256 % 65536) (word_at ts i) ∙ second_field _ _ _ (sane.kinds i) (omega (arith, sane.places i))

  pub payload_at : (i : ℕ) → Words.payload_at (words_of ts) i ≡ payload ts (get_or ts i after_last)
  unfolding prepared
  payload_at i = ap (λ w. w / 16777216) (word_at ts i) ∙ third_field _ _ _ (sane.kinds i) (omega (arith, sane.places i))

  -- of digits
  pub value_at : (i : ℕ) → kind_at ts i ≡ digits → Words.payload_at (words_of ts) i ≡ min (numeral (text_at ts i)) 4294967295
  unfolding payload
  value_at i e = payload_at i ∙ rw e

  -- of names
  name_payload : (i : ℕ) → kind_at ts i ≡ a_name
      → Words.payload_at (words_of ts) i ≡ length (text_at ts i) + 65536 * home ts a_name (text_at ts i) + 4294967296 * procedure_number (text_at ts i)
  unfolding payload size_of
  name_payload i e = payload_at i ∙ rw (e, add-zero)

  home_small : (k : ℕ) (x : List ℕ) → home ts k x < 65536
  home_small k x = omega (arith, home_within ts k x, sane.few)

  pub name_size_at : (i : ℕ) → kind_at ts i ≡ a_name → Words.size_at (words_of ts) i ≡ length (text_at ts i)
  name_size_at i e = rw (name_payload i e) (low_field _ _ _ (omega (arith, sane.texts i)))

  pub name_home_at : (i : ℕ) → kind_at ts i ≡ a_name → Words.home_at (words_of ts) i ≡ home ts a_name (text_at ts i)
  name_home_at i e = rw (name_payload i e) (mid_field _ _ _ (omega (arith, sane.texts i)) (home_small _ _))

  pub procedure_at : (i : ℕ) → kind_at ts i ≡ a_name → Words.procedure_at (words_of ts) i ≡ procedure_number (text_at ts i)
  procedure_at i e = rw (name_payload i e) (high_field _ _ _ (omega (arith, sane.texts i)) (home_small _ _))

  pub callee_at : (i : ℕ) → kind_at ts i ≡ a_name → Words.callee_at (words_of ts) i ≡ procedure_number (text_at ts i) + 16 * home ts a_name (text_at ts i)
  callee_at i e = rw (procedure_at i e, name_home_at i e)

  -- of strings
  string_payload : (i : ℕ) → kind_at ts i ≡ a_string
      → Words.payload_at (words_of ts) i ≡ (length (text_at ts i) + 2) + 65536 * home ts a_string (text_at ts i) + 4294967296 * 0
  unfolding payload size_of
  string_payload i e = payload_at i ∙ rw (e, add-zero)

  pub string_size_at : (i : ℕ) → kind_at ts i ≡ a_string → Words.size_at (words_of ts) i ≡ length (text_at ts i) + 2
  string_size_at i e = rw (string_payload i e) (low_field _ _ 0 (omega (arith, sane.texts i)))

  pub string_home_at : (i : ℕ) → kind_at ts i ≡ a_string → Words.home_at (words_of ts) i ≡ home ts a_string (text_at ts i)
  string_home_at i e = rw (string_payload i e) (mid_field _ _ 0 (omega (arith, sane.texts i)) (home_small _ _))

  pub part_at : (i : ℕ) → kind_at ts i ≡ a_string → Words.part_at (words_of ts) i ≡ part_of ts (text_at ts i)
  part_at i e = rw (string_home_at i e, string_size_at i e, place_at) (omega arith)

  -- tests
  pub is_at : (k i : ℕ) → Words.is k (words_of ts) i ≡ is k ts i
  is_at k i = ap (λ n. eqb n k) (kind_at_lem i)

  below_at : (b : ℕ) → b < 4294967295 → (i : ℕ)
      → Words.is digits (words_of ts) i && leb (Words.payload_at (words_of ts) i) b ≡ is digits ts i && leb (numeral (text_at ts i)) b
  below_at b h i = rw (is_at digits i) (go (is digits ts i) refl)
    where
      go : (t : Bool) → is digits ts i ≡ t → t && leb (Words.payload_at (words_of ts) i) b ≡ t && leb (numeral (text_at ts i)) b
      go true e = rw (value_at i (eqb-true _ _ e)) (capped (numeral (text_at ts i)) b h)
      go false e = refl

  pub positive_at_lem : (i : ℕ) → Words.positive_at (words_of ts) i ≡ positive_at ts i
  positive_at_lem i = below_at 2147483647 (omega arith) i

  pub negative_at_lem : (i : ℕ) → Words.negative_at (words_of ts) i ≡ negative_at ts i
  negative_at_lem i = below_at 2147483648 (omega arith) i

  pub signed_at_lem : (i : ℕ) → Words.signed_at (words_of ts) i ≡ signed_at ts i
  signed_at_lem i = rw (kind_at_lem i, kind_at_lem (i + 1), place_at i, place_at (i + 1))

  -- constants
  constant_at : (b : ℕ) → b ≤ 2147483648 → (i : ℕ) → is digits ts i && leb (numeral (text_at ts i)) b ≡ true
      → (Words.payload_at (words_of ts) i ≡ numeral (text_at ts i)) × (numeral (text_at ts i) ≤ 2147483648)
  constant_at b h i e =
      let both = both_true (is digits ts i) (leb (numeral (text_at ts i)) b) e in
      let small : numeral (text_at ts i) ≤ 2147483648 = omega (arith, leb-true (numeral (text_at ts i)) b both.1) in
      (value_at i (eqb-true _ _ both.0) ∙ omega arith, small)

  pub positive_bits : (i : ℕ) → positive_at ts i ≡ true → Words.payload_at (words_of ts) i ≡ bits (pos (numeral (text_at ts i)))
  positive_bits i e =
      let c = constant_at 2147483647 (omega arith) i e in
      c.0 ∙ sym (plain_bits _ c.1)

  pub negative_bits : (i : ℕ) → negative_at ts i ≡ true
      → Words.minus_bits (Words.payload_at (words_of ts) i) ≡ bits (neg_ℤ (pos (numeral (text_at ts i))))
  negative_bits i e =
      let c = constant_at 2147483648 (omega arith) i e in
      ap Words.minus_bits c.0 ∙ minus_bits _ c.1

-- ---- words of code
-- what the fields of a word hold
pub record Told (w tag size n : ℕ) : Type 0 where
  pub tag_is : tag_in w ≡ tag
  pub size_is : size_in w ≡ size
  pub number_is : number_in w ≡ n

pub word_told : (tag size n : ℕ) → tag < 256 → size < 16777216 → Told (word tag size n) tag size n
unfolding word
word_told tag size n h h' = omega arith

-- two numbers in the number of a word: of a statement, its place and another number; of a string, where its text stands and how long it is
pub first_half : (p n : ℕ) → p < 65536 → (p + 65536 * n) % 65536 ≡ p
first_half p n h = omega arith

pub second_half : (p n : ℕ) → p < 65536 → (p + 65536 * n) / 65536 ≡ n
second_half p n h = omega arith

module _ (ts : List Token) (sane : Sane ts) (t : List ℕ) where
  pub part_start : part_of ts t % 65536 ≡ start_at ts (home ts a_string t) + 1
  part_start = first_half _ (length t) (omega (arith, sane.places (home ts a_string t)))

  pub part_length : part_of ts t / 65536 ≡ length t
  part_length = second_half (start_at ts (home ts a_string t) + 1) _ (omega (arith, sane.places (home ts a_string t)))

-- ---- the size in an expression's last word and in a statement's first
pub tag_small : (o : Operator) → tag_of o < 256
unfolding tag_of
tag_small concatenate = omega arith
tag_small add = omega arith
tag_small subtract = omega arith
tag_small multiply = omega arith
tag_small divide = omega arith
tag_small remainder = omega arith
tag_small shift_right = omega arith
tag_small shift_left = omega arith
tag_small equal = omega arith
tag_small unequal = omega arith
tag_small greater = omega arith
tag_small less = omega arith

-- code that ends in a word which holds how many words it has
pub record Rooted (c : List ℕ) : Type 0 where
  pub front : List ℕ
  pub tag : ℕ
  pub number : ℕ
  pub small : tag < 256
  pub whole : c ≡ front ++ (word tag (length c) number ∷ [])

rooted : (front : List ℕ) (tag size n : ℕ) → tag < 256 → size ≡ length front + 1 → Rooted (front ++ (word tag size n ∷ []))
rooted front tag size n h e = record { front = front; tag = tag; number = n; small = h; whole = rw (length-append, e) }

joined_rooted : (tag : ℕ) (a b : List ℕ) → tag < 256 → Rooted (joined tag a b)
joined_rooted tag a b h =
    rw (← append_assoc) (rooted (a ++ b) tag (length a + length b + 1) (length b) h (rw length-append))

-- whatever the numbers of its variables
pub code_rooted_with : (v : List ℕ → ℕ) (e : Expression) (ts : List Token) → Rooted (code_with v e ts)
unfolding code_with
code_rooted_with v (number z) ts = rooted [] _ 1 _ (omega arith) refl
code_rooted_with v (string t) ts = rooted [] _ 1 _ (omega arith) refl
code_rooted_with v nothing ts = rooted [] _ 1 _ (omega arith) refl
code_rooted_with v (truth b) ts = rooted [] _ 1 _ (omega arith) refl
code_rooted_with v (name x) ts = rooted [] _ 1 _ (omega arith) refl
code_rooted_with v (table e) ts = rooted (code_with v e ts) _ _ _ (omega arith) refl
code_rooted_with v (entry a b) ts = joined_rooted _ (code_with v a ts) (code_with v b ts) (omega arith)
code_rooted_with v (operation o a b) ts = joined_rooted _ (code_with v a ts) (code_with v b ts) (tag_small o)
code_rooted_with v (call f es) ts = rooted (arguments_with v es ts) _ _ _ (omega arith) refl
code_rooted_with v (paren e) ts = code_rooted_with v e ts

pub code_some_with : (v : List ℕ → ℕ) (e : Expression) (ts : List Token) → 0 < length (code_with v e ts)
code_some_with v e ts = let r = code_rooted_with v e ts in omega (arith, simp length-append at (ap length r.whole))

pub code_rooted : (e : Expression) (ts : List Token) → Rooted (code_of e ts)
code_rooted e ts = code_rooted_with (slot_of ts) e ts

module _ (e : Expression) (ts : List Token) where
  pub code_some : 0 < length (code_of e ts)
  code_some = code_some_with (slot_of ts) e ts

  pub root_size : length (code_of e ts) < 16777216 → size_in (get_or (code_of e ts) (length (code_of e ts) - 1) 0) ≡ length (code_of e ts)
  root_size h =
      let c = code_of e ts in
      let r = code_rooted e ts in
      let last : get_or c (length c - 1) 0 ≡ word r.tag (length c) r.number =
      ap (λ (l : List ℕ). get_or l (length c - 1) 0) r.whole
      ∙ get_or_at r.front _ [] 0 (length c - 1) (omega (arith, simp length-append at (ap length r.whole))) in
      ap size_in last ∙ (word_told r.tag (length c) r.number r.small h).size_is

-- code that begins with such a word
pub record Headed (c : List ℕ) : Type 0 where
  pub rest : List ℕ
  pub tag : ℕ
  pub number : ℕ
  pub small : tag < 256
  pub whole : c ≡ word tag (length c) number ∷ rest

has_head : (tag size n : ℕ) (rest : List ℕ) → tag < 256 → size ≡ length rest + 1 → Headed (word tag size n ∷ rest)
has_head tag size n rest h e = record { rest = rest; tag = tag; number = n; small = h; whole = rw (e, add-one) }

pub statement_headed_with : (v : List ℕ → ℕ) (s : Statement) (ts : List Token) → Headed (statement_with v s ts)
unfolding statement_with
statement_headed_with v (declare p x) ts = has_head _ _ _ _ (omega arith) refl
statement_headed_with v (assign p x e) ts = has_head _ _ _ _ (omega arith) refl
statement_headed_with v (update p a b e) ts = has_head _ _ _ _ (omega arith) refl
statement_headed_with v (when p e s) ts = has_head _ _ _ _ (omega arith) refl
statement_headed_with v (while p e s) ts = has_head _ _ _ _ (omega arith) refl
statement_headed_with v (foreach p x e s) ts = has_head _ _ _ _ (omega arith) refl
statement_headed_with v (return p e) ts = has_head _ _ _ _ (omega arith) refl
statement_headed_with v (block p ss) ts = has_head _ _ _ _ (omega arith) refl
statement_headed_with v (act p e) ts = has_head _ _ _ _ (omega arith) refl

pub statement_some_with : (v : List ℕ → ℕ) (s : Statement) (ts : List Token) → 0 < length (statement_with v s ts)
statement_some_with v s ts = let h = statement_headed_with v s ts in omega (arith, ap length h.whole)

pub statement_headed : (s : Statement) (ts : List Token) → Headed (code_of_statement s ts)
statement_headed s ts = statement_headed_with (slot_of ts) s ts

module _ (s : Statement) (ts : List Token) where
  pub statement_some : 0 < length (code_of_statement s ts)
  statement_some = statement_some_with (slot_of ts) s ts

  pub head_size : length (code_of_statement s ts) < 16777216 → size_in (get_or (code_of_statement s ts) 0 0) ≡ length (code_of_statement s ts)
  head_size small =
      let c = code_of_statement s ts in
      let h = statement_headed s ts in
      ap (λ (l : List ℕ). size_in (get_or l 0 0)) h.whole ∙ (word_told h.tag (length c) h.number h.small small).size_is
