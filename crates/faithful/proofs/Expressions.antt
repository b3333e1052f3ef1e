-- What is written from the code of an expression is its text.
use Prim.Native.Nat.{ℕ, zero, suc, ◌+◌, ◌-◌, ◌*◌, ◌/◌, ◌%◌, ◌≤◌, ◌<◌}
use native.Mathlib.Omega.{arith}
use mathlib.Core.Path.{◌≡◌, refl, ap, sym, ◌∙◌, subst}
use mathlib.Core.Bool.{Bool, true, false, ◌||◌}
use mathlib.Core.List.{List, [], ◌∷◌, ◌++◌, append-nil, append_assoc}
use lib.ListN.{length, get_or, length-append}
use lib.IntN.{ℤ}
use lib.Dec.{eqb, leb}
use borrow.Author.Tests.{lt-ltb, le-ltb, ne_eqb, le-leb}
use Rattle.meaning.specs.Basics.{bytes, if◌then◌otherwise◌}
use Rattle.meaning.specs.Byte.{is_name_part}
use Rattle.meaning.specs.Token.{Token, a_name, a_string}
use Rattle.meaning.specs.Tree.{Operator, concatenate, add, subtract, multiply, divide, remainder, shift_right, shift_left, equal, unequal, greater, less}
use Rattle.meaning.specs.Tree.{Expression, number, string, nothing, truth, name, table, entry, operation, call, paren, Arguments, no_argument, argument}
use Rattle.meaning.specs.Integer.{bits, wrap}
use Rattle.meaning.specs.Picture.{decimal}
use Rattle.canonical.specs.Text.{comma_separated, operator_text, is_operation, is_entry, enclosed_if, expression_text, argument_texts}
use Rattle.canonical.specs.Text as Text
use Rattle.roundtrip.proofs.LexesTree.{last_of}
use Rattle.machine.specs.Opcodes.{word, tag_in, size_in, number_in, argument_root, callee_in, tag_number, tag_string, tag_none}
use Rattle.machine.specs.Opcodes.{tag_truth, tag_name, tag_table, tag_entry, tag_call, tag_argument, first_operator, tag_of}
use Rattle.names.specs.Prepared.{procedure_number}
use Rattle.code.specs.Code.{slot_of, part_of, joined, code_of, code_of_all, arguments_with, code_with}
use Rattle.reader.proofs.Homes.{Occurs}
use Rattle.reader.proofs.Known.{Known, KnownAll}
use Rattle.reader.proofs.Fields.{word_told, call_slot, tag_small, code_some}
use Rattle.reader.proofs.Walk.{Stands, Ends, ends_word, ends_front, ends_start, ends_joined, stands_argument}
use Rattle.spellings.specs.Spelling.{part, leaf_text, sign_text, encloses}
use Rattle.phrases.specs.Raw.{Source, Writer, spelling, part_text, pair_text, argument_after, arguments_text, call_text, expression_by, raw_expression}
use Rattle.phrases.proofs.Expressions.{operator_in_entry, entry_in_entry}

-- slots and words spell the names and strings of some tokens
pub record Spells (s : Source) (ts : List Token) : Type 0 where
  pub names : (x : List ℕ) → Occurs ts a_name x → spelling s (slot_of ts x) ≡ x
  pub strings : (t : List ℕ) → Occurs ts a_string t → part s.program (part_of ts t % 65536) (part_of ts t / 65536) ≡ t
  pub apart : (x : List ℕ) → Occurs ts a_name x → Text.apart x ≡ bytes " " ++ x
  pub last : (x : List ℕ) → Occurs ts a_name x → is_name_part (last_of x) ≡ true

-- ---- tags
-- the tag of an expression's last word
unfoldable pub root_tag : Expression → ℕ
root_tag (number z) = tag_number
root_tag (string t) = tag_string
root_tag nothing = tag_none
root_tag (truth b) = tag_truth
root_tag (name x) = tag_name
root_tag (table e) = tag_table
root_tag (entry a b) = tag_entry
root_tag (operation o a b) = tag_of o
root_tag (call f es) = tag_call
root_tag (paren e) = root_tag e

pub tag_large : (o : Operator) → 16 ≤ tag_of o
unfolding tag_of
tag_large concatenate = omega arith
tag_large add = omega arith
tag_large subtract = omega arith
tag_large multiply = omega arith
tag_large divide = omega arith
tag_large remainder = omega arith
tag_large shift_right = omega arith
tag_large shift_left = omega arith
tag_large equal = omega arith
tag_large unequal = omega arith
tag_large greater = omega arith
tag_large less = omega arith

sign_operator : (o : Operator) → sign_text (tag_of o) ≡ operator_text o
unfolding sign_text tag_of operator_text if◌then◌otherwise◌
sign_operator concatenate = refl
sign_operator add = refl
sign_operator subtract = refl
sign_operator multiply = refl
sign_operator divide = refl
sign_operator remainder = refl
sign_operator shift_right = refl
sign_operator shift_left = refl
sign_operator equal = refl
sign_operator unequal = refl
sign_operator greater = refl
sign_operator less = refl

sign_entry : sign_text tag_entry ≡ bytes "."
unfolding sign_text if◌then◌otherwise◌
sign_entry = refl

-- the tag says whether an expression is an operator's or an entry
pub operation_tag : (e : Expression) → leb first_operator (root_tag e) ≡ is_operation e
unfolding root_tag is_operation
operation_tag (number z) = refl
operation_tag (string t) = refl
operation_tag nothing = refl
operation_tag (truth b) = refl
operation_tag (name x) = refl
operation_tag (table e) = refl
operation_tag (entry a b) = refl
operation_tag (operation o a b) = le-leb 16 (tag_of o) (tag_large o)
operation_tag (call f es) = refl
operation_tag (paren e) = operation_tag e

pub entry_tag : (e : Expression) → eqb (root_tag e) tag_entry ≡ is_entry e
unfolding root_tag is_entry
entry_tag (number z) = refl
entry_tag (string t) = refl
entry_tag nothing = refl
entry_tag (truth b) = refl
entry_tag (name x) = refl
entry_tag (table e) = refl
entry_tag (entry a b) = refl
entry_tag (operation o a b) = ne_eqb (tag_of o) 7 (λ q. omega (arith, tag_large o))
entry_tag (call f es) = refl
entry_tag (paren e) = entry_tag e

or_false : (b : Bool) → b || false ≡ b
or_false true = refl
or_false false = refl

encloses_entry : (e : Expression) → encloses tag_entry (root_tag e) ≡ is_operation e || is_entry e
unfolding encloses
encloses_entry e = rw (operation_tag e, entry_tag e)

encloses_operator : (o : Operator) (e : Expression) → encloses (tag_of o) (root_tag e) ≡ is_operation e
unfolding encloses
encloses_operator o e = rw (operation_tag e, ne_eqb (tag_of o) 7 (λ q. omega (arith, tag_large o))) (or_false (is_operation e))

-- ---- commas
-- texts, each behind a comma, and the first behind something else
abbrev led : List ℕ → List (List ℕ) → List ℕ
led lead [] = []
led lead (t ∷ more) = lead ++ t ++ led (bytes ",") more

led_comma : (texts : List (List ℕ)) → led [] texts ≡ comma_separated texts
unfolding comma_separated
led_comma [] = refl
led_comma (t ∷ []) = append-nil t
led_comma (t ∷ u ∷ more) =
    ap (λ (l : List ℕ). t ++ (bytes "," ++ l)) (led_comma (u ∷ more)) ∙ sym (append_assoc t (bytes ",") (comma_separated (u ∷ more)))

-- ---- lengths
pub joined_length : (tag : ℕ) (a b : List ℕ) → length (joined tag a b) ≡ length a + length b + 1
joined_length tag a b =
    let w : List ℕ = word tag (length a + length b + 1) (length b) ∷ [] in
    length-append a (b ++ w) ∙ omega (arith, length-append b w)

joined_small : (tag : ℕ) (a b : List ℕ) → length (joined tag a b) < 16777216 → length a + length b + 1 < 16777216
joined_small tag a b l = rw joined_length at l

-- ---- by the word of the root
module _ (inner : Writer) (s : Source) (x w : ℕ) where
  by_leaf : (tag : ℕ) → tag_in w ≡ tag → tag < 6 → expression_by inner s w x ≡ leaf_text s.program s.tokens w
  unfolding expression_by if◌then◌otherwise◌
  by_leaf tag e l = rw (e, lt-ltb tag 6 l)

  by_table : tag_in w ≡ tag_table → expression_by inner s w x ≡ bytes "[" ++ inner (x - 1) ++ bytes "]"
  unfolding expression_by if◌then◌otherwise◌
  by_table e = rw e

  by_call : tag_in w ≡ tag_call → expression_by inner s w x ≡ call_text inner s w x
  unfolding expression_by encloses if◌then◌otherwise◌
  by_call e = rw e

  by_pair : (tag n : ℕ) → tag_in w ≡ tag → number_in w ≡ n → 6 < tag → encloses tag_entry tag ≡ true → expression_by inner s w x ≡ pair_text inner s tag (x - 1 - n) (x - 1)
  unfolding expression_by if◌then◌otherwise◌
  by_pair tag n e k l d = rw (e, k, le-ltb tag 6 (omega arith), ne_eqb tag 6 (λ q. omega arith), d)

module _ (s : Source) (ts : List Token) (spells : Spells s ts) where
  abbrev code : List ℕ
  code = s.code

  -- what is written from an expression's code is its text, with more fuel than there are words inside
  abbrev pub Says : Expression → Type 0
  Says e = (fuel x : ℕ) → fuel < 16777216 → Ends code x (code_of e ts) → length (code_of e ts) ≤ fuel → raw_expression fuel s x ≡ expression_text e

  by_root : (fuel x w : ℕ) → get_or code x 0 ≡ w → raw_expression (suc fuel) s x ≡ expression_by (raw_expression fuel s) s w x
  unfolding raw_expression
  by_root fuel x w e = rw e

  -- ---- one word
  leaf_says : (e : Expression) (tag n : ℕ) → code_of e ts ≡ word tag 1 n ∷ [] → tag < 6 → leaf_text s.program s.tokens (word tag 1 n) ≡ expression_text e → Says e
  leaf_says e tag n c l t zero x f h k = absurd (omega (arith, code_some e ts))
  leaf_says e tag n c l t (suc fuel) x f h k =
      let w = word tag 1 n in
      let r : get_or code x 0 ≡ w = ends_word [] w (subst (Ends code x) c h) in
      by_root fuel x w r ∙ by_leaf (raw_expression fuel s) s x w tag (word_told tag 1 n (omega arith) (omega arith)).tag_is l ∙ t

  number_leaf : (tag n : ℕ) → tag < 256 → number_in (word tag 1 n) ≡ n
  number_leaf tag n l = (word_told tag 1 n l (omega arith)).number_is

  tag_leaf : (tag n : ℕ) → tag < 256 → tag_in (word tag 1 n) ≡ tag
  tag_leaf tag n l = (word_told tag 1 n l (omega arith)).tag_is

  number_says : (z : ℤ) → wrap z ≡ z → Says (number z)
  unfolding code_with expression_text leaf_text if◌then◌otherwise◌ wrap
  number_says z e =
      leaf_says (number z) tag_number (bits z) refl (omega arith)
      (rw (tag_leaf tag_number (bits z) (omega arith), number_leaf tag_number (bits z) (omega arith)) (ap decimal e))

  string_says : (t : List ℕ) → Occurs ts a_string t → Says (string t)
  unfolding code_with expression_text leaf_text if◌then◌otherwise◌
  string_says t o =
      leaf_says (string t) tag_string (part_of ts t) refl (omega arith)
      (rw (tag_leaf tag_string (part_of ts t) (omega arith), number_leaf tag_string (part_of ts t) (omega arith), spells.strings t o))

  nothing_says : Says nothing
  unfolding code_with expression_text leaf_text if◌then◌otherwise◌
  nothing_says = leaf_says nothing tag_none 0 refl (omega arith) (rw (tag_leaf tag_none 0 (omega arith)))

  truth_says : (b : Bool) → Says (truth b)
  unfolding code_with expression_text leaf_text if◌then◌otherwise◌
  truth_says true =
      leaf_says (truth true) tag_truth 1 refl (omega arith) (rw (tag_leaf tag_truth 1 (omega arith), number_leaf tag_truth 1 (omega arith)))
  truth_says false =
      leaf_says (truth false) tag_truth 0 refl (omega arith) (rw (tag_leaf tag_truth 0 (omega arith), number_leaf tag_truth 0 (omega arith)))

  name_says : (x : List ℕ) → Occurs ts a_name x → Says (name x)
  unfolding code_with expression_text leaf_text if◌then◌otherwise◌
  name_says x o =
      leaf_says (name x) tag_name (slot_of ts x) refl (omega arith)
      (rw (tag_leaf tag_name (slot_of ts x) (omega arith), number_leaf tag_name (slot_of ts x) (omega arith)) (spells.names x o))

  -- ---- a table
  table_says : (e : Expression) → Says e → Says (table e)
  unfolding code_with expression_text
  table_says e h zero x f q k = absurd (omega (arith, code_some (table e) ts))
  table_says e h (suc fuel) x f q k =
      let c = code_of e ts in
      let w = word tag_table (length c + 1) 0 in
      let l : length c + 1 ≤ suc fuel = rw length-append at k in
      by_root fuel x w (ends_word c w q)
      ∙ by_table (raw_expression fuel s) s x w (word_told tag_table (length c + 1) 0 (omega arith) (omega arith)).tag_is
      ∙ ap (λ (t : List ℕ). bytes "[" ++ t ++ bytes "]") (h fuel (x - 1) (omega arith) (ends_front c w q (code_some e ts)) (omega arith))

  -- ---- two parts
  pub root_tag_lem : (e : Expression) (x : ℕ) → length (code_of e ts) < 16777216 → Ends code x (code_of e ts) → tag_in (get_or code x 0) ≡ root_tag e
  unfolding code_with root_tag
  root_tag_lem (number z) x l q = ap tag_in (ends_word [] _ q) ∙ tag_leaf tag_number _ (omega arith)
  root_tag_lem (string t) x l q = ap tag_in (ends_word [] _ q) ∙ tag_leaf tag_string _ (omega arith)
  root_tag_lem nothing x l q = ap tag_in (ends_word [] _ q) ∙ tag_leaf tag_none _ (omega arith)
  root_tag_lem (truth b) x l q = ap tag_in (ends_word [] _ q) ∙ tag_leaf tag_truth _ (omega arith)
  root_tag_lem (name y) x l q = ap tag_in (ends_word [] _ q) ∙ tag_leaf tag_name _ (omega arith)
  root_tag_lem (table e) x l q =
      ap tag_in (ends_word (code_of e ts) _ q) ∙ (word_told tag_table _ 0 (omega arith) (omega (arith, rw length-append at l))).tag_is
  root_tag_lem (entry a b) x l q =
      ap tag_in (ends_joined tag_entry (code_of a ts) (code_of b ts) (code_some a ts) (code_some b ts) q).root
      ∙ (word_told tag_entry _ _ (omega arith) (joined_small tag_entry (code_of a ts) (code_of b ts) l)).tag_is
  root_tag_lem (operation o a b) x l q =
      ap tag_in (ends_joined (tag_of o) (code_of a ts) (code_of b ts) (code_some a ts) (code_some b ts) q).root
      ∙ (word_told (tag_of o) _ _ (tag_small o) (joined_small (tag_of o) (code_of a ts) (code_of b ts) l)).tag_is
  root_tag_lem (call f es) x l q =
      ap tag_in (ends_word (code_of_all es ts) _ q) ∙ (word_told tag_call _ _ (omega arith) (omega (arith, rw length-append at l))).tag_is
  root_tag_lem (paren e) x l q = root_tag_lem e x l q

  -- a part inside an entry or an operator
  part_says : (e : Expression) → Says e → (tag fuel x : ℕ) → fuel < 16777216 → Ends code x (code_of e ts) → length (code_of e ts) ≤ fuel
      → part_text (raw_expression fuel s) s tag x ≡ enclosed_if (encloses tag (root_tag e)) (expression_text e)
  unfolding part_text
  part_says e h tag fuel x f q k = rw (root_tag_lem e x (omega arith) q, h fuel x f q k)

  -- the text of two parts with a sign between
  abbrev two_parts : ℕ → Expression → Expression → List ℕ
  two_parts tag a b = enclosed_if (encloses tag (root_tag a)) (expression_text a) ++ sign_text tag ++ enclosed_if (encloses tag (root_tag b)) (expression_text b)

  pair_says : (a b : Expression) → Says a → Says b → (tag fuel x y : ℕ) → fuel < 16777216 → Ends code x (code_of a ts) → Ends code y (code_of b ts)
      → length (code_of a ts) ≤ fuel → length (code_of b ts) ≤ fuel → pair_text (raw_expression fuel s) s tag x y ≡ two_parts tag a b
  unfolding pair_text
  pair_says a b h h₂ tag fuel x y f p q k k₂ = rw (part_says a h tag fuel x f p k, part_says b h₂ tag fuel y f q k₂)

  entry_parts : (a b : Expression) → two_parts tag_entry a b ≡ expression_text (entry a b)
  unfolding expression_text
  entry_parts a b = rw (encloses_entry a, encloses_entry b, sign_entry)

  operator_parts : (o : Operator) (a b : Expression) → two_parts (tag_of o) a b ≡ expression_text (operation o a b)
  unfolding expression_text
  operator_parts o a b = rw (encloses_operator o a, encloses_operator o b, sign_operator o)

  -- the sides of an entry, where they end
  pub entry_says : (a b : Expression) → Says a → Says b → (fuel x y : ℕ) → fuel < 16777216 → Ends code x (code_of a ts) → Ends code y (code_of b ts)
      → length (code_of a ts) ≤ fuel → length (code_of b ts) ≤ fuel → pair_text (raw_expression fuel s) s tag_entry x y ≡ expression_text (entry a b)
  entry_says a b h h₂ fuel x y f p q k k₂ = pair_says a b h h₂ tag_entry fuel x y f p q k k₂ ∙ entry_parts a b

  joined_says : (a b : Expression) → Says a → Says b → (tag : ℕ) → tag < 256 → 6 < tag → encloses tag_entry tag ≡ true → (fuel x : ℕ) → fuel < 16777216
      → Ends code x (joined tag (code_of a ts) (code_of b ts)) → length (joined tag (code_of a ts) (code_of b ts)) ≤ fuel → raw_expression fuel s x ≡ two_parts tag a b
  joined_says a b h h₂ tag t l d zero x f q k = absurd (omega (arith, joined_length tag (code_of a ts) (code_of b ts)))
  joined_says a b h h₂ tag t l d (suc fuel) x f q k =
      let n = joined_length tag (code_of a ts) (code_of b ts) in
      let j = ends_joined tag (code_of a ts) (code_of b ts) (code_some a ts) (code_some b ts) q in
      let w = word tag (length (code_of a ts) + length (code_of b ts) + 1) (length (code_of b ts)) in
      let told = word_told tag (length (code_of a ts) + length (code_of b ts) + 1) (length (code_of b ts)) t (omega arith) in
      by_root fuel x w j.root
      ∙ by_pair (raw_expression fuel s) s x w tag (length (code_of b ts)) told.tag_is told.number_is l d
      ∙ pair_says a b h h₂ tag fuel (x - 1 - length (code_of b ts)) (x - 1) (omega arith) j.left j.right (omega arith) (omega arith)

  -- ---- a call
  -- what is written from the code of arguments up to the word of their call
  abbrev SaysAll : Arguments → Type 0
  SaysAll es = (fuel a x rounds : ℕ) (lead : List ℕ) → fuel < 16777216 → Stands code a (code_of_all es ts) → a + length (code_of_all es ts) ≡ x → 0 < size_in (get_or code x 0)
      → length (code_of_all es ts) ≤ fuel → length (code_of_all es ts) < rounds
      → arguments_text rounds lead (raw_expression fuel s) s (argument_after s a x) x ≡ led lead (argument_texts es)

  none_say : SaysAll no_argument
  unfolding arguments_with argument_texts arguments_text argument_root if◌then◌otherwise◌
  none_say fuel a x zero lead f q e n k r = absurd (omega arith)
  none_say fuel a x (suc rounds) lead f q e n k r =
      let i : a ≡ x = omega arith in
      rw (i, le-ltb (x + size_in (get_or code x 0)) x (omega arith), le-ltb x x (omega arith))

  more_say : (e : Expression) (es : Arguments) → Says e → SaysAll es → SaysAll (argument e es)
  unfolding arguments_with argument_texts arguments_text argument_root if◌then◌otherwise◌
  more_say e es h hs fuel a x zero lead f q i n k r = absurd (omega arith)
  more_say e es h hs fuel a x (suc rounds) lead f q i n k r =
      let c = code_of e ts in
      let cs = code_of_all es ts in
      let g = stands_argument c cs q in
      let l = length-append c cs in
      let size : size_in (get_or code a 0) ≡ length c = ap size_in g.before ∙ (word_told tag_argument (length c) 0 (omega arith) (omega arith)).size_is in
      let t = lt-ltb (a + length c) x (omega arith) in
      let one = h fuel (a + length c) f g.one (omega arith) in
      let rest = hs fuel (a + length c + 1) x rounds (bytes ",") f g.more (omega arith) n (omega arith) (omega arith) in
      rw (size, t, t, one) (ap (λ (u : List ℕ). lead ++ expression_text e ++ u) rest)

  call_says : (f : List ℕ) (es : Arguments) → Occurs ts a_name f → SaysAll es → Says (call f es)
  unfolding code_with expression_text call_text
  call_says f es o hs zero x small q k = absurd (omega (arith, code_some (call f es) ts))
  call_says f es o hs (suc fuel) x small q k =
      let cs = code_of_all es ts in
      let n = procedure_number f + 16 * slot_of ts f in
      let w = word tag_call (length cs + 1) n in
      let l : length cs + 1 ≤ suc fuel = rw length-append at k in
      let told = word_told tag_call (length cs + 1) n (omega arith) (omega arith) in
      let root = ends_word cs w q in
      let callee : callee_in w ≡ slot_of ts f = ap (λ m. m / 16) told.number_is ∙ call_slot f (slot_of ts f) in
      let start : x - (length cs + 1 - 1) ≡ x + 1 - (length cs + 1) = omega arith in
      let there = ends_start cs w q in
      let last : x + 1 - (length cs + 1) + length cs ≡ x = omega (arith, q.last, length-append cs (w ∷ [])) in
      by_root fuel x w root
      ∙ by_call (raw_expression fuel s) s x w told.tag_is
      ∙ rw (
        callee,
        spells.names f o,
        told.size_is,
        start,
        hs fuel (x + 1 - (length cs + 1)) x (suc x) [] (omega arith) there last (rw (root, told.size_is) (omega arith)) (omega arith) (omega arith),
        led_comma (argument_texts es),
      )

  -- ---- every expression
  mutual
    unfolding Known KnownAll code_with expression_text

    -- WHAT IS WRITTEN FROM AN EXPRESSION'S CODE
    pub expression_says : (e : Expression) → Known e ts → Says e
    expression_says (number z) k = number_says z k
    expression_says (string t) k = string_says t k
    expression_says nothing k = nothing_says
    expression_says (truth b) k = truth_says b
    expression_says (name x) k = name_says x k
    expression_says (table e) k = table_says e (expression_says e k)
    expression_says (entry a b) k = λ fuel x f q l.
        joined_says a b (expression_says a k.0) (expression_says b k.1) tag_entry (omega arith) (omega arith) entry_in_entry fuel x f q l ∙ entry_parts a b
    expression_says (operation o a b) k = λ fuel x f q l.
        let n = tag_large o in
        joined_says a b (expression_says a k.0) (expression_says b k.1) (tag_of o) (tag_small o) (omega arith) (operator_in_entry (tag_of o) n) fuel x f q l
        ∙ operator_parts o a b
    expression_says (call f es) k = call_says f es k.0 (arguments_say es k.1)
    expression_says (paren e) k = expression_says e k

    arguments_say : (es : Arguments) → KnownAll es ts → SaysAll es
    arguments_say no_argument k = none_say
    arguments_say (argument e es) k = more_say e es (expression_says e k.0) (arguments_say es k.1)
