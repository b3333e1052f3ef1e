-- How the text of an expression ends, by its code.
use Prim.Native.Nat.{ℕ, ◌-◌, ◌<◌}
use native.Mathlib.Omega.{arith}
use mathlib.Core.Path.{◌≡◌, refl, ap, sym, ◌∙◌}
use mathlib.Core.Bool.{Bool, true, false, ◌||◌, cond}
use mathlib.Core.List.{List, [], ◌∷◌, ◌++◌, append-nil, append_assoc}
use lib.ListN.{length, get_or, length-append}
use borrow.Author.Tests.{le-ltb, le-leb}
use Rattle.meaning.specs.Basics.{bytes, if◌then◌otherwise◌}
use Rattle.meaning.specs.Byte.{is_letter, is_digit, is_name_part}
use Rattle.meaning.specs.Token.{Token}
use Rattle.meaning.specs.Picture.{decimal}
use Rattle.meaning.specs.Tree.{Expression, number, string, nothing, truth, name, table, entry, operation, call, paren}
use Rattle.canonical.specs.Text.{comma_separated, operator_text, is_operation, is_entry, enclosed_if, expression_text, argument_texts, apart, between}
use Rattle.roundtrip.proofs.LexesTree.{last_of, last_behind, last_decimal}
use Rattle.machine.specs.Opcodes.{tag_in, tag_entry, tag_of}
use Rattle.code.specs.Code.{joined, code_of, code_with}
use Rattle.reader.proofs.Known.{Known}
use Rattle.reader.proofs.Fields.{code_some}
use Rattle.reader.proofs.Walk.{Ends, ends_joined}
use Rattle.phrases.specs.Raw.{Source}
use Rattle.clauses.specs.Raw.{tag_ends, operand_ends, ends_word}
use Rattle.faithful.proofs.Expressions.{Spells, root_tag, tag_large, operation_tag, entry_tag, joined_length, root_tag_lem}

-- whether a text ends with a letter or a digit
abbrev pub part_last : List ℕ → Bool
part_last t = is_name_part (last_of t)

-- ---- texts
-- the last byte of what stands behind
closed_by : (t : List ℕ) (c : ℕ) → is_name_part c ≡ false → false ≡ part_last (t ++ c ∷ [])
closed_by t c e = sym (ap is_name_part (last_behind t c []) ∙ e)

behind : (t u : List ℕ) → 0 < length u → part_last u ≡ part_last (t ++ u)
behind t [] h = absurd (omega arith)
behind t (c ∷ u) h = sym (ap is_name_part (last_behind t c u))

part_some : (t : List ℕ) → part_last t ≡ true → 0 < length t
unfolding is_name_part is_letter is_digit
part_some [] e = let z : ◌≡◌ {A = ℕ} 0 1 = cc in absurd (omega arith)
part_some (c ∷ t) e = omega arith

enclosed_some : (b : Bool) (t : List ℕ) → 0 < length t → 0 < length (enclosed_if b t)
unfolding enclosed_if
enclosed_some true t h = omega arith
enclosed_some false t h = h

-- a space before, and one behind
between_is : (t : List ℕ) → between t ≡ apart t ++ cond (part_last t) (bytes " ") []
unfolding between apart is_name_part is_letter is_digit
between_is [] = refl
between_is (c ∷ t) = by (part_last (c ∷ t))
  where
    spaced : (a : Bool) → cond a (32 ∷ (c ∷ t ++ 32 ∷ [])) (c ∷ t ++ 32 ∷ []) ≡ cond a (32 ∷ c ∷ t) (c ∷ t) ++ 32 ∷ []
    spaced true = refl
    spaced false = refl

    by : (b : Bool) → apart (cond b (c ∷ t ++ 32 ∷ []) (c ∷ t)) ≡ apart (c ∷ t) ++ cond b (32 ∷ []) []
    by true = spaced (is_name_part c)
    by false = sym (append-nil (apart (c ∷ t)))

-- the word behind
pub word_behind : (t u : List ℕ) (b : Bool) → b ≡ part_last u → t ++ apart u ++ cond b (bytes " do\n") (bytes "do\n") ≡ t ++ between u ++ bytes "do\n"
word_behind t u true e =
    rw (between_is u, ← e) (sym (ap (λ (l : List ℕ). l ++ bytes "do\n") (sym (append_assoc t (apart u) (bytes " "))) ∙ append_assoc (t ++ apart u) (bytes " ") (bytes "do\n")))
word_behind t u false e = rw (between_is u, ← e) (ap (λ (l : List ℕ). t ++ l ++ bytes "do\n") (sym (append-nil (apart u))))

module _ (s : Source) (ts : List Token) (spells : Spells s ts) where
  abbrev code : List ℕ
  code = s.code

  -- no expression's text is empty
  text_some : (e : Expression) → Known e ts → 0 < length (expression_text e)
  unfolding Known expression_text
  text_some (number z) k = part_some (decimal z) (last_decimal z)
  text_some (string t) k = omega arith
  text_some nothing k = omega arith
  text_some (truth true) k = omega arith
  text_some (truth false) k = omega arith
  text_some (name x) k = part_some x (spells.last x k)
  text_some (table e) k = omega arith
  text_some (entry a b) k =
      let t = enclosed_if (is_operation a || is_entry a) (expression_text a) in
      let u = enclosed_if (is_operation b || is_entry b) (expression_text b) in
      omega (arith, length-append (t ++ bytes ".") u, length-append t (bytes "."))
  text_some (operation o a b) k =
      let t = enclosed_if (is_operation a) (expression_text a) in
      let u = enclosed_if (is_operation b) (expression_text b) in
      omega (arith, enclosed_some (is_operation b) (expression_text b) (text_some b k.1), length-append (t ++ operator_text o) u)
  text_some (call f es) k =
      let t = comma_separated (argument_texts es) in
      omega (arith, length-append (f ++ bytes "(" ++ t) (bytes ")"))
  text_some (paren e) k = text_some e k

  -- ---- by the tag of the last word
  -- as a part of an entry
  primary_ends : (e : Expression) → Known e ts → tag_ends (root_tag e) ≡ part_last (enclosed_if (is_operation e || is_entry e) (expression_text e))
  unfolding Known root_tag tag_ends is_operation is_entry enclosed_if expression_text is_name_part is_letter is_digit
  primary_ends (number z) k = sym (last_decimal z)
  primary_ends (string t) k = closed_by (34 ∷ t) 34 refl
  primary_ends nothing k = refl
  primary_ends (truth true) k = refl
  primary_ends (truth false) k = refl
  primary_ends (name x) k = sym (spells.last x k)
  primary_ends (table e) k = closed_by (bytes "[" ++ expression_text e) 93 refl
  primary_ends (entry a b) k = closed_by (bytes "(" ++ expression_text (entry a b)) 41 refl
  primary_ends (operation o a b) k = rw (le-ltb (tag_of o) 6 (omega (arith, tag_large o))) (closed_by (bytes "(" ++ expression_text (operation o a b)) 41 refl)
  primary_ends (call f es) k = closed_by (f ++ bytes "(" ++ comma_separated (argument_texts es)) 41 refl
  primary_ends (paren e) k = primary_ends e k

  -- where the code of an expression ends
  abbrev At : ℕ → Expression → Type 0
  At y e = (length (code_of e ts) < 16777216) × Ends code y (code_of e ts)

  primary_at : (e : Expression) (y : ℕ) → Known e ts → At y e → tag_ends (tag_in (get_or code y 0)) ≡ part_last (enclosed_if (is_operation e || is_entry e) (expression_text e))
  primary_at e y k h = ap tag_ends (root_tag_lem s ts spells e y h.0 h.1) ∙ primary_ends e k

  -- the second of two parts
  right_at : (tag : ℕ) (a b : Expression) (y : ℕ) → length (joined tag (code_of a ts) (code_of b ts)) < 16777216 → Ends code y (joined tag (code_of a ts) (code_of b ts)) → At (y - 1) b
  right_at tag a b y l q =
      (omega (arith, joined_length tag (code_of a ts) (code_of b ts)), (ends_joined tag (code_of a ts) (code_of b ts) (code_some a ts) (code_some b ts) q).right)

  or_right : (a b : Bool) → b ≡ false → a || b ≡ a
  or_right true b e = refl
  or_right false b e = e

  -- as a part of an operator
  no_entry : (e : Expression) (y : ℕ) → is_entry e ≡ false → Known e ts → At y e → operand_ends code y ≡ part_last (enclosed_if (is_operation e) (expression_text e))
  unfolding operand_ends if◌then◌otherwise◌
  no_entry e y n k h =
      rw (root_tag_lem s ts spells e y h.0 h.1, entry_tag e, n)
      (primary_ends e k ∙ ap (λ (b : Bool). part_last (enclosed_if b (expression_text e))) (or_right (is_operation e) (is_entry e) n))

  operand_ends_lem : (e : Expression) (y : ℕ) → Known e ts → At y e → operand_ends code y ≡ part_last (enclosed_if (is_operation e) (expression_text e))
  unfolding Known code_with root_tag is_operation is_entry enclosed_if expression_text operand_ends if◌then◌otherwise◌
  operand_ends_lem (number z) y k h = no_entry (number z) y refl k h
  operand_ends_lem (string t) y k h = no_entry (string t) y refl k h
  operand_ends_lem nothing y k h = no_entry nothing y refl k h
  operand_ends_lem (truth b) y k h = no_entry (truth b) y refl k h
  operand_ends_lem (name x) y k h = no_entry (name x) y refl k h
  operand_ends_lem (table e) y k h = no_entry (table e) y refl k h
  operand_ends_lem (entry a b) y k h =
      let t = enclosed_if (is_operation a || is_entry a) (expression_text a) in
      let u = enclosed_if (is_operation b || is_entry b) (expression_text b) in
      rw (root_tag_lem s ts spells (entry a b) y h.0 h.1)
      (primary_at b (y - 1) k.1 (right_at tag_entry a b y h.0 h.1)
      ∙ behind (t ++ bytes ".") u (enclosed_some (is_operation b || is_entry b) (expression_text b) (text_some b k.1)))
  operand_ends_lem (operation o a b) y k h = no_entry (operation o a b) y refl k h
  operand_ends_lem (call f es) y k h = no_entry (call f es) y refl k h
  operand_ends_lem (paren e) y k h = operand_ends_lem e y k h

  no_operator : (e : Expression) (y : ℕ) → is_operation e ≡ false → Known e ts → At y e → ends_word code y ≡ part_last (expression_text e)
  unfolding ends_word enclosed_if if◌then◌otherwise◌
  no_operator e y n k h =
      rw (root_tag_lem s ts spells e y h.0 h.1, operation_tag e, n)
      (operand_ends_lem e y k h ∙ ap (λ (b : Bool). part_last (enclosed_if b (expression_text e))) n)

  -- THE LAST BYTE OF AN EXPRESSION'S TEXT
  pub word_ends : (e : Expression) (y : ℕ) → Known e ts → At y e → ends_word code y ≡ part_last (expression_text e)
  unfolding Known code_with root_tag is_operation expression_text ends_word if◌then◌otherwise◌
  word_ends (number z) y k h = no_operator (number z) y refl k h
  word_ends (string t) y k h = no_operator (string t) y refl k h
  word_ends nothing y k h = no_operator nothing y refl k h
  word_ends (truth b) y k h = no_operator (truth b) y refl k h
  word_ends (name x) y k h = no_operator (name x) y refl k h
  word_ends (table e) y k h = no_operator (table e) y refl k h
  word_ends (entry a b) y k h = no_operator (entry a b) y refl k h
  word_ends (operation o a b) y k h =
      let t = enclosed_if (is_operation a) (expression_text a) in
      let u = enclosed_if (is_operation b) (expression_text b) in
      rw (root_tag_lem s ts spells (operation o a b) y h.0 h.1, le-leb 16 (tag_of o) (tag_large o))
      (operand_ends_lem b (y - 1) k.1 (right_at (tag_of o) a b y h.0 h.1)
      ∙ behind (t ++ operator_text o) u (enclosed_some (is_operation b) (expression_text b) (text_some b k.1)))
  word_ends (call f es) y k h = no_operator (call f es) y refl k h
  word_ends (paren e) y k h = word_ends e y k h
