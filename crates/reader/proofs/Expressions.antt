-- The grammar of expressions over words is the meaning's, with the code of each tree.
use Prim.Native.Nat.{ℕ, zero, suc, ◌+◌, ◌-◌}
use mathlib.Core.Path.{◌≡◌, refl, ap}
use mathlib.Core.Bool.{Bool, true, false}
use mathlib.Core.List.{List, [], ◌∷◌}
use mathlib.Core.Option.{Option, none, some}
use lib.ListN.{length, length-map}
use borrow.Author.Tests.{eqb-true}
use Rattle.std.specs.Prelude.{Some, None}
use Rattle.std.specs.Prelude as Std
use Rattle.meaning.specs.Basics.{if◌then◌otherwise◌}
use Rattle.meaning.specs.Token.{Token}
use Rattle.meaning.specs.Tree.{Operator, concatenate, add, subtract, multiply, divide, remainder, shift_right, shift_left, equal, unequal, greater, less, Expression}
use Rattle.meaning.specs.Grammar.{kind_at, expect, operator_of, Inside, ReadExpression, arguments_from, arguments, primary, operand, operated, expression_in, expression}
use Rattle.names.specs.Prepared.{prepared}
use Rattle.machine.specs.Opcodes.{word, tag_number, tag_string, tag_name, tag_of}
use Rattle.code.specs.Code.{code_of_all, arguments_with, code_with}
use Rattle.expressions.specs.declared.Target.TheVariants.{Neither, Name}
use Rattle.expressions.specs.Words as Words
use Rattle.reader.specs.Coded.{words_of, map_got, side_of, piece_of, inside_of}
use Rattle.reader.specs.Sane.{Sane}
use Rattle.reader.proofs.Fields.{kind_at_lem, is_at, positive_at_lem, negative_at_lem, signed_at_lem, positive_bits, negative_bits, part_at, name_home_at, callee_at}
use Rattle.reader.proofs.Mapped.{Maps, Levels, neither, both, maps_good, maps_wrong, maps_if, maps_after, maps_opening}

-- ---- operators
unfoldable pub tag_for : Option Operator → Std.Option ℕ
tag_for none = None
tag_for (some o) = Some (tag_of o)

tag_if : (b : Bool) (t u : Unit {0} → Std.Option ℕ) (t' u' : Unit {0} → Option Operator)
    → t tt ≡ tag_for (t' tt)
    → u tt ≡ tag_for (u' tt)
    → (if b then t otherwise u) ≡ tag_for (if b then t' otherwise u')
unfolding if◌then◌otherwise◌
tag_if true t u t' u' p q = p
tag_if false t u t' u' p q = q

pub operator_tag : (k : ℕ) → Words.operator_tag k ≡ tag_for (operator_of k)
unfolding Words.operator_tag operator_of tag_for tag_of
operator_tag k =
    tag_if _ _ _ _ _ refl (tag_if _ _ _ _ _ refl (tag_if _ _ _ _ _ refl (tag_if _ _ _ _ _ refl (tag_if _ _ _ _ _ refl (tag_if _ _ _ _ _ refl
    (tag_if _ _ _ _ _ refl (tag_if _ _ _ _ _ refl (tag_if _ _ _ _ _ refl (tag_if _ _ _ _ _ refl (tag_if _ _ _ _ _ refl (tag_if _ _ _ _ _ refl refl)))))))))))

-- two readers of expressions, the first over words
abbrev pub Reads : List Token → Words.ReadPiece → ReadExpression → Type 0
Reads ts g f = (i : ℕ) → Maps (piece_of ts) (g i) (f i)

module _ (ts : List Token) (sane : Sane ts) where
  pub expect_maps : {A B : Type 0} {f : A → B} (k j : ℕ) (a : A) (b : B) → b ≡ f a → Maps f (Words.expect k (words_of ts) j b) (expect k ts j a)
  unfolding expect Words.expect
  expect_maps k j a b e = maps_if _ _ _ _ _ _ (is_at ts sane k j) (λ _. maps_good e) (λ _. maps_wrong)

  pub arguments_from_maps : {g : Words.ReadPiece} {f : ReadExpression} → Reads ts g f
      → (rounds i : ℕ) → Maps (λ es. code_of_all es ts) (Words.arguments_from rounds g (words_of ts) i) (arguments_from rounds f ts i)
  unfolding arguments_from Words.arguments_from piece_of arguments_with
  arguments_from_maps r zero i = maps_wrong
  arguments_from_maps r (suc rounds) i =
      maps_after _ _ (r i) λ e j _.
      maps_if _ _ _ _ _ _ (is_at ts sane _ j)
      (λ _. maps_after _ _ (arguments_from_maps r rounds (j + 1)) λ es m _. maps_good refl)
      λ _. expect_maps _ j _ _ refl

  pub arguments_maps : {g : Words.ReadPiece} {f : ReadExpression} → Reads ts g f
      → (i : ℕ) → Maps (λ es. code_of_all es ts) (Words.arguments g (words_of ts) i) (arguments f ts i)
  unfolding arguments Words.arguments arguments_with
  arguments_maps r i =
      maps_if _ _ _ _ _ _ (is_at ts sane _ i) (λ _. maps_good refl)
      λ _. rw (length-map ts (prepared ts)) (arguments_from_maps r (suc (length ts - i)) i)

  pub primary_maps : {x : Inside Words.ReadPiece} {y : Inside ReadExpression} → Levels (Reads ts) x y
      → (i : ℕ) → Maps (piece_of ts) (Words.primary x (words_of ts) i) (primary y ts i)
  unfolding primary Words.primary piece_of code_with side_of
  primary_maps l i =
      maps_if _ _ _ _ _ _ (positive_at_lem ts sane i)
      (λ e. maps_good (ap (λ n. Words.piece (word tag_number 1 n ∷ []) Neither) (positive_bits ts sane i e)))
      λ _. maps_if _ _ _ _ _ _ (signed_at_lem ts sane i)
      (λ _. maps_if _ _ _ _ _ _ (negative_at_lem ts sane (i + 1))
      (λ e. maps_good (ap (λ n. Words.piece (word tag_number 1 n ∷ []) Neither) (negative_bits ts sane (i + 1) e)))
      λ _. maps_wrong)
      λ _. maps_if _ _ _ _ _ _ (is_at ts sane _ i)
      (λ e. maps_good (ap (λ n. Words.piece (word tag_string 1 n ∷ []) Neither) (part_at ts sane i (eqb-true _ _ e))))
      λ _. maps_if _ _ _ _ _ _ (is_at ts sane _ i) (λ _. maps_good refl)
      λ _. maps_if _ _ _ _ _ _ (is_at ts sane _ i) (λ _. maps_good refl)
      λ _. maps_if _ _ _ _ _ _ (is_at ts sane _ i) (λ _. maps_good refl)
      λ _. maps_if _ _ _ _ _ _ (is_at ts sane _ i)
      (λ e. maps_if _ _ _ _ _ _ (is_at ts sane _ (i + 1))
      (λ _. maps_opening _ _ _ l λ g f r. maps_after _ _ (arguments_maps r (i + 2)) λ es j _.
      maps_good (ap (λ n. Words.piece (Words.call_code n (code_of_all es ts)) Neither) (callee_at ts sane i (eqb-true _ _ e))))
      λ _. maps_good (ap (λ n. Words.piece (word tag_name 1 n ∷ []) Name) (name_home_at ts sane i (eqb-true _ _ e))))
      λ _. maps_if _ _ _ _ _ _ (is_at ts sane _ i)
      (λ _. maps_opening _ _ _ l λ g f r. maps_after _ _ (r (i + 1)) λ e j _. expect_maps _ j _ _ refl)
      λ _. maps_if _ _ _ _ _ _ (is_at ts sane _ i)
      (λ _. maps_opening _ _ _ l λ g f r. maps_after _ _ (r (i + 1)) λ e j _. expect_maps _ j _ _ refl)
      λ _. maps_wrong

  pub operand_maps : {x : Inside Words.ReadPiece} {y : Inside ReadExpression} → Levels (Reads ts) x y
      → (i : ℕ) → Maps (piece_of ts) (Words.operand x (words_of ts) i) (operand y ts i)
  unfolding operand Words.operand piece_of code_with side_of
  operand_maps l i =
      maps_after _ _ (primary_maps l i) λ a j _.
      maps_if _ _ _ _ _ _ (is_at ts sane _ j)
      (λ _. maps_after _ _ (primary_maps l (j + 1)) λ b m _. maps_good refl)
      λ _. maps_good refl

  pub operated_maps : {x : Inside Words.ReadPiece} {y : Inside ReadExpression} → Levels (Reads ts) x y
      → (o : Option Operator) (a : Expression) (j : ℕ)
      → Maps (piece_of ts) (Words.operated (tag_for o) x (words_of ts) (piece_of ts a) j) (operated o y ts a j)
  unfolding operated Words.operated tag_for if◌then◌otherwise◌ piece_of code_with side_of
  operated_maps l none a j = maps_good refl
  operated_maps l (some o) a j =
      maps_after _ _ (operand_maps l (j + 1)) λ b m _. maps_good refl

  pub expression_in_maps : {x : Inside Words.ReadPiece} {y : Inside ReadExpression} → Levels (Reads ts) x y
      → (i : ℕ) → Maps (piece_of ts) (Words.expression_in x (words_of ts) i) (expression_in y ts i)
  unfolding expression_in Words.expression_in
  expression_in_maps l i =
      maps_after _ _ (operand_maps l i) λ a j _.
      rw (kind_at_lem ts sane j, operator_tag) (operated_maps l (operator_of (kind_at ts j)) a j)

  pub expression_maps : (left i : ℕ) → Maps (piece_of ts) (Words.expression left (words_of ts) i) (expression left ts i)
  unfolding expression Words.expression
  expression_maps zero i = expression_in_maps neither i
  expression_maps (suc left) i = expression_in_maps (both (expression_maps left)) i

  inside_maps : (left : ℕ) → Levels (Reads ts) (Words.inside_of left (words_of ts)) (inside_of left ts)
  unfolding inside_of Words.inside_of
  inside_maps zero = neither
  inside_maps (suc left) = both (expression_maps left)

  -- ---- the laws
  pub primary_law : (left i : ℕ)
      → Words.primary (Words.inside_of left (words_of ts)) (words_of ts) i ≡ map_got (piece_of ts) (primary (inside_of left ts) ts i)
  primary_law left i = (primary_maps (inside_maps left) i).same

  pub operand_law : (left i : ℕ)
      → Words.operand (Words.inside_of left (words_of ts)) (words_of ts) i ≡ map_got (piece_of ts) (operand (inside_of left ts) ts i)
  operand_law left i = (operand_maps (inside_maps left) i).same

  pub arguments_law : (left i : ℕ)
      → Words.arguments (Words.expression left (words_of ts)) (words_of ts) i ≡ map_got (λ es. code_of_all es ts) (arguments (expression left ts) ts i)
  arguments_law left i = (arguments_maps (expression_maps left) i).same

  pub expression_law : (left i : ℕ) → Words.expression left (words_of ts) i ≡ map_got (piece_of ts) (expression left ts i)
  expression_law left i = (expression_maps left i).same
