-- What is read of a program's tokens: trees that can be written, in so many levels and in no more tokens.
use Prim.Native.Nat.{ℕ, zero, suc, ◌+◌, ◌≤◌}
use native.Mathlib.Omega.{arith}
use mathlib.Core.Path.{◌≡◌, refl}
use mathlib.Core.Bool.{Bool, true, false, ◌||◌, and-eq-true_iff}
use mathlib.Core.List.{List, [], ◌∷◌, ◌++◌}
use mathlib.Core.Option.{Option, none, some}
use lib.IntN.{pos, neg_ℤ}
use lib.Dec.{leb}
use borrow.Author.Tests.{eqb-true, leb-true}
use Rattle.meaning.specs.Token.{Token, digits, a_name, a_string}
use Rattle.meaning.specs.Grammar.{is, kind_at, text_at, numeral, Inside, no_level, level, ReadExpression, arguments_from, arguments, primary, operand, operated, expression_in, expression}
use Rattle.meaning.specs.Tree.{Operator, Expression, paren, Arguments}
use Rattle.canonical.specs.Text.{is_operation, is_entry}
use Rattle.roundtrip.proofs.Words.{Word, plain, negative, tokens, sign, joined, number_words, enclosed_words, words, argument_words, levels_in, levels, levels_all}
use Rattle.roundtrip.proofs.Sound.{Written, Sound, SoundAll}
use Rattle.roundtrip.proofs.Spelling.{Spelt}
use Rattle.roundtrip.proofs.Yields.{Yields, yields, fails, Inner, closed, opened, yields_if, yields_after, yields_opening, yields_expect}

-- words behind words
pub tokens_append : (ws vs : List Word) → tokens (ws ++ vs) ≡ tokens ws + tokens vs
tokens_append [] vs = omega arith
tokens_append (plain k x ∷ ws) vs = omega (arith, tokens_append ws vs)
tokens_append (negative x ∷ ws) vs = omega (arith, tokens_append ws vs)

-- at most one token more than its parts
pub joined_tokens : (w : List Word) (ws : List (List Word)) → tokens (joined (w ∷ ws)) ≤ tokens w + 1 + tokens (joined ws)
unfolding joined
joined_tokens w [] = omega arith
joined_tokens w (v ∷ ws) = simp tokens_append (omega arith)

-- an expression read from i to j, enclosed where f says so
pub record Fine (f : Bool) (left i : ℕ) (e : Expression) (j : ℕ) : Type 0 where
  pub sound : Sound e
  pub low : levels_in f (levels e) ≤ left
  pub few : i + tokens (enclosed_words f (words e)) ≤ j

-- what is fine in parentheses is fine without them
loosen : (a b : Bool) {left i : ℕ} {e : Expression} {j : ℕ} → Fine (a || b) left i e j → Fine a left i e j
unfolding levels_in enclosed_words
loosen true b h = h
loosen false true {left} {i} {e} {j} h =
    let few : i + tokens (sign 40 ++ words e ++ sign 41) ≤ j = h.few in
    record { sound = h.sound; low = let l = h.low in omega arith; few = omega (arith, few, tokens_append (words e) (sign 41)) }
loosen false false h = h

-- ---- constants
written_negative : (n : ℕ) → n ≤ 2147483648 → Written (neg_ℤ (pos n))
unfolding Written
written_negative zero h = omega arith
written_negative (suc n) h = omega arith

-- a constant with a minus is two tokens at most
few_negative : (n : ℕ) → tokens (number_words (neg_ℤ (pos n))) ≤ 2
unfolding number_words
few_negative zero = omega arith
few_negative (suc n) = omega arith

module _ (ts : List Token) (spelt : (i : ℕ) → Spelt (kind_at ts i) (text_at ts i)) where
  -- an expression that opens no level, in one token
  leaf : {f : Bool} {left i : ℕ} {e : Expression} → f ≡ false → Sound e → levels e ≡ 0 → tokens (words e) ≡ 1 → Fine f left i e (i + 1)
  unfolding levels_in enclosed_words
  leaf {f} {left} {i} {e} n s l t = rw n (record { sound = s; low = omega arith; few = omega arith })

  abbrev FineAt : ℕ → ReadExpression → Type 0
  FineAt left read = (i : ℕ) → Yields (λ e j. Fine false left i e j) (read i)

  -- ---- arguments
  record FineAll (left i : ℕ) (es : Arguments) (j : ℕ) : Type 0 where
    sound : SoundAll es
    low : levels_all es ≤ left
    few : i + tokens (joined (argument_words es)) + 1 ≤ j

  -- one argument or more
  arguments_from_fine : (r left : ℕ) (inner : ReadExpression) → FineAt left inner → (i : ℕ) → Yields (λ es j. FineAll left i es j) (arguments_from r inner ts i)
  unfolding arguments_from argument_words joined levels_all SoundAll levels_in enclosed_words
  arguments_from_fine zero left inner h i = fails
  arguments_from_fine (suc r) left inner h i =
      yields_after _ (h i) λ e j f. yields_if _ _ _
      (λ _. yields_after _ (arguments_from_fine r left inner h (j + 1)) λ es m g. yields (record {
        sound = (f.sound, g.sound);
        low = let a = f.low in let b = g.low in omega arith;
        few = let a : i + tokens (words e) ≤ j = f.few in let b = g.few in omega (arith, joined_tokens (words e) (argument_words es));
      }))
      λ _. yields_expect _ ts j _ λ _. record {
        sound = (f.sound, tt);
        low = let a = f.low in omega arith;
        few = let a : i + tokens (words e) ≤ j = f.few in omega arith;
      }

  -- all arguments
  arguments_fine : (left : ℕ) (inner : ReadExpression) → FineAt left inner → (i : ℕ) → Yields (λ es j. FineAll left i es j) (arguments inner ts i)
  unfolding arguments argument_words joined levels_all SoundAll
  arguments_fine left inner h i =
      yields_if _ _ _ (λ _. yields (record { sound = tt; low = omega arith; few = omega arith })) (λ _. arguments_from_fine _ left inner h i)

  -- ---- primaries
  module _ (left : ℕ) (inside : Inside ReadExpression) (h : Inner FineAt left inside) where
    -- a primary
    primary_fine : (i : ℕ) → Yields (λ e j. Fine (is_operation e || is_entry e) left i e j) (primary inside ts i)
    unfolding primary is_operation is_entry Sound Written words number_words levels levels_in enclosed_words
    primary_fine i =
        yields_if _ _ _ (λ e. yields (record {
          sound = leb-true (numeral (text_at ts i)) 2147483647 ((and-eq-true_iff (is digits ts i) (leb (numeral (text_at ts i)) 2147483647)).0 e).1;
          low = omega arith;
          few = omega arith;
        }))
        λ _. yields_if _ _ _ (λ _. yields_if _ _ _ (λ e.
        let n = numeral (text_at ts (i + 1)) in
        yields (record {
          sound = written_negative n (leb-true n 2147483648 ((and-eq-true_iff (is digits ts (i + 1)) (leb n 2147483648)).0 e).1);
          low = omega arith;
          few = omega (arith, few_negative n);
        })) (λ _. fails))
        λ _. yields_if _ _ _ (λ e. yields (leaf refl ((spelt i).as_string (eqb-true (kind_at ts i) a_string e)) refl refl))
        λ _. yields_if _ _ _ (λ _. yields (leaf refl tt refl refl))
        λ _. yields_if _ _ _ (λ _. yields (leaf refl tt refl refl))
        λ _. yields_if _ _ _ (λ _. yields (leaf refl tt refl refl))
        λ _. yields_if _ _ _ (λ e.
        let n = (spelt i).as_name (eqb-true (kind_at ts i) a_name e) in
        yields_if _ _ _
        (λ _. yields_opening _ _ h λ l inner q w. yields_after _ (arguments_fine l inner w (i + 2)) λ es j f. yields (record {
          sound = (n, f.sound);
          low = let a = f.low in omega arith;
          few = let a = f.few in omega (arith, tokens_append (joined (argument_words es)) (sign 41));
        }))
        λ _. yields (leaf refl n refl refl))
        λ _. yields_if _ _ _ (λ _. yields_opening _ _ h λ l inner q w. yields_after _ (w (i + 1)) λ e j f. yields_expect _ ts j _ λ _. in_parens e j l q f)
        λ _. yields_if _ _ _ (λ _. yields_opening _ _ h λ l inner q w. yields_after _ (w (i + 1)) λ e j f. yields_expect _ ts j _ λ _. record {
          sound = f.sound;
          low = let a = f.low in omega arith;
          few = let a : i + 1 + tokens (words e) ≤ j = f.few in omega (arith, tokens_append (words e) (sign 93));
        })
        λ _. fails
      where
        in_parens : (e : Expression) (j l : ℕ) → left ≡ suc l → Fine false l (i + 1) e j → Fine (is_operation (paren e) || is_entry (paren e)) left i (paren e) (j + 1)
        in_parens e j l q f = by (is_operation e || is_entry e)
          where
            by : (b : Bool) → Fine b left i (paren e) (j + 1)
            by true = record { sound = f.sound; low = let a = f.low in omega arith; few = let a : i + 1 + tokens (words e) ≤ j = f.few in omega (arith, tokens_append (words e) (sign 41)) }
            by false = record { sound = f.sound; low = let a = f.low in omega arith; few = let a : i + 1 + tokens (words e) ≤ j = f.few in omega arith }

    -- ---- operands and expressions
    -- an operand
    operand_fine : (i : ℕ) → Yields (λ e j. Fine (is_operation e) left i e j) (operand inside ts i)
    unfolding operand is_operation Sound words levels levels_in enclosed_words
    operand_fine i =
        yields_after _ (primary_fine i) λ a j f. yields_if _ _ _
        (λ _. yields_after _ (primary_fine (j + 1)) λ b m g. yields (record {
          sound = (f.sound, g.sound);
          low = let p = f.low in let q = g.low in omega arith;
          few = let p = f.few in let q = g.few in simp tokens_append (omega arith);
        }))
        λ _. yields (loosen (is_operation a) (is_entry a) f)

    -- an operator behind an operand
    operated_fine : (o : Option Operator) (a : Expression) (i j : ℕ) → Fine (is_operation a) left i a j → Yields (λ e m. Fine false left i e m) (operated o inside ts a j)
    unfolding operated Sound words levels levels_in enclosed_words
    operated_fine none a i j f = yields (loosen false (is_operation a) f)
    operated_fine (some o) a i j f = yields_after _ (operand_fine (j + 1)) λ b m g. yields (record {
      sound = (f.sound, g.sound);
      low = let p = f.low in let q = g.low in omega arith;
      few = let p = f.few in let q = g.few in simp tokens_append (omega arith);
    })

    -- an expression in a level
    expression_in_fine : (i : ℕ) → Yields (λ e j. Fine false left i e j) (expression_in inside ts i)
    unfolding expression_in
    expression_in_fine i = yields_after _ (operand_fine i) λ a j f. operated_fine _ a i j f

  -- every expression
  pub expression_fine : (left : ℕ) (i : ℕ) → Yields (λ e j. Fine false left i e j) (expression left ts i)
  unfolding expression
  expression_fine zero i = expression_in_fine zero no_level closed i
  expression_fine (suc left) i = expression_in_fine (suc left) (level (expression left ts)) (opened (expression_fine left)) i
