-- An expression's words are read as its tree, with the parentheses that its text has.
use Prim.Native.Nat.{ℕ, zero, suc, ◌+◌, ◌≤◌}
use native.Mathlib.Omega.{arith}
use mathlib.Core.Path.{◌≡◌, refl, ap, sym, ◌∙◌, subst}
use mathlib.Core.Bool.{Bool, true, false, ◌&&◌, ◌||◌, true≢false}
use mathlib.Core.List.{List, ◌∷◌, ◌++◌}
use mathlib.Core.Option.{none, some}
use lib.ListN.{length}
use lib.IntN.{ℤ, pos, negsuc}
use lib.Dec.{eqb, leb}
use borrow.Author.Tests.{eq-eqb, le-leb}
use Rattle.meaning.specs.Basics.{if◌then◌otherwise◌}
use Rattle.meaning.specs.Token.{Token, a_name, digits, open_paren, dot}
use Rattle.meaning.specs.Grammar.{good, after, expect, is, kind_at, text_at, start_at, numeral, operator_of, Inside, no_level, level, opening}
use Rattle.meaning.specs.Grammar.{ReadExpression, arguments_from, arguments, primary, operand, operated, expression_in, expression}
use Rattle.meaning.specs.Tree.{Operator, concatenate, add, subtract, multiply, divide, remainder, shift_right, shift_left, equal, unequal, greater, less}
use Rattle.meaning.specs.Tree.{Expression, number, string, nothing, truth, name, table, entry, operation, call, paren, Arguments, no_argument, argument}
use Rattle.meaning.proofs.DecimalLaws.{numeral_digits_of}
use Rattle.meaning.proofs.GrammarLaws.{arguments_rounds}
use Rattle.canonical.specs.Text.{operator_text, is_operation, is_entry}
use Rattle.roundtrip.proofs.Words.{Word, sign, a_word, joined, operator_kind, number_words, enclosed_words, words, argument_words, levels_in, levels, levels_all, paren_if, kept, kept_all}
use Rattle.roundtrip.proofs.Scanning.{differs}
use Rattle.roundtrip.proofs.Sound.{Written, Sound, SoundAll}
use Rattle.roundtrip.proofs.Stands.{Stands, split}

-- ---- operators
operator_of_lem : (o : Operator) → operator_of (operator_kind o) ≡ some o
unfolding operator_of operator_kind if◌then◌otherwise◌
operator_of_lem concatenate = refl
operator_of_lem add = refl
operator_of_lem subtract = refl
operator_of_lem multiply = refl
operator_of_lem divide = refl
operator_of_lem remainder = refl
operator_of_lem shift_right = refl
operator_of_lem shift_left = refl
operator_of_lem equal = refl
operator_of_lem unequal = refl
operator_of_lem greater = refl
operator_of_lem less = refl

-- no operator is an opening parenthesis or a dot
operator_apart : (o : Operator) → (eqb (operator_kind o) 40 ≡ false) × (eqb (operator_kind o) 46 ≡ false)
unfolding operator_kind
operator_apart concatenate = (refl, refl)
operator_apart add = (refl, refl)
operator_apart subtract = (refl, refl)
operator_apart multiply = (refl, refl)
operator_apart divide = (refl, refl)
operator_apart remainder = (refl, refl)
operator_apart shift_right = (refl, refl)
operator_apart shift_left = (refl, refl)
operator_apart equal = (refl, refl)
operator_apart unequal = (refl, refl)
operator_apart greater = (refl, refl)
operator_apart less = (refl, refl)

-- ---- the first word of an expression
-- by its kind, by whether it is a number's digits and by whether digits stand directly behind; in the order of `begins_statement`
unfoldable pub opens : Bool → Bool → ℕ → Bool
opens n d k = (eqb k 2 && n) || (eqb k 45 && d) || eqb k 3 || eqb k 9 || eqb k 10 || eqb k 11 || eqb k 1 || eqb k 40 || eqb k 91

-- ---- what follows
-- a token of this kind goes on with no primary, operand or expression before it
pub record Ends (k : ℕ) : Type 0 where
  pub no_call : eqb k 40 ≡ false
  pub no_dot : eqb k 46 ≡ false
  pub no_operator : operator_of k ≡ none

-- such a kind
pub ends : (k : ℕ) → eqb k 40 ≡ false → eqb k 46 ≡ false → operator_of k ≡ none → Ends k
ends k a b c = record { no_call = a; no_dot = b; no_operator = c }

module _ (ts : List Token) where
  -- what may be read inside a level
  abbrev pub inside_of : ℕ → Inside ReadExpression
  inside_of zero = no_level
  inside_of (suc left) = level (expression left ts)

  -- an expression is read alike with levels left and without
  expression_is : (left i : ℕ) → expression left ts i ≡ expression_in (inside_of left) ts i
  unfolding expression
  expression_is zero i = refl
  expression_is (suc left) i = refl

  -- ---- how an expression's words begin
  -- whether an expression can begin with token i
  abbrev pub opens_at : ℕ → Bool
  opens_at i = opens (leb (numeral (text_at ts i)) 2147483647) (is digits ts (i + 1) && eqb (start_at ts (i + 1)) (start_at ts i + 1)) (kind_at ts i)

  -- in parentheses or not
  starts_enclosed : (b : Bool) (ws : List Word) (i j : ℕ) → Stands ts i (enclosed_words b ws) j → (Stands ts i ws j → opens_at i ≡ true) → opens_at i ≡ true
  unfolding enclosed_words opens
  starts_enclosed true ws i j h f = rw h.0
  starts_enclosed false ws i j h f = f h

  -- every expression begins with one of these
  pub starts : (e : Expression) → Sound e → (i j : ℕ) → Stands ts i (words e) j → opens_at i ≡ true
  unfolding words number_words opens Sound Written
  starts (number (pos n)) f i j h = rw (h.0, h.1, numeral_digits_of n, le-leb n 2147483647 f)
  starts (number (negsuc n)) f i j h = rw (h.0, h.1, eq-eqb (start_at ts (i + 1)) (start_at ts i + 1) h.3)
  starts (string t) f i j h = rw h.0
  starts nothing f i j h = rw h.0
  starts (truth true) f i j h = rw h.0
  starts (truth false) f i j h = rw h.0
  starts (name x) f i j h = rw h.0
  starts (table e) f i j h = rw h.0
  starts (entry a b) f i j h =
      let w = enclosed_words (is_operation a || is_entry a) (words a) in
      let p = split ts i (w ++ sign 46) (enclosed_words (is_operation b || is_entry b) (words b)) j h in
      let q = split ts i w (sign 46) p.0 p.1 in
      starts_enclosed (is_operation a || is_entry a) (words a) i q.0 q.1 (λ k. starts a f.0 i q.0 k)
  starts (operation o a b) f i j h =
      let w = enclosed_words (is_operation a) (words a) in
      let p = split ts i (w ++ a_word (operator_kind o) (operator_text o)) (enclosed_words (is_operation b) (words b)) j h in
      let q = split ts i w (a_word (operator_kind o) (operator_text o)) p.0 p.1 in
      starts_enclosed (is_operation a) (words a) i q.0 q.1 (λ k. starts a f.0 i q.0 k)
  starts (call x es) f i j h = rw h.0
  starts (paren e) f i j h = starts e f i j h

  -- ---- what is read of an expression's words
  pub record Read (e : Expression) : Type 0 where
    pub as_primary : is_operation e || is_entry e ≡ false → (left i j : ℕ) → levels e ≤ left → Stands ts i (words e) j → is open_paren ts j ≡ false →
        primary (inside_of left) ts i ≡ good (kept e) j
    pub as_operand : is_operation e ≡ false → (left i j : ℕ) → levels e ≤ left → Stands ts i (words e) j → is open_paren ts j ≡ false → is dot ts j ≡ false →
        operand (inside_of left) ts i ≡ good (kept e) j
    pub as_expression : (left i j : ℕ) → levels e ≤ left → Stands ts i (words e) j → Ends (kind_at ts j) → expression left ts i ≡ good (kept e) j

  -- a primary with no dot behind it is an operand
  operand_of : (left i j : ℕ) (e : Expression) → primary (inside_of left) ts i ≡ good e j → is dot ts j ≡ false → operand (inside_of left) ts i ≡ good e j
  unfolding operand after if◌then◌otherwise◌
  operand_of left i j e p d = rw (p, d)

  -- an operand with no operator behind it is an expression
  expression_of : (left i j : ℕ) (e : Expression) → operand (inside_of left) ts i ≡ good e j → operator_of (kind_at ts j) ≡ none → expression left ts i ≡ good e j
  unfolding expression_in after operated
  expression_of left i j e p d = expression_is left i ∙ rw (p, d)

  -- a primary is an operand and an expression too
  by_primary : (e : Expression) → ((left i j : ℕ) → levels e ≤ left → Stands ts i (words e) j → is open_paren ts j ≡ false → primary (inside_of left) ts i ≡ good (kept e) j) → Read e
  by_primary e h = record {
    as_primary = λ _ left i j l s k. h left i j l s k;
    as_operand = λ _ left i j l s k d. operand_of left i j (kept e) (h left i j l s k) d;
    as_expression = λ left i j l s k. expression_of left i j (kept e) (operand_of left i j (kept e) (h left i j l s k.no_call) k.no_dot) k.no_operator;
  }

  -- ---- constants
  -- a constant is read as its number
  read_number : (z : ℤ) → Written z → (left i j : ℕ) → Stands ts i (number_words z) j → primary (inside_of left) ts i ≡ good (number z) j
  unfolding number_words Written primary if◌then◌otherwise◌
  read_number (pos n) w left i j h = rw (h.0, h.1, numeral_digits_of n, le-leb n 2147483647 w, h.2)
  read_number (negsuc n) w left i j h =
      rw (h.0, h.1, eq-eqb (start_at ts (i + 1)) (start_at ts i + 1) h.3, h.2, numeral_digits_of (suc n), le-leb (suc n) 2147483648 (omega arith), h.4)

  -- ---- a side of a dot, and an operand
  -- an expression in parentheses
  enclosed_is : (e : Expression) → Read e → (left i j : ℕ) → suc (levels e) ≤ left → Stands ts i (sign 40 ++ words e ++ sign 41) j →
      primary (inside_of left) ts i ≡ good (paren (kept e)) j
  unfolding primary opening after expect if◌then◌otherwise◌ operator_of
  enclosed_is e f zero i j l h = absurd (omega arith)
  enclosed_is e f (suc left) i j l h =
      let p = split ts (i + 1) (words e) (sign 41) j h.2 in
      let k = p.2.0 in
      let r = f.as_expression left (i + 1) p.0 (omega arith) p.1 (rw k (ends 41 refl refl refl)) in
      rw (h.0, r, k, p.2.2)

  -- a side of a dot
  side : (b : Bool) (e : Expression) → Read e → is_operation e || is_entry e ≡ b → (left i j : ℕ) → levels_in b (levels e) ≤ left → Stands ts i (enclosed_words b (words e)) j →
      is open_paren ts j ≡ false → primary (inside_of left) ts i ≡ good (paren_if b (kept e)) j
  unfolding enclosed_words paren_if levels_in
  side true e f n left i j l h k = enclosed_is e f left i j l h
  side false e f n left i j l h k = f.as_primary n left i j l h k

  -- an operand of an operator
  part : (b : Bool) (e : Expression) → Read e → is_operation e ≡ b → (left i j : ℕ) → levels_in b (levels e) ≤ left → Stands ts i (enclosed_words b (words e)) j →
      is open_paren ts j ≡ false → is dot ts j ≡ false → operand (inside_of left) ts i ≡ good (paren_if b (kept e)) j
  unfolding enclosed_words paren_if levels_in
  part true e f n left i j l h k d = operand_of left i j (paren (kept e)) (enclosed_is e f left i j l h) d
  part false e f n left i j l h k d = f.as_operand n left i j l h k d

  -- an entry
  read_entry : (a b : Expression) → Read a → Read b → (left i j : ℕ) → levels (entry a b) ≤ left → Stands ts i (words (entry a b)) j → is open_paren ts j ≡ false →
      operand (inside_of left) ts i ≡ good (kept (entry a b)) j
  unfolding words levels kept operand after if◌then◌otherwise◌
  read_entry a b f g left i j l h k =
      let w = enclosed_words (is_operation a || is_entry a) (words a) in
      let p = split ts i (w ++ sign 46) (enclosed_words (is_operation b || is_entry b) (words b)) j h in
      let q = split ts i w (sign 46) p.0 p.1 in
      let d = q.2.0 in
      let x = side (is_operation a || is_entry a) a f refl left i q.0 (omega arith) q.1 (ap (λ (n : ℕ). eqb n 40) d) in
      let y = side (is_operation b || is_entry b) b g refl left p.0 j (omega arith) p.2 k in
      rw (x, d, q.2.2, y)

  -- an operation
  read_operation : (o : Operator) (a b : Expression) → Read a → Read b → (left i j : ℕ) → levels (operation o a b) ≤ left → Stands ts i (words (operation o a b)) j →
      is open_paren ts j ≡ false → is dot ts j ≡ false → expression left ts i ≡ good (kept (operation o a b)) j
  unfolding words levels kept expression_in after operated
  read_operation o a b f g left i j l h k n =
      let w = enclosed_words (is_operation a) (words a) in
      let p = split ts i (w ++ a_word (operator_kind o) (operator_text o)) (enclosed_words (is_operation b) (words b)) j h in
      let q = split ts i w (a_word (operator_kind o) (operator_text o)) p.0 p.1 in
      let d = q.2.0 in
      let x = part (is_operation a) a f refl left i q.0 (omega arith) q.1 (ap (λ (n : ℕ). eqb n 40) d ∙ (operator_apart o).0) (ap (λ (n : ℕ). eqb n 46) d ∙ (operator_apart o).1) in
      let y = part (is_operation b) b g refl left p.0 j (omega arith) p.2 k n in
      expression_is left i ∙ rw (x, d, operator_of_lem o, q.2.2, y)

  -- ---- calls
  abbrev ReadAll : Arguments → Type 0
  ReadAll no_argument = Unit {0}
  ReadAll (argument e es) = Read e × ReadAll es

  -- as many rounds as arguments, and more
  rounds : Arguments → ℕ → ℕ
  rounds no_argument r = r
  rounds (argument e es) r = suc (rounds es r)

  -- they are no fewer
  rounds_more : (es : Arguments) (r : ℕ) → r ≤ rounds es r
  unfolding rounds
  rounds_more no_argument r = omega arith
  rounds_more (argument e es) r = omega (arith, rounds_more es r)

  -- one argument or more
  read_arguments_from : (e : Expression) (es : Arguments) (r : ℕ) → Read e → ReadAll es → (left i j : ℕ) → levels e ≤ left → levels_all es ≤ left →
      Stands ts i (joined (words e ∷ argument_words es)) j → kind_at ts j ≡ 41 →
      arguments_from (suc (rounds es r)) (expression left ts) ts i ≡ good (argument (kept e) (kept_all es)) (j + 1)
  unfolding arguments_from rounds joined argument_words levels_all kept after expect if◌then◌otherwise◌ operator_of
  read_arguments_from e no_argument r f fs left i j l ls h k =
      let x = f.as_expression left i j l h (rw k (ends 41 refl refl refl)) in
      rw (x, k)
  read_arguments_from e (argument e' es) r f fs left i j l ls h k =
      let p = split ts i (words e ++ sign 44) (joined (words e' ∷ argument_words es)) j h in
      let q = split ts i (words e) (sign 44) p.0 p.1 in
      let d = q.2.0 in
      let x = f.as_expression left i q.0 l q.1 (rw d (ends 44 refl refl refl)) in
      let y = read_arguments_from e' es r fs.0 fs.1 left p.0 j (omega arith) (omega arith) p.2 k in
      rw (x, d, q.2.2, y)

  -- all arguments
  read_arguments : (es : Arguments) → SoundAll es → ReadAll es → (left i j : ℕ) → levels_all es ≤ left → Stands ts i (joined (argument_words es)) j → kind_at ts j ≡ 41 →
      arguments (expression left ts) ts i ≡ good (kept_all es) (j + 1)
  unfolding arguments joined argument_words levels_all kept if◌then◌otherwise◌ opens Sound
  read_arguments no_argument s fs left i j l h k =
      let d : kind_at ts i ≡ 41 = subst (λ (n : ℕ). kind_at ts n ≡ 41) (sym h) k in
      rw (d, h)
  read_arguments (argument e es) s fs left i j l h k =
      let n : eqb (kind_at ts i) 41 ≡ false = differs (opens _ _) (kind_at ts i) 41 (first_of e es s.0 i j h) refl in
      let m = rounds_more es (length ts) in
      rw (n, ← arguments_rounds ts left i (suc (rounds es (length ts))) (omega arith))
      (read_arguments_from e es (length ts) fs.0 fs.1 left i j (omega arith) (omega arith) h k)
    where
      first_of : (e : Expression) (es : Arguments) → Sound e → (i j : ℕ) → Stands ts i (joined (words e ∷ argument_words es)) j → opens_at i ≡ true
      first_of e no_argument f i j h = starts e f i j h
      first_of e (argument e' es) f i j h =
          let p = split ts i (words e ++ sign 44) (joined (words e' ∷ argument_words es)) j h in
          let q = split ts i (words e) (sign 44) p.0 p.1 in
          starts e f i q.0 q.1

  -- a call
  read_call : (x : List ℕ) (es : Arguments) → SoundAll es → ReadAll es → (left i j : ℕ) → levels (call x es) ≤ left → Stands ts i (words (call x es)) j →
      primary (inside_of left) ts i ≡ good (kept (call x es)) j
  unfolding words levels kept primary opening after if◌then◌otherwise◌
  read_call x es f fs zero i j l h = absurd (omega arith)
  read_call x es f fs (suc left) i j l h =
      let e : i + 1 + 1 ≡ i + 2 = omega arith in
      let s : Stands ts (i + 2) (joined (argument_words es) ++ sign 41) j = subst (λ (n : ℕ). Stands ts n (joined (argument_words es) ++ sign 41) j) e h.2.2 in
      let p = split ts (i + 2) (joined (argument_words es)) (sign 41) j s in
      let r = read_arguments es f fs left (i + 2) p.0 (omega arith) p.1 p.2.0 in
      rw (h.0, h.2.0, r, h.1, p.2.2)

  -- a table
  read_table : (e : Expression) → Read e → (left i j : ℕ) → levels (table e) ≤ left → Stands ts i (words (table e)) j →
      primary (inside_of left) ts i ≡ good (table (kept e)) j
  unfolding words levels primary opening after expect if◌then◌otherwise◌ operator_of
  read_table e f zero i j l h = absurd (omega arith)
  read_table e f (suc left) i j l h =
      let p = split ts (i + 1) (words e) (sign 93) j h.2 in
      let k = p.2.0 in
      let r = f.as_expression left (i + 1) p.0 (omega arith) p.1 (rw k (ends 93 refl refl refl)) in
      rw (h.0, r, k, p.2.2)

  -- a name that no parenthesis follows
  read_name : (x : List ℕ) (left i j : ℕ) → Stands ts i (a_word a_name x) j → is open_paren ts j ≡ false → primary (inside_of left) ts i ≡ good (name x) j
  unfolding primary if◌then◌otherwise◌
  read_name x left i j h k = rw (h.0, h.2, k, h.1)

  -- ---- all expressions
  mutual
    unfolding words levels kept Sound is_operation is_entry primary if◌then◌otherwise◌

    pub read : (e : Expression) → Sound e → Read e
    read (number z) h = by_primary (number z) λ left i j l s k. read_number z h left i j s
    read (string t) h = by_primary (string t) λ left i j l s k. rw (s.0, s.1, s.2)
    read nothing h = by_primary nothing λ left i j l s k. rw (s.0, s.2)
    read (truth true) h = by_primary (truth true) λ left i j l s k. rw (s.0, s.2)
    read (truth false) h = by_primary (truth false) λ left i j l s k. rw (s.0, s.2)
    read (name x) h = by_primary (name x) λ left i j l s k. read_name x left i j s k
    read (table e) h = by_primary (table e) λ left i j l s k. read_table e (read e h) left i j l s
    read (entry a b) h = record {
      as_primary = λ n. absurd (true≢false n);
      as_operand = λ _ left i j l s k d. read_entry a b (read a h.0) (read b h.1) left i j l s k;
      as_expression = λ left i j l s k.
          expression_of left i j (kept (entry a b)) (read_entry a b (read a h.0) (read b h.1) left i j l s k.no_call) k.no_operator;
    }
    read (operation o a b) h = record {
      as_primary = λ n. absurd (true≢false n);
      as_operand = λ n. absurd (true≢false n);
      as_expression = λ left i j l s k. read_operation o a b (read a h.0) (read b h.1) left i j l s k.no_call k.no_dot;
    }
    read (call f es) h = by_primary (call f es) λ left i j l s k. read_call f es h.1 (read_all es h.1) left i j l s
    read (paren e) h =
        let r = read e h in
        record { as_primary = r.as_primary; as_operand = r.as_operand; as_expression = r.as_expression }

    read_all : (es : Arguments) → SoundAll es → ReadAll es
    read_all no_argument h = tt
    read_all (argument e es) h = (read e h.0, read_all es h.1)
