-- Each word of an expression's code is paid by a token of its own.
-- Assumes nothing.
use Prim.Native.Nat.{ℕ, zero, suc, ◌+◌, ◌-◌, ◌<◌, ◌≤◌}
use mathlib.Core.Path.{◌≡◌, refl, subst}
use mathlib.Core.Bool.{true}
use mathlib.Core.List.{List, [], ◌++◌}
use native.Mathlib.Omega.{arith}
use lib.ListN.{length, length-append}
use Rattle.std.specs.Prelude.{Option, Some, None}
use Rattle.meaning.specs.Token.{dot, comma, close_paren}
use Rattle.meaning.specs.Grammar.{Got, good, after, Inside, no_level, level, opening}
use Rattle.code.specs.Code.{joined}
use Rattle.expressions.specs.declared.Target.TheVariants.{Neither}
use Rattle.expressions.specs.Words.{kind_at, callee_at, is, positive_at, signed_at, negative_at, operator_tag, Piece, piece, ReadPiece, expect, argument_code, arguments_from, arguments}
use Rattle.expressions.specs.Words.{call_code, table_code, primary, operand, operated, expression_in, expression, inside_of}
use Rattle.expressions.proofs.Tokens.{chosen, both_left}
use Rattle.expressions.proofs.Pays.{kind_inside, Pays, then_pays, expect_pays, Holds, opened}

abbrev pub code_size : Piece → ℕ
code_size e = length e.code

abbrev pub PaysPiece : List ℕ → ℕ → Got Piece → Type 0
PaysPiece ws i g = Pays code_size 1 ws i g

abbrev pub PaysCode : List ℕ → ℕ → Got (List ℕ) → Type 0
PaysCode ws i g = Pays length 0 ws i g

abbrev pub PaysAll : List ℕ → ReadPiece → Type 0
PaysAll ws read = (i : ℕ) → PaysPiece ws i (read i)

-- the sizes of code made from parts
argument_size : (c es : List ℕ) → length (argument_code c ++ es) ≡ 1 + length c + length es
argument_size c es = simp length-append (omega arith)

module _ (inner : ReadPiece) (ws : List ℕ) (ok : PaysAll ws inner) where
  pub arguments_from_pay : (r i : ℕ) → PaysCode ws i (arguments_from r inner ws i)
  unfolding arguments_from
  arguments_from_pay zero i = tt
  arguments_from_pay (suc r) i = then_pays code_size 1 length 0 ws i i (inner i) _ (ok i) λ e j p.
      chosen (PaysCode ws i) (is comma ws j) _ _
      (λ _. then_pays length 0 length 0 ws i (j + 1) (arguments_from r inner ws (j + 1)) _ (arguments_from_pay r (j + 1)) λ es m q.
      omega (arith, argument_size e.code es))
      (λ _. expect_pays length 0 ws i j 40 _ (omega arith) (omega arith) (omega (arith, argument_size e.code [])))

  pub arguments_pay : (i : ℕ) → PaysCode ws i (arguments inner ws i)
  unfolding arguments
  arguments_pay i =
      chosen (PaysCode ws i) (is close_paren ws i) _ _
      (λ q. let w = kind_inside ws i 40 q in omega arith)
      (λ _. arguments_from_pay (suc (length ws - i)) i)

call_size : (n : ℕ) (es : List ℕ) → length (call_code n es) ≡ length es + 1
call_size n es = simp length-append

table_size : (c : List ℕ) → length (table_code c) ≡ length c + 1
table_size c = simp length-append

pub joined_size : (tag : ℕ) (a b : List ℕ) → length (joined tag a b) ≡ length a + length b + 1
joined_size tag a b = simp length-append (omega arith)

module _ (inside : Inside ReadPiece) (ws : List ℕ) (ok : Holds (PaysAll ws) inside) where
  -- one word for one token
  leaf_pays : (i k : ℕ) → is (suc k) ws i ≡ true → (1 ≤ 1) × (i < i + 1) × (i + 1 ≤ i + 1) × (i + 1 ≤ length ws)
  leaf_pays i k q = let w = kind_inside ws i k q in omega arith

  bracketed_pays : (i p k : ℕ) (f : List ℕ → List ℕ) → ((c : List ℕ) → length c ≤ length (f c)) → ((c : List ℕ) → length (f c) ≤ length c + 1)
      → PaysPiece ws i (opening inside p λ inner. after (inner (i + 1)) λ e j. expect (suc k) ws j (piece (f e.code) Neither))
  bracketed_pays i p k f low high =
      opened (PaysPiece ws i) (PaysAll ws) inside p _ ok tt λ inner pays.
      then_pays code_size 1 code_size 1 ws i (i + 1) (inner (i + 1)) _ (pays (i + 1)) λ e j q.
      expect_pays code_size 1 ws i j k _ (omega (arith, low e.code)) (omega arith) (omega (arith, high e.code))

  pub primary_pays : (i : ℕ) → PaysPiece ws i (primary inside ws i)
  unfolding primary
  primary_pays i =
      chosen (PaysPiece ws i) (positive_at ws i) _ _ (λ q. leaf_pays i 1 (both_left _ _ q)) λ _.
      chosen (PaysPiece ws i) (signed_at ws i) _ _
      (λ _. chosen (PaysPiece ws i) (negative_at ws (i + 1)) _ _
      (λ q. let w = kind_inside ws (i + 1) 1 (both_left _ _ q) in omega arith)
      (λ _. tt)) λ _.
      chosen (PaysPiece ws i) (is 3 ws i) _ _ (λ q. leaf_pays i 2 q) λ _.
      chosen (PaysPiece ws i) (is 9 ws i) _ _ (λ q. leaf_pays i 8 q) λ _.
      chosen (PaysPiece ws i) (is 10 ws i) _ _ (λ q. leaf_pays i 9 q) λ _.
      chosen (PaysPiece ws i) (is 11 ws i) _ _ (λ q. leaf_pays i 10 q) λ _.
      chosen (PaysPiece ws i) (is 1 ws i) _ _
      (λ q. chosen (PaysPiece ws i) (is 40 ws (i + 1)) _ _
      (λ _. opened (PaysPiece ws i) (PaysAll ws) inside (i + 1) _ ok tt λ inner pays.
      then_pays length 0 code_size 1 ws i (i + 2) (arguments inner ws (i + 2)) _ (arguments_pay inner ws pays (i + 2)) λ es j p.
      omega (arith, call_size (callee_at ws i) es))
      (λ _. leaf_pays i 0 q)) λ _.
      chosen (PaysPiece ws i) (is 40 ws i) _ _ (λ _. bracketed_pays i i 40 (λ c. c) (λ c. omega arith) (λ c. omega arith)) λ _.
      chosen (PaysPiece ws i) (is 91 ws i) _ _ (λ _. bracketed_pays i i 92 table_code (λ c. omega (arith, table_size c)) (λ c. omega (arith, table_size c))) λ _. tt

  pub operand_pays : (i : ℕ) → PaysPiece ws i (operand inside ws i)
  unfolding operand
  operand_pays i =
      then_pays code_size 1 code_size 1 ws i i (primary inside ws i) _ (primary_pays i) λ a j p.
      chosen (PaysPiece ws i) (is dot ws j) _ _
      (λ _. then_pays code_size 1 code_size 1 ws i (j + 1) (primary inside ws (j + 1)) _ (primary_pays (j + 1)) λ b m q.
      omega (arith, joined_size 7 a.code b.code))
      (λ _. p)

  operated_pays : (i j : ℕ) (o : Option ℕ) (a : Piece) → PaysPiece ws i (good a j) → PaysPiece ws i (operated o inside ws a j)
  unfolding operated
  operated_pays i j None a p = p
  operated_pays i j (Some tag) a p =
      then_pays code_size 1 code_size 1 ws i (j + 1) (operand inside ws (j + 1)) _ (operand_pays (j + 1)) λ b m q.
      omega (arith, joined_size tag a.code b.code)

  pub expression_in_pays : (i : ℕ) → PaysPiece ws i (expression_in inside ws i)
  unfolding expression_in
  expression_in_pays i =
      then_pays code_size 1 code_size 1 ws i i (operand inside ws i) _ (operand_pays i) λ a j p. operated_pays i j (operator_tag (kind_at ws j)) a p

-- ---- levels
-- an expression is read with the inside of its level
pub expression_levels : (left : ℕ) (ws : List ℕ) (i : ℕ) → expression left ws i ≡ expression_in (inside_of left ws) ws i
unfolding expression inside_of
expression_levels zero ws i = refl
expression_levels (suc left) ws i = refl

-- where a level is left, the inside is an expression with one less
pub inside_levels : (left : ℕ) (ws : List ℕ) → (left ≡ 0 → ⊥) → inside_of left ws ≡ level (expression (left - 1) ws)
unfolding inside_of
inside_levels zero ws h = absurd (h refl)
inside_levels (suc left) ws h = let q : suc left - 1 ≡ left = omega arith in rw q

pub inside_none : (ws : List ℕ) → inside_of 0 ws ≡ no_level
unfolding inside_of
inside_none ws = refl

inside_pays : (left : ℕ) (ws : List ℕ) → Holds (PaysAll ws) (inside_of left ws)
unfolding inside_of
inside_pays zero ws = tt
inside_pays (suc left) ws = λ i. rw expression_levels (expression_in_pays (inside_of left ws) ws (inside_pays left ws) i)

pub expression_pays : (left : ℕ) (ws : List ℕ) → PaysAll ws (expression left ws)
unfolding inside_of
expression_pays left ws = inside_pays (suc left) ws

-- ---- each word is paid
-- code read from token i up to token j
pub record Paid (code ws : List ℕ) (i j : ℕ) : Type 0 where
  pub some : 0 < length code
  pub ahead : i < j
  pub paid : i + length code ≤ j
  pub within : j ≤ length ws

-- the same of arguments, of which there may be none
pub record PaidAll (code ws : List ℕ) (i j : ℕ) : Type 0 where
  pub ahead : i < j
  pub paid : i + length code ≤ j
  pub within : j ≤ length ws

paid_piece : (ws : List ℕ) (i : ℕ) (g : Got Piece) → PaysPiece ws i g → (e : Piece) (j : ℕ) → g ≡ good e j → Paid e.code ws i j
paid_piece ws i g p e j q =
    let h : PaysPiece ws i (good e j) = subst (PaysPiece ws i) q p in
    record { some = h.0; ahead = h.1; paid = h.2; within = h.3 }

paid_code : (ws : List ℕ) (i : ℕ) (g : Got (List ℕ)) → PaysCode ws i g → (c : List ℕ) (j : ℕ) → g ≡ good c j → PaidAll c ws i j
paid_code ws i g p c j q =
    let h : PaysCode ws i (good c j) = subst (PaysCode ws i) q p in
    record { ahead = h.1; paid = h.2; within = h.3 }

module _ (left : ℕ) (ws : List ℕ) (i : ℕ) where
  pub primary_paid : (e : Piece) (j : ℕ) → primary (inside_of left ws) ws i ≡ good e j → Paid e.code ws i j
  primary_paid = paid_piece ws i _ (primary_pays (inside_of left ws) ws (inside_pays left ws) i)

  pub operand_paid : (e : Piece) (j : ℕ) → operand (inside_of left ws) ws i ≡ good e j → Paid e.code ws i j
  operand_paid = paid_piece ws i _ (operand_pays (inside_of left ws) ws (inside_pays left ws) i)

  pub expression_paid : (e : Piece) (j : ℕ) → expression left ws i ≡ good e j → Paid e.code ws i j
  expression_paid = paid_piece ws i _ (expression_pays left ws i)

  pub arguments_paid : (c : List ℕ) (j : ℕ) → arguments (expression left ws) ws i ≡ good c j → PaidAll c ws i j
  arguments_paid = paid_code ws i _ (arguments_pay (expression left ws) ws (expression_pays left ws) i)
