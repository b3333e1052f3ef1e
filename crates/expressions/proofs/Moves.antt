-- What each way through a reading function answers is what reading yields. a, b and e are what was read, s₀ is the slice at the entry.
-- Assumes nothing.
use Prim.Native.Nat.{ℕ, ◌+◌, ◌-◌}
use mathlib.Core.Path.{◌≡◌, ◌∙◌, refl, sym, ap}
use mathlib.Core.List.{List}
use borrow.Author.Tests.{ne_eqb}
use Rattle.std.specs.Prelude.{Result, Ok, Err, Some, None}
use Rattle.meaning.specs.Basics.{if◌then◌otherwise◌}
use Rattle.meaning.specs.Token.{dot, close_paren, close_bracket}
use Rattle.meaning.specs.Grammar.{Got, good, wrong, after, no_level, opening}
use Rattle.code.specs.Code.{joined}
use Rattle.expressions.specs.declared.Read.{Read}
use Rattle.expressions.specs.declared.Misfit.{Misfit}
use Rattle.expressions.specs.declared.Target.{Target}
use Rattle.expressions.specs.declared.Target.TheVariants.{Neither, Name, Entry}
use Rattle.expressions.specs.Words.{kind_at, home_at, callee_at, part_at, operator_tag, Piece, piece, leaf, expect, arguments, call_code, table_code, primary, operand, operated}
use Rattle.expressions.specs.Words.{expression_in, expression, inside_of, is, seen, written, written_code}
use Rattle.expressions.specs.Steps.{closed, finished, combined}
use Rattle.expressions.proofs.Paid.{expression_levels, inside_levels}
use Rattle.expressions.proofs.Answers.{says, refused, exits, wrote, good_seen}
use Rattle.expressions.proofs.Primaries.{primary_string, primary_none, primary_true, primary_false, primary_name, primary_call, primary_paren, primary_table, primary_other}
use Rattle.expressions.proofs.Primaries.{primary_constant, primary_signed}
use Rattle.expressions.proofs.Steps.{combined_joins, finished_code, finished_piece, closed_reads, expected_after}

-- ---- expressions
pub expression_after : (left : ℕ) (ws : List ℕ) (i : ℕ)
    → expression left ws i ≡ after (operand (inside_of left ws) ws i) λ a j. operated (operator_tag (kind_at ws j)) (inside_of left ws) ws a j
unfolding expression_in
expression_after left ws i = expression_levels left ws i

module _ (left : ℕ) (ws : List ℕ) (i n : ℕ) (s₀ s : List ℕ) (a : Read) (h : seen (Ok a) s ≡ written (operand (inside_of left ws) ws i) n s₀) (kind : ℕ) (k : kind ≡ kind_at ws a.token) where
  pub expression_one : None ≡ operator_tag kind → seen (Ok a) s ≡ written (expression left ws i) n s₀
  unfolding operated after
  expression_one o =
      let w = wrote _ n s₀ s a h in
      rw (expression_after, w.read, ← k, ← o) (good_seen _ n s₀ a s w)

  module _ (tag : ℕ) (o : Some tag ≡ operator_tag kind) where
    -- the first operand's code
    abbrev pub first : List ℕ
    first = (wrote _ n s₀ s a h).piece.code

    pub second_after : expression left ws i ≡ after (operand (inside_of left ws) ws (a.token + 1)) λ b m. good (piece (joined tag first b.code) Neither) m
    unfolding operated after
    second_after = let w = wrote _ n s₀ s a h in rw (expression_after, w.read, ← k, ← o)

    pub expression_two : (b r : Read) (s₂ s₃ : List ℕ) → seen (Ok b) s₂ ≡ written (operand (inside_of left ws) ws (a.token + 1)) a.word s
        → seen (Ok r) s₃ ≡ combined tag n a.word Neither (seen (Ok b) s₂) → seen (Ok r) s₃ ≡ written (expression left ws i) n s₀
    expression_two b r s₂ s₃ h₂ h₃ =
        let w = wrote _ n s₀ s a h in
        rw second_after (h₃ ∙ ap (combined tag n a.word Neither) h₂ ∙ combined_joins _ tag Neither n a.word w.piece.code s₀ s w.up_to w.front)

-- ---- operands
pub operand_after : (left : ℕ) (ws : List ℕ) (i : ℕ) → operand (inside_of left ws) ws i ≡ after (primary (inside_of left ws) ws i) λ a j.
    if is dot ws j then (λ _. after (primary (inside_of left ws) ws (j + 1)) λ b m. good (piece (joined 7 a.code b.code) Entry) m)
    otherwise λ _. good a j
unfolding operand
operand_after left ws i = refl

module _ (left : ℕ) (ws : List ℕ) (i n : ℕ) (s₀ s : List ℕ) (a : Read) (h : seen (Ok a) s ≡ written (primary (inside_of left ws) ws i) n s₀) (kind : ℕ) (k : kind ≡ kind_at ws a.token) where
  pub operand_one : (kind ≡ 46 → ⊥) → seen (Ok a) s ≡ written (operand (inside_of left ws) ws i) n s₀
  unfolding operand after if◌then◌otherwise◌
  operand_one z =
      let w = wrote _ n s₀ s a h in
      rw (w.read, ← k, ne_eqb _ _ z) (good_seen _ n s₀ a s w)

  module _ (z : kind ≡ 46) where
    abbrev pub table : List ℕ
    table = (wrote _ n s₀ s a h).piece.code

    pub key_after : operand (inside_of left ws) ws i ≡ after (primary (inside_of left ws) ws (a.token + 1)) λ b m. good (piece (joined 7 table b.code) Entry) m
    unfolding operand after if◌then◌otherwise◌
    key_after = let w = wrote _ n s₀ s a h in rw (w.read, ← k, z)

    pub operand_two : (b r : Read) (s₂ s₃ : List ℕ) → seen (Ok b) s₂ ≡ written (primary (inside_of left ws) ws (a.token + 1)) a.word s
        → seen (Ok r) s₃ ≡ combined 7 n a.word Entry (seen (Ok b) s₂) → seen (Ok r) s₃ ≡ written (operand (inside_of left ws) ws i) n s₀
    operand_two b r s₂ s₃ h₂ h₃ =
        let w = wrote _ n s₀ s a h in
        rw key_after (h₃ ∙ ap (combined 7 n a.word Entry) h₂ ∙ combined_joins _ 7 Entry n a.word w.piece.code s₀ s w.up_to w.front)

-- ---- primaries
module _ (left : ℕ) (ws : List ℕ) (i kind : ℕ) (k : kind ≡ kind_at ws i) where
  -- an answer for what the primary is
  being : (n : ℕ) (s₀ s : List ℕ) (r : Result Read Misfit) (g : Got Piece) → primary (inside_of left ws) ws i ≡ g → seen r s ≡ written g n s₀
      → seen r s ≡ written (primary (inside_of left ws) ws i) n s₀
  being n s₀ s r g q h = rw q h

  module _ (n : ℕ) (s₀ s : List ℕ) (r : Result Read Misfit) where
    pub reads_digits : kind ≡ 2 → seen r s ≡ written (primary no_level ws i) n s₀ → seen r s ≡ written (primary (inside_of left ws) ws i) n s₀
    reads_digits e = being n s₀ s r _ (primary_constant _ ws i kind k e)

    pub reads_negative : kind ≡ 45 → seen r s ≡ written (primary no_level ws i) n s₀ → seen r s ≡ written (primary (inside_of left ws) ws i) n s₀
    reads_negative e = being n s₀ s r _ (primary_signed _ ws i kind k e)

    pub reads_string : (x : ℕ) → kind ≡ 3 → x ≡ part_at ws i → seen r s ≡ written (leaf 2 x Neither (i + 1)) n s₀ → seen r s ≡ written (primary (inside_of left ws) ws i) n s₀
    reads_string x e p h = being n s₀ s r _ (primary_string _ ws i (sym k ∙ e)) (rw p at h)

    pub reads_none : kind ≡ 9 → seen r s ≡ written (leaf 3 0 Neither (i + 1)) n s₀ → seen r s ≡ written (primary (inside_of left ws) ws i) n s₀
    reads_none e = being n s₀ s r _ (primary_none _ ws i (sym k ∙ e))

    pub reads_true : kind ≡ 10 → seen r s ≡ written (leaf 4 1 Neither (i + 1)) n s₀ → seen r s ≡ written (primary (inside_of left ws) ws i) n s₀
    reads_true e = being n s₀ s r _ (primary_true _ ws i (sym k ∙ e))

    pub reads_false : kind ≡ 11 → seen r s ≡ written (leaf 4 0 Neither (i + 1)) n s₀ → seen r s ≡ written (primary (inside_of left ws) ws i) n s₀
    reads_false e = being n s₀ s r _ (primary_false _ ws i (sym k ∙ e))

    pub reads_name : (x found : ℕ) → kind ≡ 1 → found ≡ kind_at ws (i + 1) → (found ≡ 40 → ⊥) → x ≡ home_at ws i → seen r s ≡ written (leaf 5 x Name (i + 1)) n s₀
        → seen r s ≡ written (primary (inside_of left ws) ws i) n s₀
    reads_name x found e f l p h = being n s₀ s r _ (primary_name _ ws i (sym k ∙ e) (λ q. l (f ∙ q))) (rw p at h)

  -- where a level is left
  module _ (l : left ≡ 0 → ⊥) where
    pub call_after : (found : ℕ) → kind ≡ 1 → found ≡ kind_at ws (i + 1) → found ≡ 40
        → primary (inside_of left ws) ws i ≡ after (arguments (expression (left - 1) ws) ws (i + 2)) λ es j. good (piece (call_code (callee_at ws i) es) Neither) j
    unfolding opening
    call_after found e f g = primary_call _ ws i (sym k ∙ e) (sym f ∙ g) ∙ rw (inside_levels left ws l)

    pub paren_after : kind ≡ 40 → primary (inside_of left ws) ws i ≡ after (expression (left - 1) ws (i + 1)) λ e j. expect close_paren ws j (piece e.code Neither)
    unfolding opening
    paren_after e = primary_paren _ ws i (sym k ∙ e) ∙ rw (inside_levels left ws l)

    pub table_after : kind ≡ 91 → primary (inside_of left ws) ws i ≡ after (expression (left - 1) ws (i + 1)) λ e j. expect close_bracket ws j (piece (table_code e.code) Neither)
    unfolding opening
    table_after e = primary_table _ ws i (sym k ∙ e) ∙ rw (inside_levels left ws l)

    -- the bracket, and then the word
    pub bracket_after : kind ≡ 91 → primary (inside_of left ws) ws i
        ≡ after (after (expression (left - 1) ws (i + 1)) λ e j. expect close_bracket ws j (piece e.code Neither)) λ e j. good (piece (table_code e.code) Neither) j
    bracket_after e = table_after e ∙ expected_after _ 93 ws table_code

    module _ (n : ℕ) (s₀ s : List ℕ) where
      pub reads_call : (es r : Read) (s₁ : List ℕ) (x found : ℕ) → kind ≡ 1 → found ≡ kind_at ws (i + 1) → found ≡ 40
          → seen (Ok es) s₁ ≡ written_code (arguments (expression (left - 1) ws) ws (i + 2)) n s₀
          → x ≡ callee_at ws i → seen (Ok r) s ≡ finished 8 n x (seen (Ok es) s₁) → seen (Ok r) s ≡ written (primary (inside_of left ws) ws i) n s₀
      reads_call es r s₁ x found e f g h p q =
          let y : seen (Ok r) s ≡ finished 8 n (callee_at ws i) (written_code (arguments (expression (left - 1) ws) ws (i + 2)) n s₀) = cc in
          rw (call_after found e f g) (y ∙ finished_code _ 8 n (callee_at ws i) s₀)

      pub reads_paren : (e : Read) (r : Result Read Misfit) → kind ≡ 40 → seen (Ok e) s ≡ written (expression (left - 1) ws (i + 1)) n s₀ → r ≡ closed 41 ws e
          → seen r s ≡ written (primary (inside_of left ws) ws i) n s₀
      reads_paren e r f h c = rw (paren_after f) (closed_reads e r _ 41 n ws s₀ s h c)

      pub reads_table : (e b r : Read) (s₁ : List ℕ) → kind ≡ 91 → seen (Ok e) s₁ ≡ written (expression (left - 1) ws (i + 1)) n s₀ → Ok b ≡ closed 93 ws e
          → seen (Ok r) s ≡ finished 6 n 0 (seen (Ok b) s₁) → seen (Ok r) s ≡ written (primary (inside_of left ws) ws i) n s₀
      reads_table e b r s₁ f h c q =
          rw (bracket_after f) (q ∙ ap (finished 6 n 0) (closed_reads e (Ok b) _ 93 n ws s₀ s₁ h c) ∙ finished_piece _ 6 n 0 s₀)

  -- a level where none is left, and a token that begins no primary
  module _ (n : ℕ) (s₀ : List ℕ) where
    pub reads_no_call : (found : ℕ) → kind ≡ 1 → found ≡ kind_at ws (i + 1) → found ≡ 40 → left ≡ 0
        → seen (Err (record { number = 75; token = i + 1 })) s₀ ≡ written (primary (inside_of left ws) ws i) n s₀
    unfolding opening inside_of
    reads_no_call found e f g l = refused (says n s₀) _ s₀ (primary_call _ ws i (sym k ∙ e) (sym f ∙ g) ∙ rw l)

    pub reads_no_paren : kind ≡ 40 → left ≡ 0 → seen (Err (record { number = 75; token = i })) s₀ ≡ written (primary (inside_of left ws) ws i) n s₀
    unfolding opening inside_of
    reads_no_paren e l = refused (says n s₀) _ s₀ (primary_paren _ ws i (sym k ∙ e) ∙ rw l)

    pub reads_no_table : kind ≡ 91 → left ≡ 0 → seen (Err (record { number = 75; token = i })) s₀ ≡ written (primary (inside_of left ws) ws i) n s₀
    unfolding opening inside_of
    reads_no_table e l = refused (says n s₀) _ s₀ (primary_table _ ws i (sym k ∙ e) ∙ rw l)

    pub reads_other : (kind ≡ 2 → ⊥) → (kind ≡ 45 → ⊥) → (kind ≡ 3 → ⊥) → (kind ≡ 9 → ⊥) → (kind ≡ 10 → ⊥) → (kind ≡ 11 → ⊥) → (kind ≡ 1 → ⊥) → (kind ≡ 40 → ⊥) → (kind ≡ 91 → ⊥)
        → seen (Err (record { number = 10; token = i })) s₀ ≡ written (primary (inside_of left ws) ws i) n s₀
    reads_other h2 h45 h3 h9 h10 h11 h1 h40 h91 = refused (says n s₀) _ s₀ (primary_other _ ws i kind k h2 h45 h3 h9 h10 h11 h1 h40 h91)
