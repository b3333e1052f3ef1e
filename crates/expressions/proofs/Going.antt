-- The loop over arguments: what is left from the start is what is left from here.
-- Assumes nothing.
use Prim.Native.Nat.{ℕ, zero, suc, ◌+◌, ◌-◌, ◌^◌, ◌<◌, ◌≤◌}
use mathlib.Core.Path.{◌≡◌, ◌∙◌, refl, sym, ap}
use mathlib.Core.List.{List, [], ◌++◌, append-nil}
use native.Mathlib.Omega.{arith}
use borrow.Author.Tests.{ne_eqb}
use lib.ListN.{length, take, set, length-append, length-set}
use Rattle.std.specs.Prelude.{Result, Ok, Err, IsErrAnd}
use Rattle.meaning.specs.Basics.{if◌then◌otherwise◌}
use Rattle.meaning.specs.Token.{comma, close_paren}
use Rattle.meaning.specs.Grammar.{Got, good, wrong, after}
use Rattle.machine.specs.Opcodes.{word}
use Rattle.expressions.specs.declared.Read.{Read}
use Rattle.expressions.specs.declared.Misfit.{Misfit}
use Rattle.expressions.specs.declared.Target.TheVariants.{Neither}
use Rattle.expressions.specs.Words.{kind_at, is, Piece, expect, argument_code, arguments_from, arguments, expression, at, seen, written, written_code}
use Rattle.expressions.specs.Room.{Room}
use Rattle.expressions.proofs.Paid.{expression_paid}
use Rattle.expressions.proofs.Answers.{take_put_before, says, says_code, refused, exits, Wrote, wrote, same_after, shifted}

-- ---- rounds
-- an argument, and what `rest` yields behind a comma
abbrev turn : List ℕ → (ℕ → Got (List ℕ)) → Piece → ℕ → Got (List ℕ)
turn ws rest e j =
    if is comma ws j then (λ _. after (rest (j + 1)) λ es m. good (argument_code e.code ++ es) m)
    otherwise λ _. expect close_paren ws j (argument_code e.code ++ [])

same_turn : (ws : List ℕ) (f h : ℕ → Got (List ℕ)) (e : Piece) (j : ℕ) → f (j + 1) ≡ h (j + 1) → turn ws f e j ≡ turn ws h e j
same_turn ws f h e j q = rw q

-- rounds enough are enough
enough : (left : ℕ) (ws : List ℕ) (r r' i : ℕ) → length ws - i < r → length ws - i < r' → arguments_from r (expression left ws) ws i ≡ arguments_from r' (expression left ws) ws i
unfolding arguments_from
enough left ws zero r' i h l = absurd (omega arith)
enough left ws (suc r) zero i h l = absurd (omega arith)
enough left ws (suc r) (suc r') i h l = same_after (expression left ws i) _ _ λ e j q.
    let p = expression_paid left ws i e j q in
    same_turn ws (arguments_from r (expression left ws) ws) (arguments_from r' (expression left ws) ws) e j
    (enough left ws r r' (j + 1) (omega (arith, p.ahead, p.within)) (omega (arith, p.ahead, p.within)))

-- the arguments from a token on
unfoldable pub rest : ℕ → List ℕ → ℕ → Got (List ℕ)
rest left ws i = arguments_from (suc (length ws - i)) (expression left ws) ws i

rest_turns : (left : ℕ) (ws : List ℕ) (i : ℕ) → rest left ws i ≡ after (expression left ws i) (turn ws (rest left ws))
unfolding rest arguments_from
rest_turns left ws i = same_after (expression left ws i) _ _ λ e j q.
    let p = expression_paid left ws i e j q in
    same_turn ws (arguments_from (length ws - i) (expression left ws) ws) (rest left ws) e j
    (enough left ws (length ws - i) (suc (length ws - (j + 1))) (j + 1) (omega (arith, p.ahead, p.within)) (omega (arith, p.ahead, p.within)))

pub arguments_none : (left : ℕ) (ws : List ℕ) (i n : ℕ) (s : List ℕ) (kind : ℕ) → kind ≡ kind_at ws i → kind ≡ 41 → seen (Ok (record { token = i + 1; word = n; target = Neither })) s ≡ written_code (arguments (expression left ws) ws i) n s
unfolding arguments if◌then◌otherwise◌ seen written_code
arguments_none left ws i n s kind k e =
    let q : n + 0 ≡ n = omega arith in
    rw (← k, e, q, append-nil (take n s))

-- ---- the loop
-- arguments from token i and word n on were read up to token p and word m
pub record Going (left : ℕ) (ws : List ℕ) (i n : ℕ) (s₀ : List ℕ) (p m : ℕ) (s : List ℕ) : Type 0 where
  pub same : written_code (arguments (expression left ws) ws i) n s₀ ≡ written_code (rest left ws p) m s
  pub ahead : i ≤ p
  pub fits : p < 2 ^ 64
  pub room : Room ws s p (m + 1)
  pub kept : length s ≡ length s₀

pub going_starts : (left : ℕ) (ws : List ℕ) (i n : ℕ) (s : List ℕ) (kind : ℕ) → kind ≡ kind_at ws i → (kind ≡ 41 → ⊥) → i < 2 ^ 64 → Room ws s i (n + 1) → Going left ws i n s i n s
unfolding arguments if◌then◌otherwise◌ rest
going_starts left ws i n s kind k h f o = record { same = rw (← k, ne_eqb _ _ h); ahead = omega arith; fits = f; room = o; kept = refl }

-- a turn: the argument ended before token j, with the words up to q, and its own word was put before it
pub record Turned (ws s₁ : List ℕ) (p m j q : ℕ) : Type 0 where
  pub ahead : p < j
  pub within : j ≤ length ws
  pub place : m < length s₁
  pub some : m + 1 < q
  pub size : q < m + 16777216
  pub paid : q + 1 ≤ j + 1

module _ (left : ℕ) (ws : List ℕ) (i n : ℕ) (s₀ : List ℕ) (p m : ℕ) (s : List ℕ) (g : Going left ws i n s₀ p m s) where
  -- an exit by `?`: the rest fails as its first argument does
  pub going_fails : (e : Misfit) (r : Result Read Misfit) (s₁ : List ℕ) → IsErrAnd r (λ x. x ≡ e) → seen (Err e) s₁ ≡ written (expression left ws p) (m + 1) s
      → seen r s₁ ≡ written_code (arguments (expression left ws) ws i) n s₀
  going_fails e r s₁ y h = rw g.same (exits (says (m + 1) s) (says_code m s) _ _ e r s₁ (rest_turns left ws p) y h)

  module _ (e : Read) (s₁ : List ℕ) (h : seen (Ok e) s₁ ≡ written (expression left ws p) (m + 1) s) (l : length s₁ ≡ length s) where
    pub turned : Turned ws s₁ p m e.token e.word
    turned =
        let w = wrote _ (m + 1) s s₁ e h in
        let y = expression_paid left ws p w.piece e.token w.read in
        let o = g.room in
        record {
          ahead = y.ahead;
          within = y.within;
          place = omega (arith, y.ahead, y.within, o.behind, o.wide);
          some = omega (arith, w.up_to, y.some);
          size = omega (arith, w.up_to, y.paid, y.within, o.short);
          paid = omega (arith, w.up_to, y.paid, o.behind);
        }

    module _ (w kind : ℕ) (s₂ : List ℕ) (v : w ≡ word 9 (e.word - m - 1) 0) (x : s₂ ≡ set s₁ m w) (k : kind ≡ kind_at ws e.token) where
      -- the words up to there hold the argument with its word
      front : (y : Wrote (expression left ws p) (m + 1) s e s₁) → take e.word s₂ ≡ take m s ++ argument_code y.piece.code
      front y =
          let z = turned in
          let o : m < length s = omega (arith, z.place) in
          let size : e.word - m - 1 ≡ length y.piece.code = omega (arith, y.up_to) in
          rw (x, v, size) (take_put_before s s₁ y.piece.code m e.word _ o (omega (arith, z.some)) y.front)

      pub going_on : kind ≡ 44 → Going left ws i n s₀ (e.token + 1) e.word s₂
      unfolding after if◌then◌otherwise◌
      going_on c =
          let y = wrote _ (m + 1) s s₁ e h in
          let z = turned in
          let o = g.room in
          let b : e.word ≡ m + length (argument_code y.piece.code) = omega (arith, y.up_to) in
          let r : written_code (rest left ws p) m s ≡ written_code (rest left ws (e.token + 1)) e.word s₂ =
          rw (rest_turns left ws p, y.read, ← k, c) (shifted (rest left ws (e.token + 1)) (argument_code y.piece.code) s s₂ m e.word b (front y)) in
          let d : length s₂ ≡ length s₁ = rw x (length-set s₁ m w) in
          record {
            same = g.same ∙ r;
            ahead = omega (arith, g.ahead, z.ahead);
            fits = omega (arith, z.within, o.short);
            room = record { behind = z.paid; wide = omega (arith, o.wide); short = o.short };
            kept = omega (arith, g.kept);
          }

      pub going_ends : kind ≡ 41 → seen (Ok (record { token = e.token + 1; word = e.word; target = Neither })) s₂ ≡ written_code (arguments (expression left ws) ws i) n s₀
      unfolding after if◌then◌otherwise◌ expect seen written_code
      going_ends c =
          let y = wrote _ (m + 1) s s₁ e h in
          let b : m + length (argument_code y.piece.code ++ []) ≡ e.word = omega (arith, y.up_to, length-append (argument_code y.piece.code) []) in
          rw (g.same, rest_turns left ws p, y.read, ← k, c, b)
          (ap (at (e.token + 1) e.word Neither) (front y ∙ ap (λ l. take m s ++ l) (sym (append-nil (argument_code y.piece.code)))))

      pub going_stops : (kind ≡ 41 → ⊥) → (kind ≡ 44 → ⊥) → seen (Err (record { number = 10; token = e.token })) s₂ ≡ written_code (arguments (expression left ws) ws i) n s₀
      unfolding after if◌then◌otherwise◌ expect
      going_stops c d =
          let y = wrote _ (m + 1) s s₁ e h in
          rw g.same (refused (says_code m s) _ s₂ (rw (rest_turns left ws p, y.read, ← k, ne_eqb _ _ c, ne_eqb _ _ d)))
