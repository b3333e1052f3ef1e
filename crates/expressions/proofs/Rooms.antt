-- What the functions require holds where they are called: each word was paid.
-- Assumes nothing.
use Prim.Native.Nat.{ℕ, ◌+◌, ◌<◌, ◌≤◌}
use mathlib.Core.Path.{◌≡◌, sym}
use mathlib.Core.Bool.{Bool, true, false}
use mathlib.Core.List.{List}
use native.Mathlib.Omega.{arith}
use lib.ListN.{length}
use Rattle.std.specs.Prelude.{Result, Ok, Err}
use Rattle.meaning.specs.Basics.{if◌then◌otherwise◌}
use Rattle.meaning.specs.Grammar.{Got, good}
use Rattle.expressions.specs.declared.Read.{Read}
use Rattle.expressions.specs.declared.Misfit.{Misfit}
use Rattle.expressions.specs.declared.Target.TheVariants.{Neither}
use Rattle.expressions.specs.Words.{kind_at, is, Piece, arguments, expression, seen, written, written_code}
use Rattle.expressions.specs.Room.{Room, Spot, Spare}
use Rattle.expressions.specs.Steps.{closed}
use Rattle.expressions.proofs.Tokens.{token_inside}
use Rattle.expressions.proofs.Paid.{Paid, expression_paid, arguments_paid}
use Rattle.expressions.proofs.Answers.{wrote, wrote_code}

-- behind a first part that ends at token j and word m, the second has room
pub record Next (ws s : List ℕ) (i j m : ℕ) : Type 0 where
  pub room : Room ws s (j + 1) m
  pub ahead : i < j
  pub within : j ≤ length ws

-- what reads a piece from token i on and pays for it
abbrev pub PaysFor : List ℕ → ℕ → Got Piece → Type 0
PaysFor ws i g = (e : Piece) (j : ℕ) → g ≡ good e j → Paid e.code ws i j

module _ (g : Got Piece) (ws : List ℕ) (i n : ℕ) (s₀ s : List ℕ) (a : Read) (pays : PaysFor ws i g) (o : Room ws s₀ i n) (l : length s ≡ length s₀)
    (h : seen (Ok a) s ≡ written g n s₀) where
  pub next : Next ws s i a.token a.word
  next =
      let w = wrote g n s₀ s a h in
      let p = pays w.piece a.token w.read in
      record {
        room = record { behind = omega (arith, w.up_to, p.paid, o.behind); wide = omega (arith, o.wide); short = o.short };
        ahead = p.ahead;
        within = p.within;
      }

  -- and the word behind both as well
  pub spare_both : (g₂ : Got Piece) (s₂ : List ℕ) (b : Read) (tag : ℕ) → PaysFor ws (a.token + 1) g₂ → tag < 256 → length s₂ ≡ length s
      → seen (Ok b) s₂ ≡ written g₂ a.word s → Spare s₂ b n a.word tag
  spare_both g₂ s₂ b tag pays₂ small l₂ h₂ =
      let w = wrote g n s₀ s a h in
      let p = pays w.piece a.token w.read in
      let w₂ = wrote g₂ a.word s s₂ b h₂ in
      let p₂ = pays₂ w₂.piece b.token w₂.read in
      record {
        order = omega (arith, w.up_to);
        small_tag = small;
        spare = omega (arith, w.up_to, w₂.up_to, p₂.paid, p₂.within, p.paid, p.some, o.behind, o.wide, o.short);
      }

-- the word of one token
pub spot_at : (ws s : List ℕ) (i n kind tag x : ℕ) → Room ws s i n → kind ≡ kind_at ws i → (kind ≡ 0 → ⊥) → tag < 256 → x < 4294967296 → Spot s i n tag x
spot_at ws s i n kind tag x o k h l m =
    let w = token_inside ws i kind (sym k) h in
    record { behind = o.behind; inside = omega (arith, o.wide); small_tag = l; small_number = m }

-- the word behind arguments, and behind a table's size
pub call_spare : (left : ℕ) (ws : List ℕ) (i n : ℕ) (s₀ s : List ℕ) (es : Read) → Room ws s₀ i n → length s ≡ length s₀
    → seen (Ok es) s ≡ written_code (arguments (expression left ws) ws (i + 2)) n s₀ → Spare s es n n 8
call_spare left ws i n s₀ s es o l h =
    let w = wrote_code _ n s₀ s es h in
    let q = arguments_paid left ws (i + 2) w.code es.token w.read in
    record { order = omega arith; small_tag = omega arith; spare = omega (arith, w.up_to, q.paid, q.within, o.behind, o.wide, o.short) }

-- what was closed was read
pub closed_word : (k : ℕ) (ws : List ℕ) (e b : Read) → Ok b ≡ closed k ws e → b.word ≡ e.word
unfolding closed if◌then◌otherwise◌
closed_word k ws e b h = go (is k ws e.token) h
  where
    go : (c : Bool) → ◌≡◌ {A = Result Read Misfit} (Ok b) (if c then (λ _. Ok (record { token = e.token + 1; word = e.word; target = Neither })) otherwise λ _. Err (record { number = 10; token = e.token })) → b.word ≡ e.word
    go true g = cc
    go false g = cc

pub table_spare : (left : ℕ) (ws : List ℕ) (i n : ℕ) (s₀ s : List ℕ) (e b : Read) → Room ws s₀ i n → length s ≡ length s₀
    → seen (Ok e) s ≡ written (expression left ws (i + 1)) n s₀ → Ok b ≡ closed 93 ws e → Spare s b n n 6
table_spare left ws i n s₀ s e b o l h c =
    let w = wrote _ n s₀ s e h in
    let q = expression_paid left ws (i + 1) w.piece e.token w.read in
    let u = closed_word 93 ws e b c in
    record { order = omega arith; small_tag = omega arith; spare = omega (arith, u, w.up_to, q.paid, q.within, o.behind, o.wide, o.short) }
