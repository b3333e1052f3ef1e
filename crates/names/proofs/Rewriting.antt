-- Rewriting the words: those before i are prepared, the others are as they were.
-- Assumes nothing.
use Prim.Native.Nat.{ℕ, ◌+◌, ◌≤◌, ◌<◌}
use mathlib.Core.Path.{◌≡◌, ◌∙◌, refl, sym, ap}
use mathlib.Core.List.{List, map}
use mathlib.Core.Logic.{⊎_elim}
use native.Mathlib.Nat.{eq-or-lt_of_le}
use native.Mathlib.Omega.{arith}
use lib.ListN.{length, get_or, set, length-set, length-map}
use lib.Seq.{get_or-set_same, get_or-set_other, ext_get_or}
use Rattle.meaning.specs.Grammar.{after_last}
use Rattle.tokens.specs.Words.{token_in}
use Rattle.names.specs.Prepared.{prepared, prepared_all}
use Rattle.names.specs.Index.{home_of, home_at, word_with, Indexed}
use Rattle.names.proofs.Entries.{get_d_map}
use Rattle.names.proofs.Decoded.{prepared_at}
use Rattle.names.proofs.Payloads.{word_prepared}

pub record Rewriting (p ws₀ ix ws : List ℕ) (i : ℕ) : Type 0 where
  pub index : Indexed p ws₀ ix (length ws₀)
  pub long : length ws ≡ length ws₀
  pub done : (m : ℕ) → m < i → m < length ws₀ → get_or ws m 0 ≡ get_or (prepared_all p ws₀) m 0
  pub rest : (m : ℕ) → i ≤ m → get_or ws m 0 ≡ get_or ws₀ m 0

pub home_few : (ix : List ℕ) (i h : ℕ) → h ≡ home_at ix i → h < 65536
unfolding home_at
home_few ix i h e = omega arith

module _ (p ws₀ ix : List ℕ) where
  pub rewrite_none : Indexed p ws₀ ix (length ws₀) → Rewriting p ws₀ ix ws₀ 0
  rewrite_none g = record { index = g; long = refl; done = λ m l h. absurd (omega arith); rest = λ m l. refl }

  -- the word at an index, prepared
  word_at : (i : ℕ) → i < length ws₀ → get_or (prepared_all p ws₀) i 0 ≡ prepared (map (token_in p) ws₀) (token_in p (get_or ws₀ i 0))
  word_at i h = prepared_at p ws₀ i h ∙ ap (prepared (map (token_in p) ws₀)) (get_d_map (token_in p) ws₀ i 0 after_last h)

  module _ (ws : List ℕ) (i : ℕ) (g : Rewriting p ws₀ ix ws i) (here : i < length ws₀) where
    pub rewrite_room : 8192 + i < length ix
    rewrite_room = omega (arith, g.long, g.index.few, g.index.room)

    -- the word that is stored
    right : (h r : ℕ) → h ≡ home_at ix i → r ≡ word_with (token_in p (get_or ws i 0)) h → r ≡ get_or (prepared_all p ws₀) i 0
    unfolding home_of token_in
    right h r u e =
        e ∙ ap (λ (w : ℕ). word_with (token_in p w) h) (g.rest i (omega arith))
        ∙ word_prepared (map (token_in p) ws₀) (token_in p (get_or ws₀ i 0)) h (λ n. u ∙ g.index.homes i here n)
        ∙ sym (word_at i here)

    pub rewrite_more : (h r : ℕ) → h ≡ home_at ix i → r ≡ word_with (token_in p (get_or ws i 0)) h → Rewriting p ws₀ ix (set ws i r) (i + 1)
    rewrite_more h r u e =
        record {
          index = g.index;
          long = length-set ws i r ∙ g.long;
          done = λ m l k.
              ⊎_elim (λ (q : m ≡ i). rw q (get_or-set_same ws i r 0 (omega (arith, g.long)) ∙ right h r u e))
              (λ (q : m < i). get_or-set_other ws i m r 0 (λ z. omega arith) ∙ g.done m q k)
              (eq-or-lt_of_le (omega arith));
          rest = λ m l. get_or-set_other ws i m r 0 (λ z. omega arith) ∙ g.rest m (omega arith);
        }

  pub rewrite_all : (ws : List ℕ) (i : ℕ) → Rewriting p ws₀ ix ws i → length ws₀ ≤ i → ws ≡ prepared_all p ws₀
  unfolding prepared_all
  rewrite_all ws i g h =
      ext_get_or 0 ws (map (prepared (map (token_in p) ws₀)) (map (token_in p) ws₀))
      (g.long ∙ sym (length-map (map (token_in p) ws₀) (prepared (map (token_in p) ws₀)) ∙ length-map ws₀ (token_in p)))
      (λ m l. g.done m (omega arith) (omega (arith, g.long)))
