-- The entries of the index: of each kind and text there is one, its home.
-- Assumes nothing.
use Prim.Native.Nat.{ℕ, zero, suc, ◌-◌, ◌≤◌, ◌<◌}
use mathlib.Core.Path.{◌≡◌, ◌∙◌, refl, sym, ap}
use mathlib.Core.Bool.{true}
use mathlib.Core.List.{List, [], ◌∷◌, map}
use mathlib.Core.Logic.{⊎_elim}
use native.Mathlib.Nat.{eq-or-lt_of_le}
use native.Mathlib.Omega.{arith}
use borrow.Author.Tests.{eq-eqb, eqb-true}
use lib.Dec.{eqb}
use lib.ListN.{length, get_or, length-map}
use Rattle.meaning.specs.Basics.{same_text}
use Rattle.meaning.specs.Token.{Token}
use Rattle.meaning.specs.Grammar.{after_last, kind_at, text_at}
use Rattle.tokens.specs.Words.{token_in, kind_in}
use Rattle.names.specs.Index.{bucket_of, named, spelled, home_of, bucket_at, is_entry, lies, meets, last, found}
use Rattle.names.proofs.Homes.{and_true, same_itself, same_equal, home_least, home_kind, home_text}
use Rattle.names.proofs.Last.{last_le, only_before, only_behind}

-- an element of a map, whatever stands behind its end
pub get_d_map : {A B : Type 0} (f : A → B) (l : List A) (i : ℕ) (a : A) (b : B) → i < length l → get_or (map f l) i b ≡ f (get_or l i a)
get_d_map f [] i a b h = absurd (omega arith)
get_d_map f (x ∷ l) zero a b h = refl
get_d_map f (x ∷ l) (suc i) a b h = get_d_map f l i a b (omega arith)

module _ (p ws : List ℕ) where
  abbrev tokens : List Token
  tokens = map (token_in p) ws

  abbrev kind : ℕ → ℕ
  kind i = kind_in (get_or ws i 0)

  abbrev text : ℕ → List ℕ
  text i = (token_in p (get_or ws i 0)).text

  kind_at_lem : (i : ℕ) → i < length ws → kind_at tokens i ≡ kind i
  unfolding token_in
  kind_at_lem i h = ap (λ (t : Token). t.kind) (get_d_map (token_in p) ws i 0 after_last h)

  text_at_lem : (i : ℕ) → i < length ws → text_at tokens i ≡ text i
  text_at_lem i h = ap (λ (t : Token). t.text) (get_d_map (token_in p) ws i 0 after_last h)

  -- ---- an entry of a kind and a text lies in their bucket
  pub meets_entry : (k : ℕ) (x : List ℕ) (i : ℕ) → meets p ws k x i ≡ true → is_entry p ws i ≡ true
  unfolding meets
  meets_entry k x i e = (and_true (is_entry p ws i) (spelled p (get_or ws i 0) k x) e).0

  meets_both : (k : ℕ) (x : List ℕ) (i : ℕ) → meets p ws k x i ≡ true → (eqb (kind i) k ≡ true) × (same_text (text i) x ≡ true)
  unfolding meets spelled
  meets_both k x i e =
      and_true (eqb (kind i) k) (same_text (text i) x) (and_true (is_entry p ws i) (spelled p (get_or ws i 0) k x) e).1

  meets_kind : (k : ℕ) (x : List ℕ) (i : ℕ) → meets p ws k x i ≡ true → kind i ≡ k
  meets_kind k x i e = eqb-true (kind i) k (meets_both k x i e).0

  meets_text : (k : ℕ) (x : List ℕ) (i : ℕ) → meets p ws k x i ≡ true → text i ≡ x
  meets_text k x i e = same_equal (text i) x (meets_both k x i e).1

  pub meets_lies : (k : ℕ) (x : List ℕ) (i : ℕ) → meets p ws k x i ≡ true → lies p ws (bucket_of k x) i ≡ true
  unfolding lies bucket_at
  meets_lies k x i e = rw (meets_entry k x i e, meets_kind k x i e, meets_text k x i e) (eq-eqb (bucket_of k x) (bucket_of k x) refl)

  same_home : (m i : ℕ) → kind m ≡ kind i → text m ≡ text i → home_of p ws m ≡ home_of p ws i
  unfolding home_of
  same_home m i u v = rw (u, v)

  entry_home : (i : ℕ) → is_entry p ws i ≡ true → home_of p ws i ≡ i
  unfolding is_entry
  entry_home i e = eqb-true (home_of p ws i) i (and_true (named (kind i)) (eqb (home_of p ws i) i) e).1

  -- ---- the home of a name or a string is the one entry that is spelled like it
  module _ (i : ℕ) (here : i < length ws) where
    pub home_before : home_of p ws i ≤ i
    unfolding home_of
    home_before = home_least (kind i) (text i) tokens i (rw (length-map ws (token_in p)) here) (kind_at_lem i here) (text_at_lem i here)

    home_within : home_of p ws i < length ws
    home_within = omega (arith, home_before)

    kind_home : kind (home_of p ws i) ≡ kind i
    unfolding home_of
    kind_home = sym (kind_at_lem (home_of p ws i) home_within) ∙ home_kind (kind i) (text i) tokens (rw (length-map ws (token_in p)) home_within)

    text_home : text (home_of p ws i) ≡ text i
    unfolding home_of
    text_home = sym (text_at_lem (home_of p ws i) home_within) ∙ home_text (kind i) (text i) tokens (rw (length-map ws (token_in p)) home_within)

    home_home : home_of p ws (home_of p ws i) ≡ home_of p ws i
    home_home = same_home (home_of p ws i) i kind_home text_home

    only : (m : ℕ) → meets p ws (kind i) (text i) m ≡ true → m ≡ home_of p ws i
    only m e =
        sym (entry_home m (meets_entry (kind i) (text i) m e))
        ∙ same_home m i (meets_kind (kind i) (text i) m e) (meets_text (kind i) (text i) m e)

    home_meets : named (kind i) ≡ true → meets p ws (kind i) (text i) (home_of p ws i) ≡ true
    unfolding meets is_entry spelled
    home_meets e =
        let q : (n : ℕ) → eqb n n ≡ true = λ n. eq-eqb n n refl in
        rw (home_home, kind_home, text_home, e, q (home_of p ws i), q (kind i)) (same_itself (text i))

    before : (n : ℕ) → n ≤ home_of p ws i → last (meets p ws (kind i) (text i)) n ≡ 0
    before = only_before (meets p ws (kind i) (text i)) (home_of p ws i) only

    behind : named (kind i) ≡ true → (n : ℕ) → home_of p ws i < n → last (meets p ws (kind i) (text i)) n ≡ suc (home_of p ws i)
    behind e n = only_behind (meets p ws (kind i) (text i)) (home_of p ws i) only n (home_meets e)

    -- what a look-up among the tokens before i says
    module _ (name : named (kind i) ≡ true) (j : ℕ) (look : j ≡ found p ws i (kind i) (text i)) where
      pub own_home : j ≡ 0 → home_of p ws i ≡ i
      unfolding found
      own_home e =
          ⊎_elim (λ q. q)
          (λ (l : home_of p ws i < i). absurd (omega (arith, look, behind name i l)))
          (eq-or-lt_of_le home_before)

      pub older_home : (j ≡ 0 → ⊥) → home_of p ws i ≡ j - 1
      unfolding found
      older_home n =
          ⊎_elim (λ (q : home_of p ws i ≡ i). absurd (n (look ∙ before i (omega arith))))
          (λ (l : home_of p ws i < i). omega (arith, look, behind name i l))
          (eq-or-lt_of_le home_before)

      pub place_few : j ≤ i
      unfolding found
      place_few = omega (arith, look, last_le (meets p ws (kind i) (text i)) i)
