-- One more token: the index of i tokens becomes that of i + 1.
-- Assumes nothing.
use Prim.Native.Nat.{ℕ, suc, ◌+◌, ◌-◌, ◌*◌, ◌/◌, ◌%◌, ◌≤◌, ◌<◌}
use mathlib.Core.Path.{◌≡◌, ◌∙◌, refl, sym, ap}
use mathlib.Core.Bool.{Bool, true, false}
use mathlib.Core.List.{List}
use mathlib.Core.Logic.{⊎_elim}
use native.Mathlib.Nat.{eq-or-lt_of_le}
use native.Mathlib.Numerals.{add-one}
use native.Mathlib.Omega.{arith}
use borrow.Author.Tests.{eq-eqb, ne_eqb, eqb-true, eqb-false}
use lib.Dec.{eqb}
use lib.ListN.{length, get_or, set, replicate, length-set, length-replicate, get_or-replicate}
use lib.Seq.{get_or-set_same, get_or-set_other}
use Rattle.std.specs.declared.option.Option.{Option}
use Rattle.std.specs.declared.option.Option.TheVariants.{Some, None}
use Rattle.tokens.specs.Words.{token_in, kind_in}
use Rattle.names.specs.Index.{Room, bucket_of, named, home_of, bucket_at, is_entry, lies, last, found, link_at, home_at}
use Rattle.names.specs.Index.{Indexed, Looks, Files, Notes, noted, behind}
use Rattle.names.proofs.Homes.{and-false}
use Rattle.names.proofs.Last.{last_le}
use Rattle.names.proofs.Entries.{own_home, older_home, place_few}
use Rattle.names.proofs.Hashing.{bucket_small}

never : true ≡ false → ⊥
never e = let z : ◌≡◌ {A = ℕ} 0 1 = cc in omega arith

module _ (p ws : List ℕ) (i : ℕ) where
  -- ---- a bucket after token i
  past : (b : ℕ) → is_entry p ws i ≡ false → last (lies p ws b) (suc i) ≡ last (lies p ws b) i
  unfolding last lies
  past b e = rw e

  past_other : (b : ℕ) → (bucket_at p ws i ≡ b → ⊥) → is_entry p ws i ≡ true → last (lies p ws b) (suc i) ≡ last (lies p ws b) i
  unfolding last lies
  past_other b n e = rw (e, ne_eqb (bucket_at p ws i) b n)

  past_own : (b : ℕ) → bucket_at p ws i ≡ b → is_entry p ws i ≡ true → last (lies p ws b) (suc i) ≡ suc i
  unfolding last lies
  past_own b q e = rw (e, eq-eqb (bucket_at p ws i) b q)

  no_name : named (kind_in (get_or ws i 0)) ≡ false → is_entry p ws i ≡ false
  unfolding is_entry
  no_name e = rw e

  no_home : (home_of p ws i ≡ i → ⊥) → is_entry p ws i ≡ false
  unfolding is_entry
  no_home n = rw (ne_eqb (home_of p ws i) i n) (and-false (named (kind_in (get_or ws i 0))))

  entry : named (kind_in (get_or ws i 0)) ≡ true → home_of p ws i ≡ i → is_entry p ws i ≡ true
  unfolding is_entry
  entry e q = rw (e, eq-eqb (home_of p ws i) i q)

module _ (p ws ix : List ℕ) (i : ℕ) (g : Files p ws ix i) where
  -- what an index of one more token has to keep and to add
  advance : (ix' : List ℕ) → length ix' ≡ length ix → ((b : ℕ) → b < 8192 → get_or ix' b 0 ≡ last (lies p ws b) (suc i))
      → ((m : ℕ) → m < i → get_or ix' (8192 + m) 0 ≡ get_or ix (8192 + m) 0)
      → (is_entry p ws i ≡ true → link_at ix' i ≡ last (lies p ws (bucket_at p ws i)) i)
      → (named (kind_in (get_or ws i 0)) ≡ true → home_at ix' i ≡ home_of p ws i) → Indexed p ws ix' (i + 1)
  unfolding link_at home_at
  advance ix' long heads' old link home =
      record {
        few = g.index.few;
        room = omega (arith, g.index.room);
        within = omega (arith, g.here);
        heads = λ b l. rw (add-one i) (heads' b l);
        links = λ m l e.
            ⊎_elim (λ (q : m ≡ i). rw q (link (rw q at e)))
            (λ (q : m < i). ap (λ (v : ℕ). v % 65536) (old m q) ∙ g.index.links m q e)
            (eq-or-lt_of_le (omega arith));
        homes = λ m l e.
            ⊎_elim (λ (q : m ≡ i). rw q (home (rw q at e)))
            (λ (q : m < i). ap (λ (v : ℕ). v / 65536 % 65536) (old m q) ∙ g.index.homes m q e)
            (eq-or-lt_of_le (omega arith));
      }

  -- a token that is no name and no string
  pub skip : (k : ℕ) (t : Bool) → k ≡ kind_in (get_or ws i 0) → t ≡ named k → t ≡ false → Indexed p ws ix (i + 1)
  skip k t u v e =
      let n : named (kind_in (get_or ws i 0)) ≡ false = rw u at (sym v ∙ e) in
      advance ix refl (λ b l. g.index.heads b l ∙ sym (past p ws i b (no_name p ws i n))) (λ m l. refl)
      (λ e. absurd (never (sym e ∙ no_name p ws i n))) (λ e. absurd (never (sym e ∙ n)))

  -- a token whose home was entered before
  older : (j : ℕ) → (j ≡ 0 → ⊥) → j ≤ i → home_of p ws i ≡ j - 1 → Indexed p ws (set ix (8192 + i) (65536 * (j - 1))) (i + 1)
  unfolding link_at home_at
  older j n l q =
      let none : is_entry p ws i ≡ false = no_home p ws i (λ e. n (omega arith)) in
      let at : 8192 + i < length ix = omega (arith, g.here, g.index.few, g.index.room) in
      advance (set ix (8192 + i) (65536 * (j - 1))) (length-set ix (8192 + i) (65536 * (j - 1)))
      (λ b h. get_or-set_other ix (8192 + i) b (65536 * (j - 1)) 0 (λ e. omega arith) ∙ g.index.heads b h ∙ sym (past p ws i b none))
      (λ m h. get_or-set_other ix (8192 + i) (8192 + m) (65536 * (j - 1)) 0 (λ e. omega arith))
      (λ e. absurd (never (sym e ∙ none)))
      (λ e. rw (get_or-set_same ix (8192 + i) (65536 * (j - 1)) 0 at, q) (omega (arith, g.here, g.index.few)))

  -- a token that is its own home, in the bucket b
  module _ (b : ℕ) (slot : b < 8192) (bucket : bucket_at p ws i ≡ b) where
    newest : get_or ix b 0 ≤ i
    newest = omega (arith, g.index.heads b slot, last_le (lies p ws b) i)

    abbrev entered : List ℕ
    entered = set (set ix (8192 + i) (get_or ix b 0 + 65536 * i)) b (i + 1)

    entered_high : (m : ℕ) → get_or entered (8192 + m) 0 ≡ get_or (set ix (8192 + i) (get_or ix b 0 + 65536 * i)) (8192 + m) 0
    entered_high m = get_or-set_other (set ix (8192 + i) (get_or ix b 0 + 65536 * i)) b (8192 + m) (i + 1) 0 (λ e. omega arith)

    entered_low : (c : ℕ) → c < 8192 → (c ≡ b → ⊥) → get_or entered c 0 ≡ get_or ix c 0
    entered_low c h n =
        get_or-set_other (set ix (8192 + i) (get_or ix b 0 + 65536 * i)) b c (i + 1) 0 n
        ∙ get_or-set_other ix (8192 + i) c (get_or ix b 0 + 65536 * i) 0 (λ e. omega arith)

    entered_here : get_or entered (8192 + i) 0 ≡ get_or ix b 0 + 65536 * i
    entered_here = entered_high i ∙ get_or-set_same ix (8192 + i) (get_or ix b 0 + 65536 * i) 0 (omega (arith, g.here, g.index.few, g.index.room))

    entered_heads : (c : ℕ) → c < 8192 → is_entry p ws i ≡ true → get_or entered c 0 ≡ last (lies p ws c) (suc i)
    entered_heads c h e = go (eqb c b) refl
      where
        go : (t : Bool) → eqb c b ≡ t → get_or entered c 0 ≡ last (lies p ws c) (suc i)
        go true q =
            rw (eqb-true c b q)
            (get_or-set_same (set ix (8192 + i) (get_or ix b 0 + 65536 * i)) b (i + 1) 0
            (omega (arith, length-set ix (8192 + i) (get_or ix b 0 + 65536 * i), g.index.room))
            ∙ add-one i ∙ sym (past_own p ws i b bucket e))
        go false q =
            entered_low c h (eqb-false c b q) ∙ g.index.heads c h ∙ sym (past_other p ws i c (λ u. eqb-false c b q (sym u ∙ bucket)) e)

    own : named (kind_in (get_or ws i 0)) ≡ true → home_of p ws i ≡ i → Indexed p ws entered (i + 1)
    unfolding link_at home_at
    own e q =
        advance entered (length-set (set ix (8192 + i) (get_or ix b 0 + 65536 * i)) b (i + 1) ∙ length-set ix (8192 + i) (get_or ix b 0 + 65536 * i))
        (λ c h. entered_heads c h (entry p ws i e q))
        (λ m h. entered_high m ∙ get_or-set_other ix (8192 + i) (8192 + m) (get_or ix b 0 + 65536 * i) 0 (λ u. omega arith))
        (λ u.
        let r : (get_or ix b 0 + 65536 * i) % 65536 ≡ get_or ix b 0 = omega (arith, newest, g.here, g.index.few) in
        ap (λ (v : ℕ). v % 65536) entered_here ∙ r ∙ g.index.heads b slot ∙ ap (λ (c : ℕ). last (lies p ws c) i) (sym bucket))
        (λ u.
        let r : (get_or ix b 0 + 65536 * i) / 65536 % 65536 ≡ i = omega (arith, newest, g.here, g.index.few) in
        ap (λ (v : ℕ). v / 65536 % 65536) entered_here ∙ r ∙ sym q)

  pub files_look : (k : ℕ) (x : List ℕ) (b : ℕ) → k ≡ kind_in (get_or ws i 0) → b ≡ bucket_of k x → Looks p ws ix i k x b
  files_look k x b h e = record { index = g.index; bucket = e; slot = bucket_small k b x (omega arith) e }

  -- a name or a string: its home is what the look-up found, or itself
  module _
      (k : ℕ) (x : List ℕ) (b j : ℕ) (kind : k ≡ kind_in (get_or ws i 0)) (text : x ≡ (token_in p (get_or ws i 0)).text)
      (bucket : b ≡ bucket_of k x) (look : j ≡ found p ws i k x) where
    slot : b < 8192
    slot = bucket_small k b x (omega arith) bucket

    looked : j ≡ found p ws i (kind_in (get_or ws i 0)) (token_in p (get_or ws i 0)).text
    looked = look ∙ rw (kind, text)

    in_bucket : bucket_at p ws i ≡ b
    unfolding bucket_at
    in_bucket = sym (bucket ∙ rw (kind, text))

    pub filed : (ix' : List ℕ) (t : Bool) → t ≡ named k → t ≡ true → ix' ≡ noted ix i b j → Indexed p ws ix' (i + 1)
    unfolding noted
    filed ix' t v y e = rw e (go (eqb j 0) refl)
      where
        is : named (kind_in (get_or ws i 0)) ≡ true
        is = rw kind at (sym v ∙ y)

        go : (t : Bool) → eqb j 0 ≡ t → Indexed p ws (noted ix i b j) (i + 1)
        go true q = rw q (own b slot in_bucket is (own_home p ws i g.here is j looked (eqb-true j 0 q)))
        go false q =
            let n = eqb-false j 0 q in
            rw q (older j n (place_few p ws i g.here is j looked) (older_home p ws i g.here is j looked n))

    pub files_note : (t : Bool) → t ≡ named k → t ≡ true → Notes ix i b j
    files_note t v y =
        record {
          room = g.index.room;
          token = omega (arith, g.here, g.index.few);
          slot = slot;
          place = omega (arith, place_few p ws i g.here (rw kind at (sym v ∙ y)) j looked, g.here, g.index.few);
          newest = omega (arith, newest b slot in_bucket, g.here, g.index.few);
        }

-- an index of zeroes is that of no token
pub index_none : (p ws ix ix' : List ℕ) → Room ws ix → ix' ≡ replicate (length ix) 0 → Indexed p ws ix' 0
unfolding last
index_none p ws ix ix' r e =
    rw e
    (record {
      few = r.few;
      room = omega (arith, length-replicate {A = ℕ} (length ix) 0, r.room);
      within = omega arith;
      heads = λ b l. get_or-replicate (length ix) b 0 0 (omega (arith, r.room));
      links = λ i l e. absurd (omega arith);
      homes = λ i l e. absurd (omega arith);
    })

-- ---- all tokens
pub record Filling (p ws ix₀ ix : List ℕ) (i : ℕ) : Type 0 where
  pub index : Indexed p ws ix i
  pub long : length ix ≡ length ix₀

module _ (p ws ix₀ : List ℕ) where
  pub fill_begin : Indexed p ws ix₀ 0 → Filling p ws ix₀ ix₀ 0
  fill_begin g = record { index = g; long = refl }

  module _ (ix : List ℕ) (i : ℕ) (g : Filling p ws ix₀ ix i) where
    pub fill_files : i < length ws → Files p ws ix i
    fill_files h = record { index = g.index; here = h }

    pub fill_next : (ix' : List ℕ) → Indexed p ws ix' (i + 1) → length ix' ≡ length ix → Filling p ws ix₀ ix' (i + 1)
    fill_next ix' h e = record { index = h; long = e ∙ g.long }

    pub fill_long : length ix ≡ length ix₀
    fill_long = g.long

    pub fill_all : length ws ≤ i → Indexed p ws ix (length ws)
    fill_all h =
        let q : length ws ≡ i = omega (arith, g.index.within) in
        rw q g.index

-- ---- the stores
module _ (ix : List ℕ) (i b : ℕ) (e : Option ℕ) where
  pub note_own : e ≡ None → set (set ix (8192 + i) (get_or ix b 0 + 65536 * i)) b (i + 1) ≡ noted ix i b (behind e)
  unfolding noted
  note_own q = rw q

  pub note_older : (h : ℕ) → e ≡ Some h → set ix (8192 + i) (65536 * h) ≡ noted ix i b (behind e)
  unfolding noted
  note_older h q =
      let m : suc h - 1 ≡ h = omega arith in
      rw (q, ne_eqb (suc h) 0 (λ z. omega arith), m)
