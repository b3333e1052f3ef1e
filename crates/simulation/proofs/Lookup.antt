-- Entries looked up alike.
use Prim.Native.Nat.{ℕ, zero, suc, ◌+◌, ◌-◌, ◌≤◌, ◌<◌}
use native.Mathlib.Omega.{arith}
use mathlib.Core.Path.{◌≡◌, refl, ap, ap₂, sym, ◌∙◌}
use mathlib.Core.Logic.{◌≢◌}
use mathlib.Core.Bool.{Bool, true, false, ◌&&◌}
use mathlib.Core.List.{List, [], ◌∷◌}
use mathlib.Core.Option.{Option, some}
use lib.ListN.{get_or}
use lib.Dec.{eqb}
use borrow.Author.Tests.{eqb-true, eqb-false}
use Rattle.meaning.specs.Basics.{if◌then◌otherwise◌}
use Rattle.meaning.specs.Token.{Token}
use Rattle.meaning.proofs.KeyLaws.{same_key_iff}
use Rattle.meaning.specs.Value.{integer, string, boolean, none, table, shape}
use Rattle.meaning.specs.Value as Value
use Rattle.meaning.specs.State.{State, by_content, Key, Entry, key_of, matches, same_key, entry_in, overwritten}
use Rattle.meaning.specs.Run as Run
use Rattle.meaning.specs.Book.{Amounts}
use Rattle.meaning.specs.Evaluate as Evaluate
use Rattle.machine.specs.declared.Value.{Value}
use Rattle.machine.specs.Words.{packed, unpacked}
use Rattle.machine.specs.Layout.{entries_made}
use Rattle.machine.specs.Act.{Raw}
use Rattle.machine.specs.Act as Act
use Rattle.machine.specs.Tables.{owner_at, key_at, value_at, find_entry, read_from, read_entry}
use Rattle.machine.specs.Tables as Tables
use Rattle.simulation.specs.Meant.{meant_value, meant_word, listed, shapes_of, key_among, meant_key, entry_at, entries_of}
use Rattle.simulation.specs.Index.{last}
use Rattle.simulation.specs.Sound.{Valid}
use Rattle.simulation.specs.Follows.{Related, Follows}
use Rattle.simulation.proofs.Binding.{bind}
use Rattle.simulation.proofs.Index.{last_le, last_meets, found_is_last}
use Rattle.simulation.proofs.Listed.{listed_same}
use Rattle.simulation.proofs.Results.{given, failed, Values, unmoved, still, steps_told}
use Rattle.simulation.proofs.Usable.{group_found, uses}
use Rattle.simulation.proofs.Keys.{both_true, IsKey, is_key, keys_alike, value_key, no_key}

-- ---- the last that meets a test
pub last_zero : (m : ℕ → Bool) (n : ℕ) → last m n ≡ 0 → (j : ℕ) → j < n → m j ≡ false
unfolding last if◌then◌otherwise◌
last_zero m zero e j l = absurd (omega arith)
last_zero m (suc n) e j l = go (m n) refl e (last_zero m n)
  where
    go : (b : Bool) → m n ≡ b → (if b then (λ _. suc n) otherwise λ _. last m n) ≡ 0 → (last m n ≡ 0 → (j : ℕ) → j < n → m j ≡ false) → m j ≡ false
    go true q e f = absurd (omega arith)
    go false q e f = at (eqb j n) refl (f e)
      where
        at : (c : Bool) → eqb j n ≡ c → ((j : ℕ) → j < n → m j ≡ false) → m j ≡ false
        at true z f = rw (eqb-true j n z) q
        at false z f = let d : j ≢ n = eqb-false j n z in f j (omega arith)

-- ---- entries by a function of the index
module _ (f : ℕ → Entry) (t : ℕ) (key : Key) where
  pub no_entry : (k n : ℕ) → ((j : ℕ) → k ≤ j → j < k + n → matches (f j) t key ≡ false) → entry_in (listed f k n) t key ≡ Option.none
  unfolding listed entry_in if◌then◌otherwise◌
  no_entry k zero h = refl
  no_entry k (suc n) h = rw (h k (omega arith) (omega arith)) (no_entry (suc k) n (λ j a b. h j (omega arith) (omega arith)))

  pub one_entry : (k n i : ℕ) → k ≤ i → i < k + n → matches (f i) t key ≡ true → ((j : ℕ) → k ≤ j → j < k + n → j ≢ i → matches (f j) t key ≡ false)
      → entry_in (listed f k n) t key ≡ some (f i).holds
  unfolding listed entry_in if◌then◌otherwise◌
  one_entry k zero i a b e h = absurd (omega arith)
  one_entry k (suc n) i a b e h = go (eqb k i) refl (λ d. one_entry (suc k) n i (omega arith) (omega arith) e (λ j x y. h j (omega arith) (omega arith)))
    where
      go : (c : Bool) → eqb k i ≡ c → (k ≢ i → entry_in (listed f (suc k) n) t key ≡ some (f i).holds)
          → (if matches (f k) t key then (λ _. some (f k).holds) otherwise λ _. entry_in (listed f (suc k) n) t key) ≡ some (f i).holds
      go true q r = let z = eqb-true k i q in rw (z, e)
      go false q r = let d : k ≢ i = eqb-false k i q in rw (h k (omega arith) (omega arith) d) (r d)

  -- one overwritten
  pub one_overwritten : (u : Value.Value) (f' : ℕ → Entry) (k n i : ℕ) → k ≤ i → i < k + n → matches (f i) t key ≡ true
      → ((j : ℕ) → k ≤ j → j < k + n → j ≢ i → matches (f j) t key ≡ false)
      → f' i ≡ record { owner = (f i).owner; key = (f i).key; holds = u } → ((j : ℕ) → k ≤ j → j < k + n → j ≢ i → f' j ≡ f j)
      → overwritten (listed f k n) t key u ≡ listed f' k n
  unfolding listed overwritten if◌then◌otherwise◌
  one_overwritten u f' k zero i a b e h x y = absurd (omega arith)
  one_overwritten u f' k (suc n) i a b e h x y =
      go (eqb k i) refl (λ d. one_overwritten u f' (suc k) n i (omega arith) (omega arith) e (λ j v w. h j (omega arith) (omega arith)) x (λ j v w. y j (omega arith) (omega arith)))
    where
      go : (c : Bool) → eqb k i ≡ c → (k ≢ i → overwritten (listed f (suc k) n) t key u ≡ listed f' (suc k) n)
          → (if matches (f k) t key then (λ _. record { owner = (f k).owner; key = (f k).key; holds = u } ∷ listed f (suc k) n) otherwise λ _. f k ∷ overwritten (listed f (suc k) n) t key u)
          ≡ f' k ∷ listed f' (suc k) n
      go true q r =
          let z = eqb-true k i q in
          rw (z, e) (ap₂ ◌∷◌ (sym x) (listed_same f f' (suc i) n (λ j v w. sym (y j (omega arith) (omega arith) (λ o. omega arith)))))
      go false q r = let d : k ≢ i = eqb-false k i q in rw (h k (omega arith) (omega arith) d) (ap₂ ◌∷◌ (sym (y k (omega arith) (omega arith) d)) (r d))

-- a key by a state or by its shapes
key_among_lem : {program : List ℕ} {ts : List Token} {g : List ℕ} {r : Raw} {s : State} {total : Amounts} (h : Related program ts g r s total) (u : Value.Value)
    → key_of s u ≡ key_of (record { variables = []; suspended = []; shapes = shapes_of program g r; tables = 0; entries = [] }) u
unfolding key_of
key_among_lem h (integer z) = refl
key_among_lem h (string z) = refl
key_among_lem h (boolean z) = refl
key_among_lem h none = refl
key_among_lem h (table z) = refl
key_among_lem h (shape z) = rw h.shapes

module _ {program : List ℕ} {ts : List Token} {g : List ℕ} {r : Raw} {s : State} {total : Amounts} (h : Related program ts g r s total)
    (t : ℕ) (v : Value) (valid : Valid program r.words v) (known : IsKey h.sound v) where
  abbrev pub key : Key
  key = key_among (shapes_of program g r) (meant_value program r.texts v)

  abbrev pub meets : ℕ → Bool
  meets = Tables.matches program g r.texts r.words t (packed v)

  -- a key is the same among the state's shapes
  pub key_is : key_of s (meant_value program r.texts v) ≡ some key
  key_is = key_among_lem h (meant_value program r.texts v) ∙ is_key h.sound v known

  pub matches_alike : (k : ℕ) → k < get_or r.words entries_made 0 → matches (entry_at program g r k) t key ≡ meets k
  unfolding Tables.matches entry_at
  matches_alike k l =
      let e = h.sound.entries in
      ap (λ b. eqb (owner_at g r.words k) t && b)
      (sym (ap (λ w. Tables.same_key program r.texts r.words w (packed v)) (sym (e.packs k l))
      ∙ keys_alike h.sound (unpacked (key_at g r.words k)) v (e.keys k l) valid
      (value_key h.sound (unpacked (key_at g r.words k)) (e.keys k l) (rw (e.packs k l) (e.atoms k l))) known))

  -- at most one entry meets
  pub only : (j k : ℕ) → j < get_or r.words entries_made 0 → k < get_or r.words entries_made 0 → meets j ≡ true → meets k ≡ true → j ≡ k
  unfolding entry_at
  only j k a b x y =
      let p = both_true (eqb (owner_at g r.words j) t) (same_key (meant_key program g r (key_at g r.words j)) key) (matches_alike j a ∙ x) in
      let q = both_true (eqb (owner_at g r.words k) t) (same_key (meant_key program g r (key_at g r.words k)) key) (matches_alike k b ∙ y) in
      h.sound.entries.apart j k a b (eqb-true _ _ p.0 ∙ sym (eqb-true _ _ q.0)) ((same_key_iff _ _).0 p.1 ∙ sym ((same_key_iff _ _).0 q.1))

  pub others : (i : ℕ) → i < get_or r.words entries_made 0 → meets i ≡ true → (j : ℕ) → j < get_or r.words entries_made 0 → j ≢ i → meets j ≡ false
  others i l e j m n = go (meets j) refl
    where
      go : (b : Bool) → meets j ≡ b → b ≡ false
      go true q = absurd (n (only j i m l q e))
      go false q = refl

  abbrev pub used : ℕ
  used = get_or r.words entries_made 0

  abbrev pub found : ℕ
  found = find_entry program g r.texts r.words t (packed v)

  found_last : found ≡ last meets used
  found_last = found_is_last program g r.texts r.words t (packed v) h.sound.entries.index

  pub missing_all : found ≡ 0 → (j : ℕ) → j < used → matches (entry_at program g r j) t key ≡ false
  missing_all e j l = matches_alike j l ∙ last_zero meets used (sym found_last ∙ e) j l

  pub missing : found ≡ 0 → entry_in s.entries t key ≡ Option.none
  unfolding entries_of
  missing e = rw h.entries (no_entry (entry_at program g r) t key 0 used (λ j a b. missing_all e j (omega arith)))

  pub found_less : found ≢ 0 → found - 1 < used
  found_less n = omega (arith, found_last, last_le meets used)

  pub found_meets : found ≢ 0 → meets (found - 1) ≡ true
  found_meets n = rw found_last (last_meets meets used (omega (arith, found_last)))

  pub present : found ≢ 0 → entry_in s.entries t key ≡ some (meant_word program r (value_at g r.words (found - 1)))
  unfolding entries_of entry_at
  present n = rw h.entries
      (one_entry (entry_at program g r) t key 0 used (found - 1) (omega arith) (omega (arith, found_less n)) (matches_alike (found - 1) (found_less n) ∙ found_meets n)
      (λ j a b d. matches_alike j (omega arith) ∙ others (found - 1) (found_less n) (found_meets n) j (omega arith) d))

  reads_key : {granted : Amounts} (p : ℕ) → Follows granted total (Values program ts g r) (Tables.read_from g p found r)
      (Evaluate.looked_up 20 p (entry_in s.entries t key) s)
  unfolding read_from Evaluate.looked_up Act.◌>>=◌ Act.go_on Act.load Act.refuse Act.fail Act.give Run.◌>>=◌ Run.go_on Run.fail Run.give
  reads_key p = go (eqb found 0) refl
    where
      go : {granted : Amounts} (b : Bool) → eqb found 0 ≡ b → Follows granted total (Values program ts g r) (Tables.read_from g p found r)
          (Evaluate.looked_up 20 p (entry_in s.entries t key) s)
      go true e = rw (e, missing (eqb-true _ _ e)) (failed 20 p r (steps_told h))
      go false e =
          let n : found ≢ 0 = eqb-false _ _ e in
          let w = h.sound.entries.holds (found - 1) (found_less n) in
          rw (e, present n)
          (bind (uses h (unpacked (value_at g r.words (found - 1))) _ w refl p) (λ _ _ r' s' total' a.
          given (still (record { after = unmoved h; valid = w; means = refl }) a)))

-- ---- any value as a key: a group is 20
module _ {program : List ℕ} {ts : List Token} {g : List ℕ} {r : Raw} {s : State} {total : Amounts} (h : Related program ts g r s total)
    (v : Value) (valid : Valid program r.words v) where
  pub group_no_key : Tables.is_group_key r.words (packed v) ≡ true → key_of s (meant_value program r.texts v) ≡ Option.none
  unfolding key_of meant_value by_content
  group_no_key e =
      let q = no_key h.sound v valid e in
      rw (q.1, group_found h q.0 q.2 q.3)

  pub reads_entry : {granted : Amounts} (t p : ℕ) → Follows granted total (Values program ts g r) (read_entry program g p t (packed v) r)
      (Evaluate.entry_of p t (meant_value program r.texts v) s)
  unfolding read_entry Evaluate.entry_of Evaluate.keyed Act.◌>>=◌ Act.go_on Act.refuse Act.fail Act.give Run.◌>>=◌ Run.go_on Run.current Run.fail
  reads_entry t p = go (Tables.is_group_key r.words (packed v)) refl
    where
      go : {granted : Amounts} (b : Bool) → Tables.is_group_key r.words (packed v) ≡ b → Follows granted total (Values program ts g r) (read_entry program g p t (packed v) r)
          (Evaluate.entry_of p t (meant_value program r.texts v) s)
      go true e = rw (e, group_no_key e) (failed 20 p r (steps_told h))
      go false e =
          let k = value_key h.sound v valid e in
          rw (e, key_is h t v valid k) (reads_key h t v valid k p)
