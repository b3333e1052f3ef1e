-- Entries stored: a new one added, or the one with the key overwritten.
use Prim.Native.Nat.{ℕ, suc, ◌+◌, ◌-◌, ◌*◌, ◌%◌, ◌^◌, ◌≤◌, ◌<◌}
use native.Mathlib.Omega.{arith}
use native.Mathlib.Nat.{mod-eq_of_lt}
use mathlib.Core.Path.{◌≡◌, refl, ap, ap₂, sym, ◌∙◌}
use mathlib.Core.Logic.{◌≢◌}
use mathlib.Core.Bool.{Bool, true, false}
use mathlib.Core.List.{List, [], ◌∷◌, ◌++◌}
use mathlib.Core.Option.{Option, some}
use lib.ListN.{get_or, set, length, length-set}
use lib.Seq.{get_or-set_same, get_or-set_other}
use lib.Dec.{eqb}
use borrow.Author.Tests.{eqb-true, eqb-false, eq-eqb}
use Rattle.meaning.specs.Basics.{if◌then◌otherwise◌}
use Rattle.meaning.specs.Token.{Token}
use Rattle.meaning.proofs.KeyLaws.{same_key_same}
use Rattle.meaning.specs.Value as Value
use Rattle.meaning.specs.State.{State, Key, Entry, matches, entry_in, overwritten, with_entries}
use Rattle.meaning.specs.Run as Run
use Rattle.meaning.specs.Book.{Amounts, added, resource_number, shortage_of}
use Rattle.meaning.specs.Evaluate as Evaluate
use Rattle.meaning.specs.Execute.{storing, updating}
use Rattle.meaning.specs.Execute as Execute
use Rattle.machine.specs.declared.Value.{Value}
use Rattle.machine.specs.Words.{packed, unpacked}
use Rattle.machine.specs.Layout.{entries_used, tables_made, entries_made, components_made, shapes_granted, entries_granted, fixed_words, entry_place, component_place}
use Rattle.machine.specs.Act.{Raw, raw}
use Rattle.machine.specs.Act as Act
use Rattle.machine.specs.Tables.{owner_at, key_at, value_at, link_at, find_entry, bucket_of, head_place, entry_laid, put_entry, add_entry, store_in, store_entry, is_group_key}
use Rattle.machine.specs.declared.Flow.TheVariants.{Onward}
use Rattle.simulation.specs.Meant.{meant_value, meant_word, listed, shapes_of, key_among, meant_key, entry_at, entries_of}
use Rattle.simulation.specs.Sound.{Valid, Entries}
use Rattle.simulation.specs.Follows.{Grants, Related, Later, Follows}
use Rattle.simulation.proofs.Binding.{act_after}
use Rattle.simulation.proofs.Listed.{listed_first, listed_more}
use Rattle.tables.proofs.IndexLaws.{bucket_less}
use Rattle.simulation.specs.Index.{lies}
use Rattle.simulation.proofs.Index.{last_le}
use Rattle.simulation.proofs.Indexing.{index_agrees, index_added}
use Rattle.simulation.proofs.Frames.{valid_later}
use Rattle.simulation.proofs.Holding.{key_later, content_later, atom_kept}
use Rattle.simulation.proofs.Results.{due, given, failed, After, steps_told, spent_then}
use Rattle.simulation.proofs.Growing.{up_to, length_four, read_four, read_first, read_second, read_third, read_fourth}
use Rattle.simulation.proofs.Keys.{IsKey, back_again, value_key, key_no_group}
use Rattle.simulation.proofs.Lookup.{key_is, matches_alike, others, found_less, found_meets, missing_all, missing, present, one_overwritten, group_no_key}
use Rattle.simulation.proofs.Flows.{both_onward, AfterFlow, Flows}
use Rattle.simulation.proofs.Kept.{stored_later, stored_components, stored, key_stays}

module _ {program : List ℕ} {ts : List Token} {g : List ℕ} {r : Raw} {s : State} {total : Amounts} (h : Related program ts g r s total)
    (t : ℕ) (made : t < get_or r.words tables_made 0) (v : Value) (valid : Valid program r.words v) (known : IsKey h.sound v) (w : Value) (valid' : Valid program r.words w) where
  abbrev used : ℕ
  used = get_or r.words entries_made 0

  abbrev found : ℕ
  found = find_entry program g r.texts r.words t (packed v)

  abbrev key : Key
  key = key_among (shapes_of program g r) (meant_value program r.texts v)

  old : Entries program g r
  old = h.sound.entries

  back : unpacked (packed w) ≡ w
  back = back_again h.sound w valid'

  back_key : unpacked (packed v) ≡ v
  back_key = back_again h.sound v valid

  no_group : is_group_key r.words (packed v) ≡ false
  no_group = key_no_group h.sound v known

  -- ---- overwritten
  module _ (n : find_entry program g r.texts r.words t (packed v) ≢ 0) where
    abbrev at : ℕ
    at = find_entry program g r.texts r.words t (packed v) - 1

    less : at < used
    less = found_less h t v valid known n

    abbrev over : List ℕ
    over = set r.words (entry_place g (find_entry program g r.texts r.words t (packed v) - 1) + 2) (packed w)

    over_other : (j : ℕ) → j ≢ entry_place g at + 2 → get_or over j 0 ≡ get_or r.words j 0
    over_other j d = get_or-set_other r.words (entry_place g at + 2) j (packed w) 0 d

    over_own : value_at g over at ≡ packed w
    over_own = get_or-set_same r.words (entry_place g at + 2) (packed w) 0 (omega (arith, less, h.sound.counted.made, h.sound.counted.entries, h.sound.lent.room.words))

    over_low : (j : ℕ) → j ≢ entries_used → j ≢ entries_made → j < fixed_words + 5 * shapes_granted g → get_or over j 0 ≡ get_or r.words j 0
    over_low j d m l = over_other j (λ e. omega arith)

    over_high : (j : ℕ) → component_place g 0 ≤ j → get_or over j 0 ≡ get_or r.words j 0
    over_high j l = over_other j (λ e. omega (arith, less, h.sound.counted.made, h.sound.counted.entries))

    over_count : get_or over entries_made 0 ≡ used
    over_count = over_other entries_made (λ e. omega arith)

    over_used : get_or over entries_used 0 ≡ get_or r.words entries_used 0
    over_used = over_other entries_used (λ e. omega arith)

    over_first : (k : ℕ) → get_or over (entry_place g k) 0 ≡ get_or r.words (entry_place g k) 0
    over_first k = over_other _ (λ e. omega arith)

    over_owner : (k : ℕ) → owner_at g over k ≡ owner_at g r.words k
    over_owner k = ap (λ w. w % 2 ^ 40) (over_first k)

    over_key : (k : ℕ) → key_at g over k ≡ key_at g r.words k
    over_key k = over_other _ (λ e. omega arith)

    over_value : (k : ℕ) → k ≢ at → value_at g over k ≡ value_at g r.words k
    over_value k d = over_other _ (λ e. d (omega arith))

    abbrev over_later : Later program r (raw r.texts over)
    over_later = stored_later h over over_low over_high

    over_meant : (k : ℕ) → k < used → meant_key program g (raw r.texts over) (key_at g over k) ≡ meant_key program g r (key_at g r.words k)
    over_meant k l = rw (over_key k) (key_stays h over over_low over_high (key_at g r.words k) (old.keys k l))

    over_holds : (k : ℕ) → k < used → Valid program over (unpacked (value_at g over k))
    over_holds k l = go (eqb k at) refl
      where
        go : (b : Bool) → eqb k at ≡ b → Valid program over (unpacked (value_at g over k))
        go true e = rw (eqb-true k at e, over_own, back) (valid_later over_later w valid')
        go false e = rw (over_value k (eqb-false k at e)) (valid_later over_later (unpacked (value_at g r.words k)) (old.holds k l))

    over_entries : Entries program g (raw r.texts over)
    over_entries = record {
      packs = λ k l. rw (over_key k) (old.packs k (rw over_count at l));
      keys = λ k l. rw (over_key k) (valid_later over_later _ (old.keys k (rw over_count at l)));
      atoms = λ k l. let m = rw over_count at l in rw (over_key k) (atom_kept over_later h.sound.shapes (key_at g r.words k) (old.keys k m) (old.atoms k m));
      holds = λ k l. over_holds k (rw over_count at l);
      apart = λ j k a b x y.
          let p = rw over_count at a in
          let q = rw over_count at b in
          old.apart j k p q (sym (over_owner j) ∙ x ∙ over_owner k) (sym (over_meant j p) ∙ y ∙ over_meant k q);
      index = index_agrees program g r.texts r.texts r.words over
          (record {
            firsts = λ k l. over_first k;
            keys = λ k l. over_key k;
            contents = λ k l. content_later over_later h.sound.shapes (key_at g r.words k) (old.keys k l) (old.atoms k l);
          })
          over_count (λ b l. over_other _ (λ e. omega arith)) old.index;
    }

    over_this : entry_at program g (raw r.texts over) at
        ≡ record { owner = (entry_at program g r at).owner; key = (entry_at program g r at).key; holds = meant_value program r.texts w }
    unfolding entry_at
    over_this =
        let o = over_owner at in
        let k = over_meant at less in
        let u : meant_word program (raw r.texts over) (value_at g over at) ≡ meant_value program r.texts w = rw (over_own, back) in
        λ i. record { owner = o i; key = k i; holds = u i }

    over_that : (j : ℕ) → j < used → j ≢ at → entry_at program g (raw r.texts over) j ≡ entry_at program g r j
    unfolding entry_at
    over_that j l d =
        let o = over_owner j in
        let k = over_meant j l in
        let u : meant_word program (raw r.texts over) (value_at g over j) ≡ meant_word program r (value_at g r.words j) = rw (over_value j d) in
        λ i. record { owner = o i; key = k i; holds = u i }

    over_list : overwritten s.entries t key (meant_value program r.texts w) ≡ entries_of program g (raw r.texts over)
    unfolding entries_of
    over_list = rw h.entries (one_overwritten (entry_at program g r) t key (meant_value program r.texts w) (entry_at program g (raw r.texts over)) 0 used at
        (omega arith) (omega (arith, less)) (matches_alike h t v valid known at less ∙ found_meets h t v valid known n)
        (λ j a b d. matches_alike h t v valid known j (omega arith) ∙ others h t v valid known at less (found_meets h t v valid known n) j (omega arith) d)
        over_this (λ j a b d. over_that j (omega arith) d)
        ∙ ap (listed (entry_at program g (raw r.texts over)) 0) (sym over_count))

    pub overwrites : After program ts g r (raw r.texts over) (with_entries s (overwritten s.entries t key (meant_value program r.texts w))) total
    overwrites = stored h over over_low over_high (overwritten s.entries t key (meant_value program r.texts w)) total (length-set r.words (entry_place g at + 2) (packed w))
        (rw over_used h.sound.counted.entries) (rw (over_count, over_other components_made (λ e. omega arith), over_used) h.sound.counted.made) over_entries over_list refl refl
        (h.entries_taken ∙ sym over_used) refl refl

  -- ---- added
  module _ (none : find_entry program g r.texts r.words t (packed v) ≡ 0) (fit : get_or r.words entries_used 0 + 1 ≤ entries_granted g) where
    abbrev bucket : ℕ
    bucket = bucket_of program g r.texts r.words t (packed v)

    abbrev place : ℕ
    place = entry_place g (get_or r.words entries_made 0)

    abbrev head : ℕ
    head = head_place g bucket

    abbrev paid : List ℕ
    paid = set (set r.words entries_used (get_or r.words entries_used 0 + 1)) entries_made (get_or r.words entries_made 0 + 1)

    abbrev more : List ℕ
    more = entry_laid (set (set r.words entries_used (get_or r.words entries_used 0 + 1)) entries_made (get_or r.words entries_made 0 + 1)) (entry_place g (get_or r.words entries_made 0))
        (head_place g (bucket_of program g r.texts r.words t (packed v))) t (packed v) (packed w) (get_or r.words entries_made 0 + 1)

    few : used + 1 ≤ entries_granted g
    few = omega (arith, fit, h.sound.counted.made)

    long : place + 3 ≤ length r.words
    long = omega (arith, few, h.sound.lent.room.words)

    length_paid : length paid ≡ length r.words
    length_paid = length-set (set r.words entries_used (get_or r.words entries_used 0 + 1)) entries_made (used + 1) ∙ length-set r.words entries_used (get_or r.words entries_used 0 + 1)

    long_paid : place + 3 ≤ length paid
    long_paid = rw length_paid long

    paid_other : (j : ℕ) → j ≢ entries_used → j ≢ entries_made → get_or paid j 0 ≡ get_or r.words j 0
    paid_other j a b =
        get_or-set_other (set r.words entries_used (get_or r.words entries_used 0 + 1)) entries_made j (used + 1) 0 b
        ∙ get_or-set_other r.words entries_used j (get_or r.words entries_used 0 + 1) 0 a

    more_paid : (j : ℕ) → j ≢ place → j ≢ place + 1 → j ≢ place + 2 → j ≢ head → get_or more j 0 ≡ get_or paid j 0
    more_paid j b c d e = read_four paid place (place + 1) (place + 2) head (t + 2 ^ 40 * (get_or paid head 0 % 2 ^ 16)) (packed v) (packed w) (used + 1) j b c d e

    more_other : (j : ℕ) → j ≢ entries_used → j ≢ entries_made → j ≢ place → j ≢ place + 1 → j ≢ place + 2 → j ≢ head → get_or more j 0 ≡ get_or r.words j 0
    more_other j a z b c d e = more_paid j b c d e ∙ paid_other j a z

    more_count : get_or more entries_made 0 ≡ used + 1
    more_count =
        more_paid entries_made (λ e. omega arith) (λ e. omega arith) (λ e. omega arith) (λ e. omega arith)
        ∙ get_or-set_same (set r.words entries_used (get_or r.words entries_used 0 + 1)) entries_made (used + 1) 0
        (rw (length-set r.words entries_used (get_or r.words entries_used 0 + 1)) (omega (arith, long)))

    more_used : get_or more entries_used 0 ≡ get_or r.words entries_used 0 + 1
    more_used =
        more_paid entries_used (λ e. omega arith) (λ e. omega arith) (λ e. omega arith) (λ e. omega arith)
        ∙ get_or-set_other (set r.words entries_used (get_or r.words entries_used 0 + 1)) entries_made entries_used (used + 1) 0 (λ e. omega arith)
        ∙ get_or-set_same r.words entries_used (get_or r.words entries_used 0 + 1) 0 (omega (arith, long))

    small : t < 2 ^ 40
    small = omega (arith, h.sound.counted.tables, h.sound.counted.steps, h.sound.lent.room.steps)

    new_first : get_or more place 0 ≡ t + 2 ^ 40 * (get_or paid head 0 % 2 ^ 16)
    new_first = read_first paid place (place + 1) (place + 2) head (t + 2 ^ 40 * (get_or paid head 0 % 2 ^ 16)) (packed v) (packed w) (used + 1) (omega (arith, long_paid))
        (λ e. omega arith) (λ e. omega arith) (λ e. omega arith)

    new_owner : owner_at g more used ≡ t
    new_owner = rw new_first (omega (arith, small))

    -- the bucket, and its head
    bucket_below : bucket < entries_granted g
    bucket_below = bucket_less program g r.texts r.words t (packed v) (omega (arith, few))

    head_small : get_or r.words head 0 < 2 ^ 16
    head_small =
        omega (arith, old.index.begins bucket bucket_below, last_le (lies program g r.texts r.words bucket) used, few, h.sound.lent.room.entries)

    head_paid : get_or paid head 0 % 2 ^ 16 ≡ get_or r.words head 0
    head_paid =
        let q : get_or paid head 0 ≡ get_or r.words head 0 = paid_other head (λ e. omega arith) (λ e. omega arith) in
        rw q (omega (arith, head_small))

    new_link : link_at g more used ≡ get_or r.words head 0
    new_link = rw (new_first, head_paid) (omega (arith, small))

    new_head : get_or more head 0 ≡ used + 1
    new_head = read_fourth paid place (place + 1) (place + 2) head (t + 2 ^ 40 * (get_or paid head 0 % 2 ^ 16)) (packed v) (packed w) (used + 1)
        (rw length_paid (omega (arith, bucket_below, h.sound.lent.room.words)))

    new_key : key_at g more used ≡ packed v
    new_key = read_second paid place (place + 1) (place + 2) head (t + 2 ^ 40 * (get_or paid head 0 % 2 ^ 16)) (packed v) (packed w) (used + 1) (omega (arith, long_paid))
        (λ e. omega arith) (λ e. omega arith)

    new_value : value_at g more used ≡ packed w
    new_value = read_third paid place (place + 1) (place + 2) head (t + 2 ^ 40 * (get_or paid head 0 % 2 ^ 16)) (packed v) (packed w) (used + 1) (omega (arith, long_paid))
        (λ e. omega arith)

    more_low : (j : ℕ) → j ≢ entries_used → j ≢ entries_made → j < fixed_words + 5 * shapes_granted g → get_or more j 0 ≡ get_or r.words j 0
    more_low j d m l = more_other j d m (λ e. omega arith) (λ e. omega arith) (λ e. omega arith) (λ e. omega arith)

    more_high : (j : ℕ) → component_place g 0 ≤ j → get_or more j 0 ≡ get_or r.words j 0
    more_high j l =
        more_other j (λ e. omega arith) (λ e. omega arith) (λ e. omega (arith, few)) (λ e. omega (arith, few)) (λ e. omega (arith, few)) (λ e. omega (arith, bucket_below))

    old_first : (k : ℕ) → k < used → get_or more (entry_place g k) 0 ≡ get_or r.words (entry_place g k) 0
    old_first k l = more_other _ (λ e. omega arith) (λ e. omega arith) (λ e. omega arith) (λ e. omega arith) (λ e. omega arith) (λ e. omega arith)

    old_owner : (k : ℕ) → k < used → owner_at g more k ≡ owner_at g r.words k
    old_owner k l = ap (λ w. w % 2 ^ 40) (old_first k l)

    old_key : (k : ℕ) → k < used → key_at g more k ≡ key_at g r.words k
    old_key k l = more_other _ (λ e. omega arith) (λ e. omega arith) (λ e. omega arith) (λ e. omega arith) (λ e. omega arith) (λ e. omega arith)

    old_value : (k : ℕ) → k < used → value_at g more k ≡ value_at g r.words k
    old_value k l = more_other _ (λ e. omega arith) (λ e. omega arith) (λ e. omega arith) (λ e. omega arith) (λ e. omega arith) (λ e. omega arith)

    abbrev more_later : Later program r (raw r.texts more)
    more_later = stored_later h more more_low more_high

    old_meant : (k : ℕ) → k < used → meant_key program g (raw r.texts more) (key_at g more k) ≡ meant_key program g r (key_at g r.words k)
    old_meant k l = rw (old_key k l) (key_stays h more more_low more_high (key_at g r.words k) (old.keys k l))

    new_meant : meant_key program g (raw r.texts more) (key_at g more used) ≡ key
    new_meant = rw (new_key, back_key) (key_later more_later h.sound.shapes (stored_components h more more_low more_high) v valid)

    -- no entry has this owner and this key yet
    fresh : (k : ℕ) → k < used → owner_at g r.words k ≡ t → meant_key program g r (key_at g r.words k) ≡ key → ⊥
    unfolding entry_at
    fresh k l a b =
        let m = missing_all h t v valid known none k l in
        let q : matches (entry_at program g r k) t key ≡ true = rw (eq-eqb _ _ a, b, same_key_same key) in
        let z : true ≡ false = sym q ∙ m in
        let y : ◌≡◌ {A = ℕ} 0 1 = cc in omega arith

    more_entries : Entries program g (raw r.texts more)
    more_entries = record {
      packs = λ k l. up_to (λ k. packed (unpacked (key_at g more k)) ≡ key_at g more k) used (λ k l. rw (old_key k l) (old.packs k l)) (rw (new_key, back_key)) k (rw more_count at l);
      keys = λ k l. up_to (λ k. Valid program more (unpacked (key_at g more k))) used (λ k l. rw (old_key k l) (valid_later more_later _ (old.keys k l)))
          (rw (new_key, back_key) (valid_later more_later v valid)) k (rw more_count at l);
      atoms = λ k l. up_to (λ k. is_group_key more (key_at g more k) ≡ false) used
          (λ k l. rw (old_key k l) (atom_kept more_later h.sound.shapes (key_at g r.words k) (old.keys k l) (old.atoms k l)))
          (rw new_key (atom_kept more_later h.sound.shapes (packed v) (rw back_key valid) no_group)) k (rw more_count at l);
      holds = λ k l. up_to (λ k. Valid program more (unpacked (value_at g more k))) used (λ k l. rw (old_value k l) (valid_later more_later _ (old.holds k l)))
          (rw (new_value, back) (valid_later more_later w valid')) k (rw more_count at l);
      apart = λ j k a b.
          up_to (λ j. owner_at g more j ≡ owner_at g more k → meant_key program g (raw r.texts more) (key_at g more j) ≡ meant_key program g (raw r.texts more) (key_at g more k) → j ≡ k) used
          (λ j a. up_to (λ k. owner_at g more j ≡ owner_at g more k → meant_key program g (raw r.texts more) (key_at g more j) ≡ meant_key program g (raw r.texts more) (key_at g more k) → j ≡ k) used
          (λ k b x y. old.apart j k a b (sym (old_owner j a) ∙ x ∙ old_owner k b) (sym (old_meant j a) ∙ y ∙ old_meant k b))
          (λ x y. absurd (fresh j a (sym (old_owner j a) ∙ x ∙ new_owner) (sym (old_meant j a) ∙ y ∙ new_meant))) k (rw more_count at b))
          (up_to (λ k. owner_at g more used ≡ owner_at g more k → meant_key program g (raw r.texts more) (key_at g more used) ≡ meant_key program g (raw r.texts more)
          (key_at g more k) → used ≡ k) used
          (λ k b x y. absurd (fresh k b (sym (old_owner k b) ∙ sym x ∙ new_owner) (sym (old_meant k b) ∙ sym y ∙ new_meant)))
          (λ x y. refl) k (rw more_count at b))
          j (rw more_count at a);
      index = index_added program g r.texts r.words more t (packed v) (record {
        agree = record {
          firsts = old_first;
          keys = old_key;
          contents = λ k l. content_later more_later h.sound.shapes (key_at g r.words k) (old.keys k l) (old.atoms k l);
        };
        used = more_count;
        left = omega (arith, few);
        owner = new_owner;
        key_there = new_key;
        content = content_later more_later h.sound.shapes (packed v) (rw back_key valid) no_group;
        link = new_link;
        head = new_head;
        heads = λ b l n. more_other _ (λ e. omega arith) (λ e. omega arith) (λ e. omega arith) (λ e. omega arith) (λ e. omega arith) (λ e. n (omega arith));
      }) old.index;
    }

    last_entry : entry_at program g (raw r.texts more) (0 + used) ≡ record { owner = t; key = key; holds = meant_value program r.texts w }
    unfolding entry_at
    last_entry =
        let z : 0 + used ≡ used = omega arith in
        let u : meant_word program (raw r.texts more) (value_at g more used) ≡ meant_value program r.texts w = rw (new_value, back) in
        let o = new_owner in
        let k = new_meant in
        ap (entry_at program g (raw r.texts more)) z ∙ (λ i. record { owner = o i; key = k i; holds = u i })

    entry_as : (k : ℕ) → k < used → entry_at program g (raw r.texts more) k ≡ entry_at program g r k
    unfolding entry_at
    entry_as j l =
        let o = old_owner j l in
        let k = old_meant j l in
        let u : meant_word program (raw r.texts more) (value_at g more j) ≡ meant_word program r (value_at g r.words j) = rw (old_value j l) in
        λ i. record { owner = o i; key = k i; holds = u i }

    more_list : s.entries ++ (record { owner = t; key = key; holds = meant_value program r.texts w } ∷ []) ≡ entries_of program g (raw r.texts more)
    unfolding entries_of
    more_list =
        let z : used + 1 ≡ suc used = omega arith in
        rw h.entries
        (sym (ap (listed (entry_at program g (raw r.texts more)) 0) (more_count ∙ z) ∙ listed_more (entry_at program g (raw r.texts more)) 0 used
        ∙ ap₂ (λ (l : List Entry) (a : Entry). l ++ (a ∷ [])) (listed_first (entry_at program g (raw r.texts more)) (entry_at program g r) used entry_as) last_entry))

    pub adds : (p : ℕ) → After program ts g r (raw r.texts more)
        (with_entries s (s.entries ++ (record { owner = t; key = key; holds = meant_value program r.texts w } ∷ []))) (added total (due Run.entries 1 p))
    unfolding added resource_number
    adds p = stored h more more_low more_high _ (added total (due Run.entries 1 p))
        (length_four paid place (place + 1) (place + 2) head (t + 2 ^ 40 * (get_or paid head 0 % 2 ^ 16)) (packed v) (packed w) (used + 1) ∙ length_paid)
        (rw more_used fit)
        (omega (arith, more_count, more_used, more_low components_made (λ e. omega arith) (λ e. omega arith) (omega arith), h.sound.counted.made))
        more_entries more_list (omega arith) (omega arith) (omega (arith, h.entries_taken, more_used)) (omega arith) (omega arith)

  -- ---- stored
  module _ {granted : Amounts} (gr : Grants g granted) (p : ℕ) where
    abbrev Stores : Act.Out (Unit {0}) → Run.Run Execute.Flow → Type 0
    Stores o m = Follows granted total (λ _ f r' s' total'. AfterFlow program ts g r Onward f r' s' total') o m

    stores_new : find_entry program g r.texts r.words t (packed v) ≡ 0
        → Stores (add_entry program g t (packed v) (packed w) p r) (storing p t key (meant_value program r.texts w) Option.none s)
    unfolding add_entry storing put_entry Act.◌>>=◌ Act.go_on Act.load Act.store Run.◌>>=◌ Run.go_on Run.current Run.become Run.give shortage_of
    stores_new none =
        spent_then Run.entries entries_used (entries_granted g) 1 77 p r s h.entries_taken gr.entries refl (steps_told h) _ _
        (λ fit.
        let q : get_or r.words entries_made 0 % entries_granted g ≡ get_or r.words entries_made 0 = mod-eq_of_lt (omega (arith, few none fit)) in
        rw q (given (record { after = adds none fit p; flow = both_onward })))

    stores_old : (n : find_entry program g r.texts r.words t (packed v) ≢ 0) (u : Value.Value)
        → Stores (Act.store (entry_place g (find_entry program g r.texts r.words t (packed v) - 1) + 2) (packed w) r)
        (storing p t key (meant_value program r.texts w) (some u) s)
    unfolding storing Act.store Run.◌>>=◌ Run.go_on Run.current Run.become Run.give
    stores_old n u = given (record { after = overwrites n; flow = both_onward })

    pub stores_key : Stores (store_in program g t (packed v) (packed w) p (find_entry program g r.texts r.words t (packed v)) r)
        (storing p t key (meant_value program r.texts w) (entry_in s.entries t key) s)
    unfolding store_in if◌then◌otherwise◌
    stores_key = go (eqb found 0) refl
      where
        go : (b : Bool) → eqb found 0 ≡ b
            → Stores (store_in program g t (packed v) (packed w) p (find_entry program g r.texts r.words t (packed v)) r)
            (storing p t key (meant_value program r.texts w) (entry_in s.entries t key) s)
        go true e = rw (e, missing h t v valid known (eqb-true _ _ e)) (stores_new (eqb-true _ _ e))
        go false e = rw (e, present h t v valid known (eqb-false _ _ e)) (stores_old (eqb-false _ _ e) _)

-- ---- any value as a key: a group is 20
module _ {program : List ℕ} {ts : List Token} {g : List ℕ} {r : Raw} {s : State} {total : Amounts} (h : Related program ts g r s total)
    (t : ℕ) (made : t < get_or r.words tables_made 0) (v : Value) (valid : Valid program r.words v) (w : Value) (valid' : Valid program r.words w)
    {granted : Amounts} (gr : Grants g granted) (p : ℕ) where
  stores_in : Follows granted total (λ _ f r' s' total'. AfterFlow program ts g r Onward f r' s' total') (store_entry program g t (packed v) (packed w) p r)
      (updating p t (meant_value program r.texts v) (meant_value program r.texts w) s)
  unfolding store_entry updating Evaluate.keyed Act.◌>>=◌ Act.go_on Act.refuse Act.fail Act.give Run.◌>>=◌ Run.go_on Run.current Run.fail
  stores_in = go (is_group_key r.words (packed v)) refl
    where
      go : (b : Bool) → is_group_key r.words (packed v) ≡ b
          → Follows granted total (λ _ f r' s' total'. AfterFlow program ts g r Onward f r' s' total') (store_entry program g t (packed v) (packed w) p r)
          (updating p t (meant_value program r.texts v) (meant_value program r.texts w) s)
      go true e = rw (e, group_no_key h v valid e) (failed 20 p r (steps_told h))
      go false e =
          let k = value_key h.sound v valid e in
          rw (e, key_is h t v valid k) (stores_key h t made v valid k w valid' gr p)

  pub stores : Follows granted total (Flows program ts g r) (Act.◌>>◌ (store_entry program g t (packed v) (packed w) p) (Act.give Onward) r)
      (updating p t (meant_value program r.texts v) (meant_value program r.texts w) s)
  unfolding Act.◌>>=◌ Act.give
  stores = act_after (λ _. Act.give Onward) (λ _ f r' s' total' q. record { result = Onward; slices = r'; is = refl; holds = q }) stores_in
