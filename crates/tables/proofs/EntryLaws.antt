-- Reading and storing an entry.
use Prim.Native.Nat.{ℕ, zero, suc, ◌+◌, ◌-◌, ◌%◌, ◌^◌, ◌≤◌, ◌<◌}
use mathlib.Core.Path.{◌≡◌, ◌∙◌, refl}
use mathlib.Core.List.{List}
use mathlib.Core.Bool.{Bool, true, false}
use native.Mathlib.Omega.{arith}
use native.Mathlib.Nat.{mod-lt}
use lib.ListN.{length, get_or, set, length-set}
use lib.Dec.{eqb}
use borrow.Author.Tests.{ne_eqb}
use Rattle.std.specs.Prelude.{Result, Ok, Err, Option, None, Some}
use Rattle.machine.specs.declared.Fault.{Fault}
use Rattle.machine.specs.declared.Fault.TheVariants.{Misuse}
use Rattle.machine.specs.declared.Value.{Value}
use Rattle.machine.specs.Words.{unpacked}
use Rattle.machine.specs.Layout.{entries_used, entries_made, entries_granted, entry_place, Room}
use Rattle.machine.specs.Act.{go_on, give, refuse, load, store, spend, out_of, DoesIn, Does, ◌>>=◌, ◌>>◌}
use Rattle.machine.specs.Variables.{usable}
use Rattle.machine.specs.Tables.{find_entry, read_from, read_entry, bucket_of, entry_laid, put_entry, add_entry, store_in, store_entry, is_group_key}
use Rattle.machine.proofs.Acts.{allowed_in, refused_in}
use Rattle.stores.proofs.Acts.{covered}
use Rattle.tables.specs.Asked.{Puts, entry_before, putting}
use Rattle.tables.proofs.IndexLaws.{bucket_less, found_le}
use Rattle.meaning.specs.Basics.{if◌then◌otherwise◌}

-- ---- what was found
found_by : (n : ℕ) {k : ℕ} → entry_before n ≡ Some k → n ≡ suc k
unfolding entry_before
found_by zero e = cc
found_by (suc n) e = cc

not_found : (n : ℕ) → entry_before n ≡ None → n ≡ 0
unfolding entry_before
not_found zero e = refl
not_found (suc n) e = cc

module _ (program g ts ws : List ℕ) (t key : ℕ) {o : Option ℕ} (e : o ≡ entry_before (find_entry program g ts ws t key)) where
  pub missing : o ≡ None → find_entry program g ts ws t key ≡ 0
  missing s = not_found _ (rw e at s)

  module _ {k : ℕ} (s : o ≡ Some k) where
    pub found : find_entry program g ts ws t key ≡ suc k
    found = found_by _ (rw e at s)

    module _ (l : Room g ws) where
      pub found_small : k < 2 ^ 16
      found_small = omega (arith, found, found_le program g ts ws t key, l.entries)

      pub found_room : (at : ℕ) → at ≡ entry_place g k → at + 4 ≤ length ws
      found_room at f = omega (arith, found, found_le program g ts ws t key, l.words)

-- ---- reading
module _ (program g ts ws : List ℕ) (p t key : ℕ) {s : Result Value Fault} {ts' ws' : List ℕ} where
  reading : DoesIn ts ws (refuse (is_group_key ws key) 20 p >> read_from g p (find_entry program g ts ws t key)) s ts' ws' → DoesIn ts ws (read_entry program g p t key) s ts' ws'
  unfolding read_entry
  reading h = record { equal = h.equal }

pub group_read : (program g ts ws : List ℕ) (p t key : ℕ) {b : Bool} → b ≡ is_group_key ws key → b ≡ true → DoesIn ts ws (read_entry program g p t key) (Err (Misuse p)) ts ws
group_read program g ts ws p t key e z = reading program g ts ws p t key (refused_in _ (Misuse p) _ ts (rw e at z))

module _ (program g ts ws : List ℕ) (p t key : ℕ) {b : Bool} (e₀ : b ≡ is_group_key ws key) (z₀ : b ≡ false) {o : Option ℕ} (e : o ≡ entry_before (find_entry program g ts ws t key)) where
  pub no_entry : o ≡ None → DoesIn ts ws (read_entry program g p t key) (Err (Misuse p)) ts ws
  unfolding read_from
  no_entry z =
      let q : eqb (find_entry program g ts ws t key) 0 ≡ true = rw (missing program g ts ws t key e z) refl in
      reading program g ts ws p t key (allowed_in _ _ _ _ (rw e₀ at z₀) (refused_in _ (Misuse p) _ ts q))

  -- what is left to do with the entry
  pub entry_there : {k at : ℕ} {s : Result Value Fault} → o ≡ Some k → at ≡ entry_place g k
      → DoesIn ts ws (usable p (unpacked (get_or ws (at + 2) 0)) >> give (unpacked (get_or ws (at + 2) 0))) s ts ws → DoesIn ts ws (read_entry program g p t key) s ts ws
  unfolding read_from ◌>>=◌ go_on load refuse give
  entry_there {k} z f h =
      let q = found program g ts ws t key e z in
      let m : suc k - 1 ≡ k = omega arith in
      let y : eqb (suc k) 0 ≡ false = ne_eqb (suc k) 0 (λ w. omega arith) in
      reading program g ts ws p t key (allowed_in _ _ _ _ (rw e₀ at z₀) (record { equal = h.equal ∙ rw (q, y, m, f) refl }))

-- ---- a new entry
pub bucket_small : (program g ts ws : List ℕ) (t key b : ℕ) → 0 < get_or g 2 0 → b ≡ bucket_of program g ts ws t key → Room g ws → b < 2 ^ 16
bucket_small program g ts ws t key b h e l = omega (arith, e, bucket_less program g ts ws t key h, l.entries)

module _ (program g ts ws : List ℕ) (t key value p : ℕ) where
  pub adding : {s : Result (Unit {0}) Fault} {ts' ws' : List ℕ} → DoesIn ts ws (do
    n ← load entries_made
    spend entries_used (entries_granted g) 1 77 p
    store entries_made (n % entries_granted g + 1)
    put_entry (entry_place g (n % entries_granted g)) (entry_place g (bucket_of program g ts ws t key) + 3) t key value (n % entries_granted g + 1)) s ts' ws'
      → DoesIn ts ws (add_entry program g t key value p) s ts' ws'
  unfolding add_entry
  adding h = record { equal = h.equal }

  module _ {ws₁ : List ℕ} (h : Does ws (spend entries_used (entries_granted g) 1 77 p) (Ok tt) ws₁) where
    pub entries_some : 0 < get_or g 2 0
    entries_some = omega (arith, (covered 77 p h).within)

    pub made_small : Room g ws → get_or ws entries_made 0 % get_or g 2 0 < 2 ^ 16
    made_small l = let q : get_or ws entries_made 0 % get_or g 2 0 < get_or g 2 0 = mod-lt _ entries_some in omega (arith, l.entries)

    module _ (at b head : ℕ) (e : b ≡ bucket_of program g ts ws t key) (f : at ≡ entry_place g (get_or ws entries_made 0 % get_or g 2 0)) (d : head ≡ entry_place g b) where
      pub puts_entry : Room g ws → length ws₁ ≡ length ws → Puts (set ws₁ entries_made (get_or ws entries_made 0 % get_or g 2 0 + 1)) at (head + 3)
      puts_entry l k =
          let b_less : b < get_or g 2 0 = rw e (bucket_less program g ts ws t key entries_some) in
          let n_less : get_or ws entries_made 0 % get_or g 2 0 < get_or g 2 0 = mod-lt _ entries_some in
          let long : length (set ws₁ entries_made (get_or ws entries_made 0 % get_or g 2 0 + 1)) ≡ length ws = length-set ws₁ entries_made _ ∙ k in
          record { entry = omega (arith, l.words); index = omega (arith, l.words) }

      pub entry_put : {ws' : List ℕ} → ws' ≡ entry_laid (set ws₁ entries_made (get_or ws entries_made 0 % get_or g 2 0 + 1)) at (head + 3) t key value (get_or ws entries_made 0 % get_or g 2 0 + 1)
          → DoesIn ts ws₁ (store entries_made (get_or ws entries_made 0 % entries_granted g + 1) >>
          put_entry (entry_place g (get_or ws entries_made 0 % entries_granted g)) (entry_place g (bucket_of program g ts ws t key) + 3) t key value (get_or ws entries_made 0 % entries_granted g + 1)) (Ok tt) ts ws'
      unfolding put_entry store ◌>>=◌ go_on out_of
      entry_put q = record { equal = rw (q, d, f, e) }

-- ---- storing
module _ (program g ts ws : List ℕ) (t key value p : ℕ) {o : Option ℕ} (e : o ≡ entry_before (find_entry program g ts ws t key)) where
  pub stores_new : {s : Result (Unit {0}) Fault} {ws' : List ℕ} → o ≡ None → DoesIn ts ws (add_entry program g t key value p) s ts ws' → DoesIn ts ws (putting program g ts ws t key value p) s ts ws'
  unfolding putting store_in if◌then◌otherwise◌
  stores_new z h = record { equal = h.equal ∙ rw (missing program g ts ws t key e z) }

  pub stores_old : {k at : ℕ} → o ≡ Some k → at ≡ entry_place g k → DoesIn ts ws (putting program g ts ws t key value p) (Ok tt) ts (set ws (at + 2) value)
  unfolding putting store_in store out_of if◌then◌otherwise◌
  stores_old {k} z f =
      let m : suc k - 1 ≡ k = omega arith in
      let y : eqb (suc k) 0 ≡ false = ne_eqb (suc k) 0 (λ w. omega arith) in
      record { equal = rw (found program g ts ws t key e z, y, m, f) }

module _ (program g ts ws : List ℕ) (t key value p : ℕ) {b : Bool} (e : b ≡ is_group_key ws key) where
  storing : {s : Result (Unit {0}) Fault} {ws' : List ℕ} → DoesIn ts ws (refuse (is_group_key ws key) 20 p >> putting program g ts ws t key value p) s ts ws' → DoesIn ts ws (store_entry program g t key value p) s ts ws'
  unfolding store_entry putting
  storing h = record { equal = h.equal }

  pub group_stored : b ≡ true → DoesIn ts ws (store_entry program g t key value p) (Err (Misuse p)) ts ws
  group_stored z = storing (refused_in _ (Misuse p) _ ts (rw e at z))

  pub value_stored : {s : Result (Unit {0}) Fault} {ws' : List ℕ} → b ≡ false → DoesIn ts ws (putting program g ts ws t key value p) s ts ws' → DoesIn ts ws (store_entry program g t key value p) s ts ws'
  value_stored z h = storing (allowed_in _ _ _ _ (rw e at z) h)
