-- Keys and entries stay when words change that do not matter.
use Prim.Native.Nat.{ℕ, ◌+◌, ◌/◌, ◌%◌, ◌^◌, ◌<◌}
use native.Mathlib.Omega.{arith}
use native.Mathlib.Nat.{le_trans}
use mathlib.Core.Path.{◌≡◌, refl, ap, sym, ◌∙◌}
use mathlib.Core.Bool.{Bool, true, false, ◌&&◌}
use mathlib.Core.List.{List}
use mathlib.Core.Option.{Option, some}
use lib.ListN.{get_or}
use lib.Dec.{eqb}
use borrow.Author.Tests.{eqb-true}
use mir.Syntax.{w32}
use mir.Val.{to_z}
use mir.Facts.{to_z_inj}
use Rattle.meaning.specs.Basics.{if◌then◌otherwise◌}
use Rattle.meaning.specs.State.{Content, by_content, key_of, figure_key}
use Rattle.machine.specs.declared.Value.{Value}
use Rattle.machine.specs.declared.Value.TheVariants.{Integer, Text, Boolean, Nothing, Table, Shape}
use Rattle.machine.specs.Words.{kind_in, number_in, handle_in, unpacked}
use Rattle.machine.specs.Layout.{shapes_used, entries_made, entries_granted, shape_place, entry_place}
use Rattle.machine.specs.Act.{Raw}
use Rattle.machine.specs.declared.Figure.{Figure}
use Rattle.machine.specs.Shapes.{is_group_at, figure_at}
use Rattle.machine.specs.Tables.{owner_at, key_at, value_at, figure_content, content_of, head_place, is_group_key}
use Rattle.simulation.specs.Meant.{meant_value, meant_word, shapes_of, some_key, key_among, meant_key, entry_at, entries_of}
use Rattle.simulation.specs.Sound.{Valid, Shapes, Entries}
use Rattle.simulation.specs.Follows.{Later}
use Rattle.simulation.proofs.Indexing.{content_same, index_agrees}
use Rattle.simulation.proofs.Listed.{listed_first}
use Rattle.simulation.proofs.Frames.{group_stays, SameComponents, valid_later, meant_later, content_stays, content_made}

-- ---- keys
number_back : (a b : ℕ) → to_z w32 (a % 2 ^ 32) ≡ to_z w32 (b % 2 ^ 32) → a % 2 ^ 32 ≡ b % 2 ^ 32
number_back a b e = to_z_inj {w = w32} (omega arith) (omega arith) e

unpacked_text : (key : ℕ) → kind_in key ≡ 2 → unpacked key ≡ Text (handle_in key)
unfolding unpacked if◌then◌otherwise◌
unpacked_text key e = rw e

unpacked_shape : (key : ℕ) → kind_in key ≡ 6 → unpacked key ≡ Shape (number_in key)
unfolding unpacked if◌then◌otherwise◌
unpacked_shape key e = rw e

module _ {program g : List ℕ} {r r' : Raw} (l : Later program r r') (shapes : Shapes program g r.words) where
  pub key_later : SameComponents g r r' → (v : Value) → Valid program r.words v
      → key_among (shapes_of program g r') (meant_value program r'.texts v) ≡ key_among (shapes_of program g r) (meant_value program r.texts v)
  unfolding Valid meant_value key_among key_of
  key_later parts (Integer z) h = refl
  key_later parts (Text t) h = rw (l.texts t h)
  key_later parts (Boolean b) h = refl
  key_later parts Nothing h = refl
  key_later parts (Table t) h = refl
  key_later parts (Shape i) h =
      ap (λ (c : Content). some_key (by_content c (λ a. some (figure_key a)) (λ cs. Option.none)))
      (content_made program g r' i (le_trans h l.shapes) ∙ content_stays l shapes parts i h ∙ sym (content_made program g r i h))

  -- a key's content, by its word
  figure_content_lem : (i : ℕ) → i < get_or r.words shapes_used 0 → is_group_at r.words i ≡ false → figure_content program r'.texts r'.words i ≡ figure_content program r.texts r.words i
  unfolding figure_content figure_at
  figure_content_lem i h n =
      let e = (l.figures i h).figure n in
      let q = get_or r'.words (shape_place i + 1) 0 in
      let u = get_or r.words (shape_place i + 1) 0 in
      let s = get_or r'.words (shape_place i + 2) 0 in
      let v = get_or r.words (shape_place i + 2) 0 in
      let k = ap (λ (f : Figure). f.kind) e in
      let a = number_back q u (ap (λ (f : Figure). f.a) e) in
      let b = number_back (q / 2 ^ 32) (u / 2 ^ 32) (ap (λ (f : Figure). f.b) e) in
      let c = number_back s v (ap (λ (f : Figure). f.c) e) in
      let d = number_back (s / 2 ^ 32) (v / 2 ^ 32) (ap (λ (f : Figure). f.d) e) in
      let t = ap (λ (f : Figure). f.text) e in
      rw (k, a, b, c, d, t, l.texts (get_or r.words (shape_place i) 0 / 16) (shapes.proper i h n).text)

  pub content_later : (key : ℕ) → Valid program r.words (unpacked key) → is_group_key r.words key ≡ false
      → content_of program r'.texts r'.words key ≡ content_of program r.texts r.words key
  unfolding Valid
  content_later key v n =
      content_same program r.texts r'.texts r.words r'.words key
      (λ e. l.texts (handle_in key) (rw (unpacked_text key e) at v)) (λ e. figure_content_lem (number_in key) (rw (unpacked_shape key e) at v) (rw e at n))

  pub atom_kept : (key : ℕ) → Valid program r.words (unpacked key) → is_group_key r.words key ≡ false → is_group_key r'.words key ≡ false
  unfolding Valid
  atom_kept key v n = go (eqb (kind_in key) 6) refl (λ e. group_stays (l.figures (number_in key) (rw (unpacked_shape key (eqb-true _ _ e)) at v))) n
    where
      go : (b : Bool) → eqb (kind_in key) 6 ≡ b → (eqb (kind_in key) 6 ≡ true → is_group_at r'.words (number_in key) ≡ is_group_at r.words (number_in key))
          → (b && is_group_at r.words (number_in key)) ≡ false → (b && is_group_at r'.words (number_in key)) ≡ false
      go true e f n = f e ∙ n
      go false e f n = refl

  pub record SameEntries : Type 0 where
    pub count : get_or r'.words entries_made 0 ≡ get_or r.words entries_made 0
    pub firsts : (k : ℕ) → k < get_or r.words entries_made 0 → get_or r'.words (entry_place g k) 0 ≡ get_or r.words (entry_place g k) 0
    pub keys : (k : ℕ) → k < get_or r.words entries_made 0 → key_at g r'.words k ≡ key_at g r.words k
    pub values : (k : ℕ) → k < get_or r.words entries_made 0 → value_at g r'.words k ≡ value_at g r.words k
    pub heads : (b : ℕ) → b < entries_granted g → get_or r'.words (head_place g b) 0 ≡ get_or r.words (head_place g b) 0

  module _ (parts : SameComponents g r r') (same : SameEntries) (entries : Entries program g r) where
    owner_kept : (k : ℕ) → k < get_or r.words entries_made 0 → owner_at g r'.words k ≡ owner_at g r.words k
    owner_kept k h = ap (λ (w : ℕ). w % 2 ^ 40) (same.firsts k h)

    key_kept : (k : ℕ) → k < get_or r.words entries_made 0 → meant_key program g r' (key_at g r'.words k) ≡ meant_key program g r (key_at g r.words k)
    key_kept k h = rw (same.keys k h) (key_later parts (unpacked (key_at g r.words k)) (entries.keys k h))

    pub entries_kept : Entries program g r'
    entries_kept = record {
      packs = λ k h. let q = rw same.count at h in rw (same.keys k q) (entries.packs k q);
      keys = λ k h. let q = rw same.count at h in rw (same.keys k q) (valid_later l _ (entries.keys k q));
      atoms = λ k h.
          let q = rw same.count at h in
          rw (same.keys k q) (atom_kept (key_at g r.words k) (entries.keys k q) (entries.atoms k q));
      holds = λ k h. let q = rw same.count at h in rw (same.values k q) (valid_later l _ (entries.holds k q));
      apart = λ j k a b o e.
          let p = rw same.count at a in
          let q = rw same.count at b in
          entries.apart j k p q (sym (owner_kept j p) ∙ o ∙ owner_kept k q) (sym (key_kept j p) ∙ e ∙ key_kept k q);
      index = index_agrees program g r.texts r'.texts r.words r'.words
          (record { firsts = same.firsts; keys = same.keys; contents = λ k h. content_later (key_at g r.words k) (entries.keys k h) (entries.atoms k h) })
          same.count same.heads entries.index;
    }

    entry_kept : (k : ℕ) → k < get_or r.words entries_made 0 → entry_at program g r' k ≡ entry_at program g r k
    unfolding entry_at
    entry_kept k h =
        let o = owner_kept k h in
        let e = key_kept k h in
        let v : meant_word program r' (value_at g r'.words k) ≡ meant_word program r (value_at g r.words k) =
        rw (same.values k h) (meant_later l _ (entries.holds k h)) in
        λ i. record { owner = o i; key = e i; holds = v i }

    pub entries_same : entries_of program g r' ≡ entries_of program g r
    unfolding entries_of
    entries_same =
        rw same.count (listed_first (entry_at program g r') (entry_at program g r) (get_or r.words entries_made 0) (λ j b. entry_kept j b))
