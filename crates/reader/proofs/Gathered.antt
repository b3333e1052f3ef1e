-- What is gathered procedure by procedure is the code, the table, main's word and the first name that stands twice.
use Prim.Native.Nat.{ℕ, zero, suc, ◌+◌, ◌-◌, ◌≤◌, ◌<◌}
use native.Mathlib.Omega.{arith}
use mathlib.Core.Path.{◌≡◌, refl, sym, ap, ◌∙◌}
use mathlib.Core.Bool.{Bool, true, false, not, ◌&&◌, ◌||◌, cond}
use mathlib.Core.List.{List, [], ◌∷◌, ◌++◌, append-nil, append_assoc, map}
use mathlib.Core.Option.{Option, none, some}
use lib.ListN.{length, get_or, set, replicate, length-append, length-map, length-set, length-replicate}
use lib.Seq.{get_or-set_same, get_or-set_other}
use lib.Dec.{eqb, ltb}
use borrow.Author.Tests.{ne_eqb}
use Rattle.std.specs.Prelude.{Some, None}
use Rattle.std.specs.Prelude as Std
use Rattle.meaning.specs.Basics.{bytes, if◌then◌otherwise◌, same_text}
use Rattle.meaning.specs.Token.{Token, a_name}
use Rattle.meaning.specs.Tree.{Procedure}
use Rattle.meaning.specs.Grammar.{Got, good, wrong, after, procedures_from, procedure_named, with_main, procedures, place_of, read_of}
use Rattle.meaning.specs.Procedure.{is_among, in_library, doubled}
use Rattle.meaning.specs.Library.{Library, library_of, draw_line, draw_ellipse, draw_box, draw_text, connect_shapes, draw_text_on_shape, x_coordinate, y_coordinate, destroy_shape, clear_scene, draw_group}
use Rattle.names.specs.Prepared.{number_of, library_number, procedure_number}
use Rattle.code.specs.Code.{slot_of, code_of_procedure, code_of_procedures, head_word, tabled, head_named}
use Rattle.definitions.specs.Words.{Head, Gathered, main_word, first_twice, word_at, gather, gather_all, nothing, SeenWhole, whole, twice_at, failed_whole, settled, settled_by, written_whole}
use Rattle.reader.specs.Coded.{map_got, name_of, head_of}
use Rattle.reader.specs.Reading.{Seen, formed, refused, coded_apart, coded}
use Rattle.reader.proofs.Homes.{same_text_lem, text_same, Occurs, slot_small, slots_apart}
use Rattle.reader.proofs.Fields.{library_small}
use Rattle.reader.proofs.Trees.{Understood, UnderstoodAll, procedures_known}
use Rattle.reader.proofs.Tables.{head_positive, head_none, head_some}

-- ---- numbers of procedures
main_number : (x : List ℕ) → eqb (procedure_number x) 12 ≡ same_text x (bytes "main")
unfolding procedure_number
main_number x = go (same_text x (bytes "main"))
  where
    go : (b : Bool) → eqb (cond b 12 (library_number x)) 12 ≡ b
    go true = refl
    go false = ne_eqb (library_number x) 12 (λ e. omega (arith, library_small x))

number_library : (o : Option Library) → ltb (number_of o) 11 ≡ in_library o
unfolding number_of in_library
number_library none = refl
number_library (some draw_line) = refl
number_library (some draw_ellipse) = refl
number_library (some draw_box) = refl
number_library (some draw_text) = refl
number_library (some connect_shapes) = refl
number_library (some draw_text_on_shape) = refl
number_library (some x_coordinate) = refl
number_library (some y_coordinate) = refl
number_library (some destroy_shape) = refl
number_library (some clear_scene) = refl
number_library (some draw_group) = refl

main_own : in_library (library_of (bytes "main")) ≡ false
unfolding library_of in_library same_text if◌then◌otherwise◌
main_own = refl

library_number_lem : (x : List ℕ) → ltb (procedure_number x) 11 ≡ in_library (library_of x)
unfolding procedure_number library_number
library_number_lem x = go (same_text x (bytes "main")) refl
  where
    go : (b : Bool) → same_text x (bytes "main") ≡ b → ltb (cond b 12 (number_of (library_of x))) 11 ≡ in_library (library_of x)
    go true e = rw (same_text_lem x (bytes "main") e) (sym main_own)
    go false e = number_library (library_of x)

or_turned : (a b : Bool) → a || b ≡ b || a
or_turned true true = refl
or_turned true false = refl
or_turned false true = refl
or_turned false false = refl

pub zero_at : (n i : ℕ) → get_or {A = ℕ} (replicate n 0) i 0 ≡ 0
zero_at zero i = refl
zero_at (suc n) zero = refl
zero_at (suc n) (suc i) = zero_at n i

-- one more than a place, 0 for none
unfoldable twice_of : Option ℕ → Std.Option ℕ
twice_of none = None
twice_of (some p) = Some p

-- ---- what is gathered
module _ (ts : List Token) where
  word_so : (a : ℕ) (f : Procedure) → word_at a (head_of ts f) ≡ head_word a f ts
  unfolding head_of
  word_so a f = rw length-map

  pub gathered_code : (fs : List Procedure) (a : Gathered) → (gather_all a (map (head_of ts) fs)).code ≡ a.code ++ code_of_procedures fs ts
  unfolding gather_all gather head_of code_of_procedures code_of_procedure
  gathered_code [] a = sym (append-nil a.code)
  gathered_code (f ∷ fs) a = gathered_code fs (gather a (head_of ts f)) ∙ append_assoc a.code (code_of_procedure f ts) (code_of_procedures fs ts)

  -- the table and main's word with one procedure more
  code_more : (a : Gathered) (f : Procedure) → length (gather a (head_of ts f)).code ≡ length a.code + length (code_of_procedure f ts)
  unfolding gather head_of code_of_procedure
  code_more a f = length-append a.code (code_of_procedure f ts)

  table_more : (a : Gathered) (f : Procedure) → (gather a (head_of ts f)).table ≡ set a.table (slot_of ts f.name) (head_word (length a.code) f ts)
  unfolding gather head_of name_of
  table_more a f = ap (set a.table (slot_of ts f.name)) (word_so (length a.code) f)

  pub gathered_table : (fs : List Procedure) (a : Gathered) → (gather_all a (map (head_of ts) fs)).table ≡ tabled (length a.code) fs ts a.table
  unfolding gather_all tabled
  gathered_table [] a = refl
  gathered_table (f ∷ fs) a = gathered_table fs (gather a (head_of ts f)) ∙ rw (code_more a f, table_more a f)

  -- main's word so far, or the next one, 0 if there is none
  unfoldable pub main_or : Std.Option ℕ → ℕ → Std.Option ℕ
  main_or (Some m) h = Some m
  main_or None h = if eqb h 0 then (λ _. None) otherwise λ _. Some h

  main_kept : (m : Std.Option ℕ) → main_or m 0 ≡ m
  unfolding main_or if◌then◌otherwise◌
  main_kept None = refl
  main_kept (Some m) = refl

  main_more : (a : Gathered) (f : Procedure) → (gather a (head_of ts f)).main ≡ main_word a.main (procedure_number f.name) (head_word (length a.code) f ts)
  unfolding gather head_of name_of
  main_more a f = ap (main_word a.main (procedure_number f.name)) (word_so (length a.code) f)

  main_turn : (m : Std.Option ℕ) (x : List ℕ) (w h : ℕ) → 0 < w
      → main_or (main_word m (procedure_number x) w) h ≡ main_or m (if same_text x (bytes "main") then (λ _. w) otherwise λ _. h)
  unfolding main_word main_or if◌then◌otherwise◌
  main_turn (Some m) x w h p = refl
  main_turn None x w h p = rw (main_number x) (go (same_text x (bytes "main")))
    where
      go : (b : Bool) → main_or (if b then (λ _. Some w) otherwise λ _. None) h ≡ main_or None (if b then (λ _. w) otherwise λ _. h)
      go true = rw (ne_eqb w 0 (λ e. omega arith))
      go false = refl

  pub gathered_main : (fs : List Procedure) (a : Gathered) → (gather_all a (map (head_of ts) fs)).main ≡ main_or a.main (head_named (length a.code) fs ts (bytes "main"))
  unfolding gather_all head_named
  gathered_main [] a = sym (main_kept a.main)
  gathered_main (f ∷ fs) a =
      gathered_main fs (gather a (head_of ts f))
      ∙ rw (code_more a f, main_more a f) (main_turn a.main f.name (head_word (length a.code) f ts) _ (head_positive (length a.code) f ts))

  -- ---- names that stand twice
  twice_stays : (hs : List Head) (a : Gathered) (p : ℕ) → a.twice ≡ Some p → (gather_all a hs).twice ≡ Some p
  unfolding gather_all gather first_twice
  twice_stays [] a p h = h
  twice_stays (x ∷ hs) a p h = twice_stays hs (gather a x) p (rw h)

  -- the table says which names stand already
  record Stand (names : List (List ℕ)) (a : Gathered) : Type 0 where
    none_yet : a.twice ≡ None
    long : length a.table ≡ 8192
    by_slot : (x : List ℕ) → Occurs ts a_name x → not (eqb (get_or a.table (slot_of ts x) 0) 0) ≡ is_among x names

  abbrev again : List (List ℕ) → List ℕ → Bool
  again names x = is_among x names || in_library (library_of x)

  twice_turn : (names : List (List ℕ)) (a : Gathered) (f : Procedure) → Understood ts f → Stand names a
      → (gather a (head_of ts f)).twice ≡ (if again names f.name then (λ _. Some f.place) otherwise λ _. None)
  unfolding gather head_of name_of first_twice
  twice_turn names a f u s = rw (s.none_yet, library_number_lem f.name, s.by_slot f.name u.name, or_turned (in_library (library_of f.name)) (is_among f.name names))

  stand_more : length ts ≤ 8192 → (names : List (List ℕ)) (a : Gathered) (f : Procedure) → Understood ts f → Stand names a → again names f.name ≡ false
      → Stand (f.name ∷ names) (gather a (head_of ts f))
  unfolding is_among if◌then◌otherwise◌
  stand_more few names a f u s e = record {
    none_yet = twice_turn names a f u s ∙ rw e;
    long = ap length (table_more a f) ∙ length-set a.table (slot_of ts f.name) (head_word (length a.code) f ts) ∙ s.long;
    by_slot = λ x o. ap (λ (t : List ℕ). not (eqb (get_or t (slot_of ts x) 0) 0)) (table_more a f) ∙ go x o (same_text f.name x) refl;
  }
    where
      go : (x : List ℕ) → Occurs ts a_name x → (b : Bool) → same_text f.name x ≡ b
          → not (eqb (get_or (set a.table (slot_of ts f.name) (head_word (length a.code) f ts)) (slot_of ts x) 0) 0) ≡ b || is_among x names
      go x o true t =
          let n : f.name ≡ x = same_text_lem f.name x t in
          let small : slot_of ts x < length a.table = omega (arith, slot_small ts x o, s.long) in
          let w : head_word (length a.code) f ts ≡ 0 → ⊥ = λ q. omega (arith, head_positive (length a.code) f ts) in
          rw (n, get_or-set_same a.table (slot_of ts x) (head_word (length a.code) f ts) 0 small, ne_eqb _ _ w)
      go x o false t =
          let other : slot_of ts x ≡ slot_of ts f.name → ⊥ = λ q.
          let n : f.name ≡ x = sym ((slots_apart ts x f.name o u.name).0 q) in
          let y : same_text f.name x ≡ true = rw n (text_same x) in
          let z : ◌≡◌ {A = ℕ} 0 1 = cc in omega arith in
          rw (get_or-set_other a.table (slot_of ts f.name) (slot_of ts x) (head_word (length a.code) f ts) 0 other) (s.by_slot x o)

  gathered_twice : length ts ≤ 8192 → (fs : List Procedure) (names : List (List ℕ)) (a : Gathered) → UnderstoodAll ts fs → Stand names a
      → (gather_all a (map (head_of ts) fs)).twice ≡ twice_of (doubled names fs)
  unfolding gather_all doubled twice_of UnderstoodAll if◌then◌otherwise◌
  gathered_twice few [] names a u s = s.none_yet
  gathered_twice few (f ∷ fs) names a u s = go (again names f.name) refl (gathered_twice few fs (f.name ∷ names) (gather a (head_of ts f)) u.1)
    where
      go : (b : Bool) → again names f.name ≡ b
          → (Stand (f.name ∷ names) (gather a (head_of ts f)) → (gather_all (gather a (head_of ts f)) (map (head_of ts) fs)).twice ≡ twice_of (doubled (f.name ∷ names) fs))
          → (gather_all (gather a (head_of ts f)) (map (head_of ts) fs)).twice ≡ twice_of (if b then (λ _. some f.place) otherwise λ _. doubled (f.name ∷ names) fs)
      go true e i =
          let q : (gather a (head_of ts f)).twice ≡ Some f.place = twice_turn names a f u.0 s ∙ rw e in
          twice_stays (map (head_of ts) fs) (gather a (head_of ts f)) f.place q
      go false e i = i (stand_more few names a f u.0 s e)

  first_stand : Stand [] nothing
  unfolding is_among
  first_stand = record {
    none_yet = refl;
    long = length-replicate {A = ℕ} 8192 0;
    by_slot = λ x o. rw (zero_at 8192 (slot_of ts x));
  }

  -- ---- what was read
  module _ (program : List ℕ) (few : length ts ≤ 8192) where
    -- an answer about token words, as one about the program
    unfoldable pub to_seen : SeenWhole → Seen
    to_seen (whole w c t) = formed w c t
    to_seen (twice_at p) = refused 60 p
    to_seen (failed_whole k i) = refused k (place_of program ts i)

    settled_so : (fs : List Procedure) (j : ℕ) → UnderstoodAll ts fs → (o : Option Procedure) → procedure_named (bytes "main") fs ≡ o → (d : Option ℕ) → doubled [] fs ≡ d
        → to_seen (settled (length ts) (gather_all nothing (map (head_of ts) fs))) ≡ coded ts (read_of program ts (with_main ts fs j o))
    unfolding to_seen settled_by coded coded_apart read_of with_main main_or if◌then◌otherwise◌ twice_of
    settled_so fs j u none n d t =
        let m : (gather_all nothing (map (head_of ts) fs)).main ≡ None = gathered_main fs nothing ∙ rw (head_none 0 fs ts (bytes "main") n) in
        rw m
    settled_so fs j u (some f) n d t = by_name d t
      where
        main_some : (gather_all nothing (map (head_of ts) fs)).main ≡ Some (head_named 0 fs ts (bytes "main"))
        main_some =
            let q : head_named 0 fs ts (bytes "main") ≡ 0 → ⊥ = λ z. omega (arith, (head_some 0 fs ts (bytes "main") f n).some) in
            gathered_main fs nothing ∙ rw (ne_eqb _ _ q)

        by_name : (d : Option ℕ) → doubled [] fs ≡ d → to_seen (settled (length ts) (gather_all nothing (map (head_of ts) fs))) ≡ coded ts (read_of program ts (with_main ts fs j (some f)))
        by_name none t =
            let w : (gather_all nothing (map (head_of ts) fs)).twice ≡ None = gathered_twice few fs [] nothing u first_stand ∙ ap twice_of t in
            let c : (gather_all nothing (map (head_of ts) fs)).code ≡ code_of_procedures fs ts = gathered_code fs nothing in
            let b : (gather_all nothing (map (head_of ts) fs)).table ≡ tabled 0 fs ts (replicate 8192 0) = gathered_table fs nothing in
            rw (main_some, w, t, c, b)
        by_name (some p) t =
            let w : (gather_all nothing (map (head_of ts) fs)).twice ≡ Some p = gathered_twice few fs [] nothing u first_stand ∙ ap twice_of t in
            rw (main_some, w, t)

    wrong_so : (k p : ℕ) → to_seen (failed_whole k p) ≡ coded ts (read_of program ts (wrong k p))
    unfolding to_seen coded read_of
    wrong_so k p = refl

    whole_from : (g : Got (List Procedure)) → procedures_from (suc (length ts)) ts 0 ≡ g
        → to_seen (written_whole (length ts) nothing (map_got (map (head_of ts)) g)) ≡ coded ts (read_of program ts (after g λ fs j. with_main ts fs j (procedure_named (bytes "main") fs)))
    unfolding written_whole map_got after
    whole_from (good fs j) e = settled_so fs j (procedures_known ts (suc (length ts)) 0 fs j e) (procedure_named (bytes "main") fs) refl (doubled [] fs) refl
    whole_from (wrong k p) e = wrong_so k p

    pub whole_law : to_seen (written_whole (length ts) nothing (map_got (map (head_of ts)) (procedures_from (suc (length ts)) ts 0))) ≡ coded ts (read_of program ts (procedures ts))
    unfolding procedures
    whole_law = whole_from (procedures_from (suc (length ts)) ts 0) refl
