-- Groups made: components, zeros, and the loop that adds them.
use Prim.Native.Nat.{ℕ, zero, suc, ◌+◌, ◌-◌, ◌*◌, ◌%◌, ◌^◌, ◌≤◌, ◌<◌}
use mathlib.Core.Path.{◌≡◌, refl, ap, sym, ◌∙◌}
use mathlib.Core.Bool.{Bool, true, false}
use mathlib.Core.List.{List, [], ◌∷◌, ◌++◌, append_assoc}
use native.Mathlib.Omega.{arith}
use native.Mathlib.Nat.{mod-lt}
use lib.ListN.{get_or, set, length, length-set, take, drop, replicate, take-append-drop}
use lib.Seq.{get_or-set_same, get_or-set_other}
use lib.Dec.{leb}
use borrow.Rule.Slice.PartMut.{put_mid, mid_of, mid_len, Post-is}
use Rattle.std.specs.Prelude.{Result, Ok, Err}
use Rattle.std.specs.Result.{IsErrAnd}
use Rattle.std.proofs.lemmas.List.{take_more_set, drop-set-lt}
use Rattle.meaning.specs.Basics.{if◌then◌otherwise◌}
use Rattle.machine.specs.declared.Fault.{Fault}
use Rattle.machine.specs.Layout.{entries_used, components_made, entries_granted, calls_granted, shape_place, component_place, path_place, Room}
use Rattle.machine.specs.Act.{raw, ◌>>=◌, go_on, give, load, store, spend, Gives, Does}
use Rattle.machine.specs.Groups.{slot_word, first_at, zeroed, unmarked, fill_from, group_laid, put_group}
use Rattle.machine.proofs.Acts.{stops, onward, carried, given}
use Rattle.machine.proofs.Slots.{zeroed_other, slot_room}
use Rattle.stores.proofs.Acts.{covered}
use Rattle.groups.specs.Making.{add_one, Sources, Adds}
use Rattle.walks.proofs.TurnLaws.{room_same}

-- ---- zeros laid at once
zeroed_is : (ws : List ℕ) (at n : ℕ) → at + n ≤ length ws → zeroed ws at n ≡ take at ws ++ (replicate n 0 ++ drop (at + n) ws)
unfolding zeroed
zeroed_is ws at zero l = let q : at + 0 ≡ at = omega arith in sym (rw q (take-append-drop at ws))
zeroed_is ws at (suc n) l =
    let q : at + suc n ≡ at + 1 + n = omega arith in
    let m : at < length ws = omega arith in
    let k : at + 1 + n ≤ length (set ws at 0) = rw (length-set ws at 0) (omega arith) in
    zeroed_is (set ws at 0) (at + 1) n k
    ∙ rw (take_more_set ws at 0 m, drop-set-lt (at + 1 + n) ws at 0 (omega arith), q) (append_assoc (take at ws) (0 ∷ []) (replicate n 0 ++ drop (at + 1 + n) ws))

pub cleared : (ws e : List ℕ) (at n from to : ℕ) → at + n ≤ length ws → from ≡ at → to ≡ at + n → e ≡ replicate (length (mid_of from (to - from) ws)) 0
    → put_mid from (to - from) ws e ≡ zeroed ws at n
cleared ws e at n from to l f t h =
    let q : to - from ≡ n = omega arith in
    let m : mid_of from (to - from) ws ≡ mid_of at (at + n - at) ws = rw (f, t) in
    let p : at + n - at ≡ n = omega arith in
    rw (h, m, f, t) (rw (Post-is at (at + n) ws (omega arith), mid_len at (at + n) ws l, p) (sym (zeroed_is ws at n l)))

-- ---- a component
module _ (g : List ℕ) {ws : List ℕ} (m p : ℕ) {ws₁ : List ℕ} (h : Does ws (spend entries_used (entries_granted g) 1 m p) (Ok tt) ws₁) where
  pub entries_some : 0 < entries_granted g
  entries_some = omega (arith, (covered m p h).within)

  pub made_less : get_or ws components_made 0 % entries_granted g < entries_granted g
  made_less = mod-lt _ entries_some

pub marks_clear : (g : List ℕ) {ws ws' : List ℕ} (k : ℕ) {from : ℕ} → from ≡ path_place g 0 k → ws' ≡ zeroed ws from (calls_granted g) → Gives ws (unmarked g k) tt ws'
unfolding unmarked
marks_clear g k e h = record { equal = λ ts. rw (h, e) }

pub stores_word : {ws : List ℕ} (i w : ℕ) {at x : ℕ} → at ≡ i → x ≡ w → Gives ws (store i w) tt (set ws at x)
unfolding store
stores_word i w e f = record { equal = λ ts. rw (e, f) }

-- how many entries are used then
pub one_used : {g ws ws₁ ws₂ : List ℕ} (m p x k : ℕ) {at from : ℕ} → Room g ws → Does ws (spend entries_used (entries_granted g) 1 m p) (Ok tt) ws₁ → at ≡ component_place g k
    → from ≡ path_place g 0 k → ws₂ ≡ zeroed (set ws₁ at x) from (calls_granted g) → (y : ℕ)
    → (get_or (set ws₂ components_made y) entries_used 0 ≡ get_or ws entries_used 0 + 1) × (get_or ws entries_used 0 < 2 ^ 16)
one_used {g} {ws} {ws₁} {ws₂} m p x k {at} {from} r h f b c y =
    let q = covered m p h in
    let l : entries_used < length ws = omega (arith, r.words) in
    let within = q.within in
    let entries = r.entries in (
      get_or-set_other ws₂ components_made entries_used y 0 (λ z. omega arith)
          ∙ rw c (zeroed_other (set ws₁ at x) from (calls_granted g) entries_used (λ j m z. omega (arith, b)))
          ∙ get_or-set_other ws₁ at entries_used x 0 (λ z. omega (arith, f)) ∙ rw q.words (get_or-set_same ws entries_used (get_or ws entries_used 0 + 1) 0 l),
      omega arith,
    )

pub not_one : (e : Fault) (s : Result (Unit {0}) Fault) {A : Type 0} → IsErrAnd s (λ y. y ≡ e) → s ≡ Ok tt → A
not_one e (Ok a) h q = absurd h
not_one e (Err y) h q = cc

pub component_room : (g ws ws₁ : List ℕ) (k at : ℕ) → Room g ws → k < entries_granted g → at ≡ component_place g k → length ws₁ ≡ length ws → at < length ws₁
component_room g ws ws₁ k at r h e l = omega (arith, r.words, l)

pub marks_room : (g ws ws₁ : List ℕ) (k at x from : ℕ) → Room g ws → k < entries_granted g → from ≡ path_place g 0 k → length ws₁ ≡ length ws → from + calls_granted g ≤ length (set ws₁ at x)
marks_room g ws ws₁ k at x from r h e l = rw (length-set ws₁ at x, l, e) (slot_room g ws k r h)

-- ---- all of them
fill_one : (g : List ℕ) (p stride unit at m : ℕ) (ts ws : List ℕ)
    → fill_from g p stride unit at (suc m) (raw ts ws) ≡ (add_one g unit at m p >>= λ _. fill_from g p stride unit (at + stride) m) (raw ts ws)
unfolding fill_from add_one unmarked ◌>>=◌ go_on load store spend if◌then◌otherwise◌
fill_one g p stride unit at m ts ws = go (leb (get_or ws entries_used 0 + 1) (entries_granted g)) refl
  where
    go : (b : Bool) → leb (get_or ws entries_used 0 + 1) (entries_granted g) ≡ b
        → fill_from g p stride unit at (suc m) (raw ts ws) ≡ (add_one g unit at m p >>= λ _. fill_from g p stride unit (at + stride) m) (raw ts ws)
    go true e = rw e
    go false e = rw e

pub record Filling (g : List ℕ) (p stride unit place n : ℕ) (ws₀ ws : List ℕ) (at left : ℕ) : Type 0 where
  pub rest : (ts : List ℕ) → fill_from g p stride unit place n (raw ts ws₀) ≡ fill_from g p stride unit at left (raw ts ws)
  pub near : at ≤ place + 5 * get_or ws entries_used 0
  pub source : Sources g ws stride unit place
  pub long : length ws ≡ length ws₀

module _ (g : List ℕ) (p stride unit place n : ℕ) (ws₀ : List ℕ) where
  pub fill_first : Sources g ws₀ stride unit place → Filling g p stride unit place n ws₀ ws₀ place n
  fill_first s = record { rest = λ ts. refl; near = omega arith; source = s; long = refl }

  module _ (ws : List ℕ) (at left : ℕ) (a : Filling g p stride unit place n ws₀ ws at left) where
    pub filled : left ≡ 0 → Does ws₀ (fill_from g p stride unit place n) (Ok tt) ws
    unfolding fill_from
    filled z = carried {act' = give tt} {ws' = ws} (λ ts. rw z at (a.rest ts)) (given tt)

  module _ (ws : List ℕ) (at left : ℕ) (a : Filling g p stride unit place n ws₀ ws at left) (h : 0 < left) where
    turn_is : (ts : List ℕ) → fill_from g p stride unit place n (raw ts ws₀) ≡ (add_one g unit at (left - 1) p >>= λ _. fill_from g p stride unit (at + stride) (left - 1)) (raw ts ws)
    turn_is ts =
        let z : left ≡ suc (left - 1) = omega arith in
        a.rest ts ∙ ap (λ m. fill_from g p stride unit at m (raw ts ws)) z ∙ fill_one g p stride unit at (left - 1) ts ws

    pub fill_short : {s : Result (Unit {0}) Fault} {e : Fault} (ws₁ : List ℕ) → Does ws (add_one g unit at (left - 1) p) (Err e) ws₁ → IsErrAnd s (λ y. y ≡ e) → Does ws₀ (fill_from g p stride unit place n) s ws₁
    fill_short ws₁ d i = carried turn_is (stops _ d i)

    module _ (ws₁ : List ℕ) (d : Adds g p ws unit at (left - 1) (Ok tt) ws₁) where
      pub place_fits : at + stride < 2 ^ 64
      place_fits = omega (arith, a.near, a.source.near, a.source.small, (d.used refl).1)

      pub fill_next : length ws₁ ≡ length ws → Filling g p stride unit place n ws₀ ws₁ (at + stride) (left - 1)
      fill_next l =
          let near = a.near in
          let by = a.source.near in
          let used = (d.used refl).0 in
          record {
            rest = λ ts. turn_is ts ∙ onward (λ _. fill_from g p stride unit (at + stride) (left - 1)) ts d.does;
            near = omega arith;
            source = record { units = record { room = room_same a.source.units.room l; some = a.source.units.some }; near = by; small = a.source.small };
            long = l ∙ a.long;
          }

-- ---- a group
pub lays_group : (ws : List ℕ) (at first n w : ℕ) → w ≡ slot_word first n → set (set (set ws at 8) (at + 1) w) (at + 2) 0 ≡ group_laid ws at first n
lays_group ws at first n w e = rw e

pub puts_group : {ws ws' : List ℕ} (i first n : ℕ) {at : ℕ} → at ≡ shape_place i → ws' ≡ group_laid ws at first n → Gives ws (put_group (shape_place i) first n) tt ws'
unfolding put_group
puts_group i first n e h = record { equal = λ ts. rw (h, e) }

pub group_sources : (g ws ws₂ : List ℕ) (stride unit place : ℕ) → Sources g ws stride unit place → length ws₂ ≡ length ws → Sources g ws₂ stride unit place
group_sources g ws ws₂ stride unit place s l = record { units = record { room = room_same s.units.room l; some = s.units.some }; near = s.near; small = s.small }

pub copy_sources : (g ws : List ℕ) (i first at : ℕ) → Room g ws → first ≡ first_at ws i → at ≡ component_place g first → Sources g ws 1 1 at
copy_sources g ws i first at r e f = record { units = record { room = r; some = omega arith }; near = omega arith; small = omega (arith, e, f, r.shapes, r.entries) }
