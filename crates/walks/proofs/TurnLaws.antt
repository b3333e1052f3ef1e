-- What each way through a turn of a walk does.
use Prim.Native.Nat.{ℕ, zero, suc, ◌+◌, ◌-◌, ◌^◌, ◌≤◌, ◌<◌}
use mathlib.Core.Path.{◌≡◌, refl, ap, sym, ◌∙◌}
use mathlib.Core.Bool.{Bool, true, false}
use mathlib.Core.List.{List, []}
use native.Mathlib.Omega.{arith}
use lib.ListN.{get_or, set, length, length-set}
use lib.Seq.{get_or-set_same, get_or-set_other}
use lib.Dec.{eqb, ltb}
use borrow.Author.Tests.{lt-ltb, le-ltb, ltb-true, eqb-true, eqb-false}
use Rattle.meaning.specs.Basics.{if◌then◌otherwise◌}
use Rattle.machine.specs.Layout.{waiting_held, shapes_granted, Room}
use Rattle.machine.specs.Act.{raw, Out, done, stop, go_on, ◌>>=◌, give, out_of, Does}
use Rattle.machine.specs.declared.Fault.{Fault}
use Rattle.machine.specs.Fault.{number_of, place_of}
use Rattle.machine.proofs.Acts.{passed_on, last}
use Rattle.std.specs.Prelude.{Result, Ok, Err}
use Rattle.std.specs.Result.{IsErrAnd}
use Rattle.machine.specs.Shapes.{is_group_at, destroyed_at}
use Rattle.machine.specs.Groups.{component_at, first_at, count_at, way_word, way_place, each_from, walk_in}
use Rattle.walks.specs.declared.Walk.{Walk}
use Rattle.walks.specs.Walks.{Doing, walking, slot_in, left_in, level_from, above_of, rest_of, rest_by}
use Rattle.walks.specs.Walks.{Walks, count_within, owed, owed_by, WalksBy, Turned, Under, past, back_at, way_laid, down_in, Descends, Descended}
use Rattle.walks.proofs.WalkLaws.{Steady, kept_way, slot_back, left_back, climbs, climb_stops, passes_over, reach_stops, figure_reached, group_reached}
use Rattle.walks.proofs.WalkLaws.{level_walk, advance_less, climb_less, descend_less, owed_some}

abbrev pub walk_at : ℕ → ℕ → ℕ → Walk
walk_at d k n = record { depth = d; slot = k; left = n }

-- ---- ranges
pub room_same : {g ws ws' : List ℕ} → Room g ws → length ws' ≡ length ws → Room g ws'
room_same r l = record { steps = r.steps; shapes = r.shapes; entries = r.entries; text = r.text; calls = r.calls; words = rw l r.words }

pub count_small : (g ws : List ℕ) (d i : ℕ) → count_within g ws d i < 2 ^ 16
unfolding count_within if◌then◌otherwise◌
count_small g ws d i = go (ltb d (shapes_granted g))
  where
    go : (b : Bool) → (if b then (λ _. count_at ws i) otherwise λ _. 0) < 2 ^ 16
    go true = omega arith
    go false = omega arith

pub count_deep : (g ws : List ℕ) (d i : ℕ) → 0 < count_within g ws d i → d < shapes_granted g
unfolding count_within if◌then◌otherwise◌
count_deep g ws d i h = go (ltb d (shapes_granted g)) refl h
  where
    go : (b : Bool) → ltb d (shapes_granted g) ≡ b → 0 < (if b then (λ _. count_at ws i) otherwise λ _. 0) → d < shapes_granted g
    go true e l = ltb-true d (shapes_granted g) e
    go false e l = absurd (omega arith)

pub walks_first : (g ws : List ℕ) (i k n : ℕ) → Room g ws → k ≡ first_at ws i → n ≡ count_within g ws 0 i → Walks g ws (walk_at 0 k n)
walks_first g ws i k n r e f =
    let a = count_small g ws 0 i in
    record { room = r; deep = omega arith; within = λ h. count_deep g ws 0 i (rw (← f) h); small = omega (arith, e, f, a); few = omega (arith, f, a); ways = λ e h. absurd (omega arith) }

pub less_one_lem : (n : ℕ) → suc n - 1 ≡ n
less_one_lem n = omega arith

-- ---- ways kept
module _ (g : List ℕ) (reach leave : Doing) (s : Steady g reach leave) (p : ℕ) {ws ws' : List ℕ} where
  pub reach_kept : (c : ℕ) → Does ws (reach p c) (Ok tt) ws' → (e : ℕ) → e < shapes_granted g → get_or ws' (way_place e) 0 ≡ get_or ws (way_place e) 0
  unfolding out_of
  reach_kept c h e l = kept_way e (raw [] ws) (reach p c (raw [] ws)) (raw [] ws') (s.reached p c e (raw [] ws) l) (sym (h.equal []))

  pub leave_kept : (d : ℕ) → Does ws (leave p d) (Ok tt) ws' → (e : ℕ) → e < shapes_granted g → get_or ws' (way_place e) 0 ≡ get_or ws (way_place e) 0
  unfolding out_of
  leave_kept d h e l = kept_way e (raw [] ws) (leave p d (raw [] ws)) (raw [] ws') (s.left p d e (raw [] ws) l) (sym (h.equal []))

-- what remains in its range where the ways above are kept
pub walks_same : (g ws ws' : List ℕ) (d d' k k' n n' : ℕ) → Walks g ws (walk_at d k n) → length ws' ≡ length ws → ((e : ℕ) → e < shapes_granted g → get_or ws' (way_place e) 0 ≡ get_or ws (way_place e) 0)
    → d' ≤ d → (0 < n' → d' < shapes_granted g) → k' + n' < 2 ^ 17 → n' < 2 ^ 16 → Walks g ws' (walk_at d' k' n')
walks_same g ws ws' d d' k k' n n' w l kept below within small few = record {
  room = room_same w.room l;
  deep = omega (arith, w.deep);
  within = within;
  small = small;
  few = few;
  ways = λ e h. rw (kept e (omega (arith, w.deep))) (w.ways e (omega arith));
}

-- a depth, or one above it
pub way_at : {A : Type 0} (d e : ℕ) → e < suc d → (e ≡ d → A) → (e < d → A) → A
way_at {A} d e h here above = go (eqb e d) refl
  where
    go : (b : Bool) → eqb e d ≡ b → A
    go true q = here (eqb-true e d q)
    go false q = let n = eqb-false e d q in above (omega (arith, n))

module _ (reach leave : Doing) (g : List ℕ) (p : ℕ) (ws : List ℕ) where
  -- ---- an act that fails
  stopping : (w : Walk) (s : Result Walk Fault) (e : Fault) (ws' : List ℕ) → IsErrAnd s (λ y. y ≡ e)
      → ((ts : List ℕ) → stop (number_of e) (place_of e) (raw ts ws') ≡ rest_of reach leave g p w.depth w.slot w.left (raw ts ws)) → Turned reach leave g p ws w s ws'
  unfolding rest_by WalksBy owed_by
  stopping w s e ws' i h = rw (passed_on s i) record { equal = h; walks = tt; less = owed_some (shapes_granted g) ws w.depth w.left }

  -- ---- up
  module _ (k n : ℕ) (z : n ≡ 0) (ws' : List ℕ) where
    climbing : (d : ℕ) → Walks g ws (walk_at (suc d) k n) → Steady g reach leave → Does ws (leave p d) (Ok tt) ws' → length ws' ≡ length ws
        → Turned reach leave g p ws (walk_at (suc d) k n) (Ok (back_at ws' d)) ws'
    unfolding rest_by back_at WalksBy owed_by out_of
    climbing d w s h l =
        let deep = w.deep in
        let kept = leave_kept g reach leave s p d h in
        let same : get_or ws' (way_place d) 0 ≡ get_or ws (way_place d) 0 = kept d (omega arith) in
        let b : slot_in (get_or ws' (way_place d) 0) + left_in (get_or ws' (way_place d) 0) + 1 < 2 ^ 17 = rw same (w.ways d (omega arith)) in
        record {
          equal = λ ts. rw z (sym (climbs reach leave g p d k (raw ts ws) (raw ts ws') (sym (h.equal ts))));
          walks = walks_same g ws ws' (suc d) d k _ n _ w l kept (omega arith) (λ q. omega arith) (omega arith) (omega arith);
          less = rw z (climb_less (shapes_granted g) ws ws' d (λ e q. kept e (omega arith)));
        }

    climbs_from : (d : ℕ) → Under g ws (walk_at d k n) → Steady g reach leave → Does ws (leave p (d - 1)) (Ok tt) ws' → length ws' ≡ length ws
        → (t : Walk) → t ≡ back_at ws' (d - 1) → Turned reach leave g p ws (walk_at d k n) (Ok t) ws'
    climbs_from zero u s h l t e = absurd (u.more (omega arith))
    climbs_from (suc d) u s h l t e = rw (e, less_one_lem d) (climbing d u.walks s (rw (less_one_lem d) at h) l)

    climb_stops_from : (d : ℕ) {s : Result Walk Fault} {e : Fault} → Under g ws (walk_at d k n) → Does ws (leave p (d - 1)) (Err e) ws' → IsErrAnd s (λ y. y ≡ e) → Turned reach leave g p ws (walk_at d k n) s ws'
    unfolding out_of
    climb_stops_from zero u h i = absurd (u.more (omega arith))
    climb_stops_from (suc d) {s} {e} u h i =
        stopping (walk_at (suc d) k n) s e ws' i
        (λ ts. rw z (sym (climb_stops reach leave g p d k (number_of e) (place_of e) (raw ts ws) (raw ts ws') (sym (rw (less_one_lem d) at (h.equal ts))))))

  module _ (d k : ℕ) where
    -- ---- on
    over_from : (n c : ℕ) (b : Bool) → Under g ws (walk_at d k n) → (n ≡ 0 → ⊥) → c ≡ component_at g ws k → b ≡ destroyed_at ws c → b ≡ true
        → Turned reach leave g p ws (walk_at d k n) (Ok (walk_at d (k + 1) (n - 1))) ws
    unfolding rest_by WalksBy owed_by
    over_from zero c b u z e f t = absurd (z refl)
    over_from (suc n) c b u z e f t = rw (less_one_lem n) record {
      equal = λ ts. sym (passes_over reach leave g p d k n (raw ts ws) (rw (← e) (sym f ∙ t)));
      walks = walks_same g ws ws d d k (k + 1) (suc n) n u.walks refl (λ e h. refl) (omega arith) (λ h. u.walks.within (omega arith))
          (omega (arith, u.walks.small)) (omega (arith, u.walks.few));
      less = advance_less (shapes_granted g) ws ws d n (λ e h. refl);
    }

    module _ (c : ℕ) (e : c ≡ component_at g ws k) (b : Bool) (f : b ≡ destroyed_at ws c) (t : b ≡ false) (ws' : List ℕ) where
      stops_from : (n : ℕ) {s : Result Walk Fault} {y : Fault} → (n ≡ 0 → ⊥) → Does ws (reach p c) (Err y) ws' → IsErrAnd s (λ x. x ≡ y) → Turned reach leave g p ws (walk_at d k n) s ws'
      unfolding out_of
      stops_from zero z h i = absurd (z refl)
      stops_from (suc n) {s} {y} z h i =
          stopping (walk_at d k (suc n)) s y ws' i
          (λ ts. sym (reach_stops reach leave g p d k n (raw ts ws) c e (sym f ∙ t) (number_of y) (place_of y) (raw ts ws') (sym (h.equal ts))))

      module _ (s : Steady g reach leave) (h : Does ws (reach p c) (Ok tt) ws') (l : length ws' ≡ length ws) (a : Bool) (q : a ≡ is_group_at ws' c) where
        figure_from : (n : ℕ) → Under g ws (walk_at d k n) → (n ≡ 0 → ⊥) → a ≡ false → Turned reach leave g p ws (walk_at d k n) (Ok (walk_at d (k + 1) (n - 1))) ws'
        unfolding rest_by WalksBy owed_by out_of
        figure_from zero u z v = absurd (z refl)
        figure_from (suc n) u z v =
            let kept = reach_kept g reach leave s p c h in
            rw (less_one_lem n) record {
              equal = λ ts. sym (figure_reached reach leave g p d k n (raw ts ws) c e (sym f ∙ t) (raw ts ws') (sym (h.equal ts)) (sym q ∙ v));
              walks = walks_same g ws ws' d d k (k + 1) (suc n) n u.walks l kept (omega arith) (λ h. u.walks.within (omega arith)) (omega (arith, u.walks.small)) (omega (arith, u.walks.few));
              less = advance_less (shapes_granted g) ws ws' d n (λ e y. kept e (omega (arith, u.walks.deep)));
            }

        -- ---- down
        going_down : (n : ℕ) → Walks g ws (walk_at d k (suc n)) → a ≡ true → Turned reach leave g p ws (walk_at d k (suc n)) (Ok (down_in g (way_laid ws' d k n) d c)) (way_laid ws' d k n)
        unfolding rest_by WalksBy owed_by down_in way_laid out_of
        going_down n w v =
            let deep : d < shapes_granted g = w.within (omega arith) in
            let kept = reach_kept g reach leave s p c h in
            let one : d + 1 ≡ suc d = omega arith in
            let long : way_place d < length ws' = rw l (omega (arith, w.room.words)) in
            let m = get_or ws' waiting_held 0 in
            let ws'' = set ws' (way_place d) (way_word k n m) in
            let here : get_or ws'' (way_place d) 0 ≡ way_word k n m = get_or-set_same ws' (way_place d) (way_word k n m) 0 long in
            let there : (e : ℕ) → e < d → get_or ws'' (way_place e) 0 ≡ get_or ws (way_place e) 0 =
            λ e y. get_or-set_other ws' (way_place d) (way_place e) (way_word k n m) 0 (λ x. omega arith) ∙ kept e (omega arith) in
            let left : left_in (get_or ws'' (way_place d) 0) ≡ n = ap left_in here ∙ left_back k n m (omega (arith, w.few)) in
            let slot : slot_in (get_or ws'' (way_place d) 0) ≡ k = ap slot_in here ∙ slot_back k n m (omega (arith, w.small)) in
            rw one record {
              equal = λ ts. sym (group_reached reach leave g p d k n (raw ts ws) c e (sym f ∙ t) (raw ts ws') (sym (h.equal ts)) (sym q ∙ v) s deep (omega (arith, w.small)) (omega (arith, w.few)) long);
              walks = record {
                room = room_same w.room (length-set ws' (way_place d) (way_word k n m) ∙ l);
                deep = deep;
                within = count_deep g ws'' (suc d) c;
                small = omega (arith, count_small g ws'' (suc d) c);
                few = count_small g ws'' (suc d) c;
                ways = λ e y. way_at d e y (λ x. rw x (omega (arith, slot, left, w.small))) (λ x. rw (there e x) (w.ways e x));
              };
              less = descend_less (shapes_granted g) ws ws'' d n (count_within g ws'' (suc d) c) deep (count_small g ws'' (suc d) c) left there;
            }

        group_from : (n : ℕ) → Under g ws (walk_at d k n) → (n ≡ 0 → ⊥) → a ≡ true → (ws'' : List ℕ) (down : Walk) → Descended g ws' d k (n - 1) c down ws''
            → Turned reach leave g p ws (walk_at d k n) (Ok down) ws''
        group_from zero u z v ws'' down r = absurd (z refl)
        group_from (suc n) u z v ws'' down r = rw (r.place, r.words, less_one_lem n) (going_down n u.walks v)

-- ---- each way through a turn
module _ (reach leave : Doing) (g : List ℕ) (p : ℕ) (ws : List ℕ) (w : Walk) (u : Under g ws w) where
  module _ {ws' : List ℕ} (z : w.left ≡ 0) where
    pub turn_climbs : Steady g reach leave → Does ws (leave p (w.depth - 1)) (Ok tt) ws' → length ws' ≡ length ws → (t : Walk) → t ≡ back_at ws' (w.depth - 1) → Turned reach leave g p ws w (Ok t) ws'
    turn_climbs s h l t e = climbs_from reach leave g p ws w.slot w.left z ws' w.depth u s h l t e

    pub turn_climb_stops : {s : Result Walk Fault} {e : Fault} → Does ws (leave p (w.depth - 1)) (Err e) ws' → IsErrAnd s (λ y. y ≡ e) → Turned reach leave g p ws w s ws'
    turn_climb_stops h i = climb_stops_from reach leave g p ws w.slot w.left z ws' w.depth u h i

  module _ (z : w.left ≡ 0 → ⊥) (c : ℕ) (e : c ≡ component_at g ws w.slot) (b : Bool) (f : b ≡ destroyed_at ws c) where
    pub turn_over : b ≡ true → (t : Walk) → t ≡ past w → Turned reach leave g p ws w (Ok t) ws
    turn_over t r q = rw q (over_from reach leave g p ws w.depth w.slot w.left c b u z e f t)

    module _ (t : b ≡ false) {ws' : List ℕ} where
      pub turn_stops : {s : Result Walk Fault} {y : Fault} → Does ws (reach p c) (Err y) ws' → IsErrAnd s (λ x. x ≡ y) → Turned reach leave g p ws w s ws'
      turn_stops h i = stops_from reach leave g p ws w.depth w.slot c e b f t ws' w.left z h i

      module _ (s : Steady g reach leave) (h : Does ws (reach p c) (Ok tt) ws') (l : length ws' ≡ length ws) (a : Bool) (q : a ≡ is_group_at ws' c) where
        pub turn_figure : a ≡ false → (t : Walk) → t ≡ past w → Turned reach leave g p ws w (Ok t) ws'
        turn_figure v r x = rw x (figure_from reach leave g p ws w.depth w.slot c e b f t ws' s h l a q w.left u z v)

        pub turn_group : a ≡ true → {ws'' : List ℕ} {down : Walk} → Descended g ws' w.depth w.slot (w.left - 1) c down ws'' → Turned reach leave g p ws w (Ok down) ws''
        turn_group v {ws''} {down} r = group_from reach leave g p ws w.depth w.slot c e b f t ws' s h l a q w.left u z v ws'' down r

-- ---- a walk's loop
-- what is left comes to what was to be done at first
pub record Going (reach leave : Doing) (g : List ℕ) (p i : ℕ) (ws₀ ws : List ℕ) (w : Walk) : Type 0 where
  pub rest : (ts : List ℕ) → rest_of reach leave g p w.depth w.slot w.left (raw ts ws) ≡ walking reach leave g i p (raw ts ws₀)
  pub walks : Walks g ws w
  pub long : length ws ≡ length ws₀

then_nothing : (o : Out (Unit {0})) → go_on o (λ _. give tt) ≡ o
unfolding go_on give
then_nothing (done a r) = refl
then_nothing (stop n p r) = refl

module _ (reach leave : Doing) (g : List ℕ) (p i : ℕ) (ws₀ : List ℕ) where
  pub go_first : (k n : ℕ) → Room g ws₀ → k ≡ first_at ws₀ i → n ≡ count_within g ws₀ 0 i → Going reach leave g p i ws₀ ws₀ (walk_at 0 k n)
  unfolding rest_of above_of walking ◌>>=◌
  go_first k n r e f =
      let z : shapes_granted g - 0 ≡ shapes_granted g = omega arith in
      let whole : (ts : List ℕ) → level_from reach leave g p 0 k n (raw ts ws₀) ≡ walk_in (reach p) (leave p) (shapes_granted g) g 0 i (raw ts ws₀) =
      λ ts. rw (e, f) (rw z at (level_walk reach leave g p 0 i (raw ts ws₀))) in
      record {
        rest = λ ts. then_nothing (level_from reach leave g p 0 k n (raw ts ws₀)) ∙ whole ts;
        walks = walks_first g ws₀ i k n r e f;
        long = refl;
      }

  module _ (ws : List ℕ) (w : Walk) (a : Going reach leave g p i ws₀ ws w) where
    pub under : 0 < w.depth + w.left → Under g ws w
    under h = record { walks = a.walks; more = λ e. omega arith }

    pub go_over : w.depth + w.left ≤ 0 → Does ws₀ (walking reach leave g i p) (Ok tt) ws
    unfolding rest_of level_from above_of each_from ◌>>=◌ go_on give out_of
    go_over h =
        let x : w.depth ≡ 0 = omega arith in
        let y : w.left ≡ 0 = omega arith in
        record { equal = λ ts. (rw (x, y) at (a.rest ts)) }

    module _ (ws' : List ℕ) where
      pub go_next : (t : Walk) → Turned reach leave g p ws w (Ok t) ws' → length ws' ≡ length ws → Going reach leave g p i ws₀ ws' t
      unfolding rest_by WalksBy
      go_next t r l = record { rest = λ ts. r.equal ts ∙ a.rest ts; walks = r.walks; long = l ∙ a.long }

      pub go_less : (t : Walk) → Turned reach leave g p ws w (Ok t) ws' → owed (shapes_granted g) ws' t.depth t.left < owed (shapes_granted g) ws w.depth w.left
      unfolding owed_by
      go_less t r = r.less

      pub go_stops : {s : Result (Unit {0}) Fault} {e : Fault} → Turned reach leave g p ws w (Err e) ws' → IsErrAnd s (λ y. y ≡ e) → Does ws₀ (walking reach leave g i p) s ws'
      unfolding rest_by out_of
      go_stops {s} r x = last {s = s} record { equal = λ ts. r.equal ts ∙ a.rest ts } x

-- ---- places on the way
pub way_bound : (g ws : List ℕ) (w : Walk) → Under g ws w → w.left ≡ 0 → slot_in (get_or ws (way_place (w.depth - 1)) 0) + left_in (get_or ws (way_place (w.depth - 1)) 0) + 1 < 2 ^ 17
way_bound g ws w u z = u.walks.ways (w.depth - 1) (let m = u.more in omega (arith, m))

pub past_bound : (g ws : List ℕ) (w : Walk) → Under g ws w → (w.left ≡ 0 → ⊥) → (w.slot + 1 < 2 ^ 32) × (0 < w.left)
past_bound g ws w u z = (omega (arith, u.walks.small), omega (arith, z))

pub descends : (g ws ws' : List ℕ) (w : Walk) → Under g ws w → (w.left ≡ 0 → ⊥) → length ws' ≡ length ws → Descends g ws' w.depth
descends g ws ws' w u z l = record { room = room_same u.walks.room l; deep = u.walks.within (omega (arith, z)) }

-- ---- the parts of a walk
module _ (g ws : List ℕ) (d i : ℕ) where
  pub count_is : (n : ℕ) → d < shapes_granted g → n ≡ count_at ws i → n ≡ count_within g ws d i
  unfolding count_within if◌then◌otherwise◌
  count_is n h e = e ∙ rw (lt-ltb d (shapes_granted g) h)

  pub count_none : shapes_granted g ≤ d → 0 ≡ count_within g ws d i
  unfolding count_within if◌then◌otherwise◌
  count_none h = rw (le-ltb d (shapes_granted g) h)
