-- Marks, and the searches that use them: what each way through the code does.
use Rattle.std.proofs.Common.{◌≡◌, ℕ, suc, ◌+◌, ◌-◌, ◌%◌, ◌^◌, ◌<◌, ◌≤◌, Bool, true, false, not, ◌||◌, eqb, ltb, leb, List, length, get_or, set, sym, refl, ap, ◌∙◌, arith, ltb-true, le-ltb, lt-ltb, ne_eqb}
use Rattle.meaning.specs.Basics.{if◌then◌otherwise◌}
use Rattle.machine.specs.Layout.{loop_unit, shapes_granted, shape_place, Room}
use Rattle.machine.specs.Act.{Gives, raw, Out, done, stop, Act, go_on, ◌>>=◌, ◌>>◌, give, store, held}
use Rattle.machine.specs.Groups.{component_at, followers_at, first_at, count_at}
use Rattle.machine.specs.Loops.{hollow, mark_place, marked_at, mark, unmark, unmark_from, marked_from, look_under, look_in, look_behind}
use Rattle.stores.proofs.Turns.{Turns, turns_next, turns_last, from_none}
use Rattle.stores.proofs.Acts.{after_gift}
use Rattle.std.proofs.Common.{Continue, Break}
use Rattle.walks.specs.declared.Walk.{Walk}
use Rattle.walks.specs.Walks.{Walks, owed, Under}
use Rattle.loops.specs.Looking.{look_level, give_up, look_above, look_rest, look_by, look_after, clear_mark, within, looks_within, left_to_look, Looked, Starts}
use Rattle.walks.proofs.TurnLaws.{walk_at, room_same}
use Rattle.loops.proofs.LookLaws.{level_any, look_over}

-- ---- marks
pub marked_is : (g ws : List ℕ) (k at w : ℕ) → at ≡ mark_place g ws k → w ≡ get_or ws at 0 → leb (get_or ws loop_unit 0) w ≡ marked_at g ws k
marked_is g ws k at w e f = rw (f, e)

module _ (g ws : List ℕ) (k at v w : ℕ) (e : at ≡ mark_place g ws k) (f : v ≡ get_or ws at 0) (ws' : List ℕ) (s : ws' ≡ set ws at w) where
  pub marks : w ≡ (v + get_or ws loop_unit 0) % 2 ^ 64 → Gives ws (mark g k) tt ws'
  unfolding mark ◌>>=◌ go_on held store
  marks h = record { equal = λ ts. rw (s, h, f, e) }

  pub unmarks : w ≡ v - get_or ws loop_unit 0 → Gives ws (unmark g k) tt ws'
  unfolding unmark ◌>>=◌ go_on held store
  unmarks h = record { equal = λ ts. rw (s, h, f, e) }

pub gives_up : (g ws : List ℕ) (k c : ℕ) (ws₁ : List ℕ) (at : ℕ) (ws₂ : List ℕ) → c ≡ component_at g ws k → Gives ws (unmark g k) tt ws₁ → at ≡ shape_place c → ws₂ ≡ set ws₁ (at + 2) 1
    → Gives ws (give_up g k) tt ws₂
unfolding give_up hollow ◌>>=◌ go_on held store
gives_up g ws k c ws₁ at ws₂ e h f s = record { equal = λ ts. sym (after_gift (λ _. hollow (component_at g ws k)) ts h ∙ rw (s, f, e)) }

module _ (g ws : List ℕ) (k : ℕ) (b : Bool) (e : b ≡ marked_at g ws k) where
  pub no_mark : b ≡ false → Gives ws (clear_mark g k) tt ws
  unfolding clear_mark ◌>>=◌ go_on held give if◌then◌otherwise◌
  no_mark t = record { equal = λ ts. rw (← e, t) }

  pub mark_cleared : (ws' : List ℕ) → b ≡ true → Gives ws (unmark g k) tt ws' → Gives ws (clear_mark g k) tt ws'
  unfolding clear_mark ◌>>=◌ go_on held if◌then◌otherwise◌
  mark_cleared ws' t h = record { equal = λ ts. h.equal ts ∙ rw (← e, t) }

module _ (g ws₀ : List ℕ) (n : ℕ) (ws : List ℕ) (k : ℕ) (a : Turns (unmark_from g) 0 n ws₀ ws k) where
  pub unmark_more : (ws' : List ℕ) → k < n → Gives ws (clear_mark g k) tt ws' → length ws' ≡ length ws → Turns (unmark_from g) 0 n ws₀ ws' (k + 1)
  unfolding unmark_from clear_mark ◌>>=◌ go_on held
  unmark_more ws' h d l = turns_next (unmark_from g) 0 n ws₀ ws k a ws' h (λ m ts. after_gift (λ _. unmark_from g (k + 1) m) ts d) l

  pub all_unmarked : n ≤ k → Gives ws₀ (unmark_from g 0 n) tt ws
  unfolding unmark_from give
  all_unmarked h = rw (from_none n) at (turns_last (unmark_from g) 0 n ws₀ ws k a h (λ ts. refl))

  pub still_room : Room g ws₀ → Room g ws
  still_room r = room_same r a.long

-- ---- the next marked slot
pub record Seeks (g ws : List ℕ) (from end k : ℕ) : Type 0 where
  pub rest : marked_from g ws from (end - from) ≡ marked_from g ws k (end - k)

pub seek_first : (g ws : List ℕ) (from end : ℕ) → Seeks g ws from end from
seek_first g ws from end = record { rest = refl }

module _ (g ws : List ℕ) (from end k : ℕ) (a : Seeks g ws from end k) where
  pub seek_last : end ≤ k → 0 ≡ marked_from g ws from (end - from)
  unfolding marked_from
  seek_last h = let z : end - k ≡ 0 = omega arith in sym (rw z at a.rest)

  module _ (h : k < end) (b : Bool) (e : b ≡ marked_at g ws k) where
    pub seek_found : b ≡ true → k + 1 ≡ marked_from g ws from (end - from)
    unfolding marked_from if◌then◌otherwise◌
    seek_found t = let z : end - k ≡ suc (end - (k + 1)) = omega arith in sym (a.rest ∙ rw (z, ← e, t))

    pub seek_next : b ≡ false → Seeks g ws from end (k + 1)
    unfolding marked_from if◌then◌otherwise◌
    seek_next t = let z : end - k ≡ suc (end - (k + 1)) = omega arith in record { rest = a.rest ∙ rw (z, ← e, t) }

pub none_behind : (g ws : List ℕ) (k end : ℕ) → end ≤ k → 0 ≡ marked_from g ws (k + 1) (end - k - 1)
unfolding marked_from
none_behind g ws k end h = let z : end - k - 1 ≡ 0 = omega arith in rw z

pub one_behind : (g ws : List ℕ) (k end r : ℕ) → k < end → r ≡ marked_from g ws (k + 1) (end - (k + 1)) → r ≡ marked_from g ws (k + 1) (end - k - 1)
one_behind g ws k end r h e = let z : end - k - 1 ≡ end - (k + 1) = omega arith in rw z e

-- ---- the parts of a search
module _ (g : List ℕ) (d n : ℕ) where
  pub is_within : d < shapes_granted g → n ≡ within g d n
  unfolding within if◌then◌otherwise◌
  is_within h = rw (lt-ltb d (shapes_granted g) h)

  pub is_beyond : shapes_granted g ≤ d → 0 ≡ within g d n
  unfolding within if◌then◌otherwise◌
  is_beyond h = rw (le-ltb d (shapes_granted g) h)

-- ---- a search's loop
pub record Looks (g : List ℕ) (first count : ℕ) (ws₀ ws : List ℕ) (w : Walk) : Type 0 where
  pub rest : (ts : List ℕ) → look_rest g w.depth w.slot w.left (raw ts ws) ≡ look_under (shapes_granted g) g 0 first count (raw ts ws₀)
  pub walks : Walks g ws w
  pub long : length ws ≡ length ws₀

then_given : (o : Out ℕ) → go_on o (λ a. give a) ≡ o
unfolding go_on give
then_given (done a r) = refl
then_given (stop n p r) = refl

within_small : (g : List ℕ) (n : ℕ) → within g 0 n ≤ n
unfolding within if◌then◌otherwise◌
within_small g n = go (ltb 0 (shapes_granted g))
  where
    go : (b : Bool) → (if b then (λ _. n) otherwise λ _. 0) ≤ n
    go true = omega arith
    go false = omega arith

within_deep : (g : List ℕ) (n : ℕ) → 0 < within g 0 n → 0 < shapes_granted g
unfolding within if◌then◌otherwise◌
within_deep g n h = go (ltb 0 (shapes_granted g)) refl h
  where
    go : (b : Bool) → ltb 0 (shapes_granted g) ≡ b → 0 < (if b then (λ _. n) otherwise λ _. 0) → 0 < shapes_granted g
    go true e l = ltb-true 0 (shapes_granted g) e
    go false e l = absurd (omega arith)

module _ (g : List ℕ) (first count : ℕ) (ws₀ : List ℕ) where
  pub looks_first : (n : ℕ) → Starts g ws₀ first count → n ≡ within g 0 count → Looks g first count ws₀ ws₀ (walk_at 0 first n)
  unfolding look_rest look_above ◌>>=◌
  looks_first n s e =
      let z : shapes_granted g - 0 ≡ shapes_granted g = omega arith in
      let w = within_small g count in
      record {
        rest = λ ts. rw e (then_given (look_level g 0 first (within g 0 count) (raw ts ws₀)) ∙ (rw z at (level_any g 0 first count (raw ts ws₀))));
        walks = record {
          room = s.room;
          deep = omega arith;
          within = λ h. within_deep g count (rw (← e) h);
          small = omega (arith, s.small, e, w);
          few = omega (arith, s.few, e, w);
          ways = λ e h. absurd (omega arith);
        };
        long = refl;
      }

  module _ (ws : List ℕ) (w : Walk) (a : Looks g first count ws₀ ws w) where
    pub looks_under : 0 < w.depth + w.left → Under g ws w
    looks_under h = record { walks = a.walks; more = λ e. omega arith }

    pub looks_last : w.depth + w.left ≤ 0 → Gives ws₀ (look_under (shapes_granted g) g 0 first count) 0 ws
    looks_last h =
        let x : w.depth ≡ 0 = omega arith in
        let y : w.left ≡ 0 = omega arith in
        record { equal = λ ts. sym (look_over g w.slot (raw ts ws)) ∙ (rw (x, y) at (a.rest ts)) }

    module _ (ws' : List ℕ) where
      pub looks_next : (t : Walk) → Looked g ws w (Continue t) ws' → length ws' ≡ length ws → Looks g first count ws₀ ws' t
      unfolding look_by looks_within
      looks_next t r l = record { rest = λ ts. r.equal ts ∙ a.rest ts; walks = r.walks; long = l ∙ a.long }

      pub looks_less : (t : Walk) → Looked g ws w (Continue t) ws' → owed (shapes_granted g) ws' t.depth t.left < owed (shapes_granted g) ws w.depth w.left
      unfolding left_to_look
      looks_less t r = r.less

      pub looks_found : (m : ℕ) → Looked g ws w (Break m) ws' → Gives ws₀ (look_under (shapes_granted g) g 0 first count) m ws'
      unfolding look_by
      looks_found m r = record { equal = λ ts. r.equal ts ∙ a.rest ts }

-- ---- where a search begins
module _ (g ws : List ℕ) where
  pub in_starts : (i first count : ℕ) → Room g ws → first ≡ first_at ws i → count ≡ count_at ws i → Starts g ws first count
  in_starts i first count r e f = record { room = r; small = omega (arith, e, f); few = omega (arith, f) }

  pub looked_in : (i first count r : ℕ) (ws' : List ℕ) → first ≡ first_at ws i → count ≡ count_at ws i → Gives ws (look_under (shapes_granted g) g 0 first count) r ws' → Gives ws (look_in g i) r ws'
  unfolding look_in ◌>>=◌ go_on held
  looked_in i first count r ws' e f h = record { equal = λ ts. h.equal ts ∙ rw (e, f) }

  pub behind_starts : (k n : ℕ) → Room g ws → n ≡ followers_at g ws k → Starts g ws ((k + 1) % 65536) n
  behind_starts k n r e = record { room = r; small = omega (arith, e); few = omega (arith, e) }

  pub looked_after : (k n r : ℕ) (ws' : List ℕ) → n ≡ followers_at g ws k → Gives ws (look_under (shapes_granted g) g 0 ((k + 1) % 65536) n) r ws' → Gives ws (look_after g k) r ws'
  unfolding look_after ◌>>=◌ go_on held
  looked_after k n r ws' e h = record { equal = λ ts. h.equal ts ∙ rw e }

-- ---- further up
unfoldable goes_on : List ℕ → ℕ → ℕ → ℕ → ℕ → List ℕ → Act ℕ
goes_on g end at found turns ws =
    let up = marked_from g ws (at + 1) (end - at - 1) in
    if not (eqb found 0) || eqb up 0 then (λ _. give found) otherwise λ _. unmark g (up - 1) >> look_behind turns g end (up - 1)

goes_once : (g : List ℕ) (end at found turns : ℕ) (ws ws₁ : List ℕ) → Gives ws (look_after g at) found ws₁ → (ts : List ℕ)
    → look_behind (suc turns) g end at (raw ts ws) ≡ goes_on g end at found turns ws₁ (raw ts ws₁)
unfolding look_behind look_after goes_on ◌>>=◌ go_on held
goes_once g end at found turns ws ws₁ d ts = rw (← d.equal ts)

pub record Climbs (g : List ℕ) (end k : ℕ) (ws₀ ws : List ℕ) (at turns : ℕ) : Type 0 where
  pub rest : (ts : List ℕ) → look_behind end g end k (raw ts ws₀) ≡ look_behind turns g end at (raw ts ws)
  pub long : length ws ≡ length ws₀

module _ (g : List ℕ) (end k : ℕ) (ws₀ : List ℕ) where
  pub climb_first : (turns : ℕ) → turns ≡ end → Climbs g end k ws₀ ws₀ k turns
  climb_first turns e = rw e record { rest = λ ts. refl; long = refl }

  module _ (ws : List ℕ) (at turns : ℕ) (a : Climbs g end k ws₀ ws at turns) where
    pub climb_room : Room g ws₀ → Room g ws
    climb_room r = room_same r a.long

    pub climb_last : turns ≤ 0 → Gives ws₀ (look_behind end g end k) 0 ws
    unfolding look_behind give
    climb_last h = let z : turns ≡ 0 = omega arith in record { equal = λ ts. sym (rw z at (a.rest ts)) }

    module _ (h : 0 < turns) (found : ℕ) (ws₁ : List ℕ) (d : Gives ws (look_after g at) found ws₁) where
      turn_by : (ts : List ℕ) → look_behind end g end k (raw ts ws₀) ≡ goes_on g end at found (turns - 1) ws₁ (raw ts ws₁)
      turn_by ts = let z : turns ≡ suc (turns - 1) = omega arith in a.rest ts ∙ ap (λ t. look_behind t g end at (raw ts ws)) z ∙ goes_once g end at found (turns - 1) ws ws₁ d ts

      pub behind_found : (found ≡ 0 → ⊥) → Gives ws₀ (look_behind end g end k) found ws₁
      unfolding goes_on give if◌then◌otherwise◌
      behind_found z = record { equal = λ ts. sym (turn_by ts ∙ rw (ne_eqb found 0 z)) }

      module _ (z : found ≡ 0) where
        pub behind_none : 0 ≡ marked_from g ws₁ (at + 1) (end - at - 1) → Gives ws₀ (look_behind end g end k) 0 ws₁
        unfolding goes_on give if◌then◌otherwise◌
        behind_none u = record { equal = λ ts. sym (turn_by ts ∙ rw (z, ← u)) }

        pub behind_next : (up : ℕ) → up + 1 ≡ marked_from g ws₁ (at + 1) (end - at - 1) → (ws₂ : List ℕ) → Gives ws₁ (unmark g up) tt ws₂ → length ws₁ ≡ length ws → length ws₂ ≡ length ws₁
            → (fewer : ℕ) → turns - 1 ≡ fewer → Climbs g end k ws₀ ws₂ up fewer
        unfolding goes_on ◌>>=◌ go_on if◌then◌otherwise◌
        behind_next up u ws₂ m l₁ l₂ fewer f =
            let same : up + 1 - 1 ≡ up = omega arith in
            rw (← f) record {
              rest = λ ts. turn_by ts ∙ rw (z, ← u, ne_eqb (up + 1) 0 (λ x. omega arith), same) (after_gift (λ _. look_behind (turns - 1) g end up) ts m);
              long = l₂ ∙ l₁ ∙ a.long;
            }
