-- Looking for the next figure: the loop does what the search does, as with walks.
use Rattle.std.proofs.Common.{◌≡◌, ℕ, zero, suc, ◌+◌, ◌-◌, ◌^◌, ◌<◌, Bool, true, false, eqb, ltb, List, [], length, get_or, set, sym, refl, ap, ◌∙◌, arith, length-set, get_or-set_other, get_or-set_same, le-ltb, lt-ltb, ne_eqb}
use borrow.Author.Tests.{eqb-false}
use Rattle.meaning.specs.Basics.{if◌then◌otherwise◌}
use Rattle.machine.specs.Layout.{shapes_granted, shape_place}
use Rattle.machine.specs.Act.{Gives, Raw, raw, Out, done, stop, Act, go_on, ◌>>=◌, ◌>>◌, give, load, store, held}
use Rattle.machine.specs.Shapes.{is_group_at}
use Rattle.machine.specs.Groups.{component_at, first_at, count_at, way_word, way_place}
use Rattle.machine.specs.Loops.{hollow, mark_place, mark, unmark, look_from, look_under}
use Rattle.std.proofs.Common.{Continue, Break}
use Rattle.walks.specs.declared.Walk.{Walk}
use Rattle.walks.specs.Walks.{slot_in, left_in, Walks, count_within, Under, past, back_at, down_in, Entered}
use Rattle.walks.proofs.TurnLaws.{walk_at, room_same, count_small, count_deep, walks_same, way_at, less_one_lem}
use Rattle.loops.specs.Looking.{passed_over, inside_at, look_level, give_up, look_above, look_rest, look_by, within, looks_within, left_to_look, Looked}
use Rattle.walks.proofs.WalkLaws.{Keeps, keeps_from, keeps_then, keeps_either, kept_way, slot_back, left_back, advance_less, climb_less, descend_less, owed_some}

-- ---- the way is kept
module _ (g : List ℕ) (e : ℕ) (l : e < shapes_granted g) where
  keeps_mark : (k : ℕ) (r : Raw) → Keeps e r (mark g k r)
  unfolding Keeps mark ◌>>=◌ go_on held store
  keeps_mark k r = get_or-set_other r.words (mark_place g r.words k) (way_place e) _ 0 (λ q. omega arith)

  keeps_unmark : (k : ℕ) (r : Raw) → Keeps e r (unmark g k r)
  unfolding Keeps unmark ◌>>=◌ go_on held store
  keeps_unmark k r = get_or-set_other r.words (mark_place g r.words k) (way_place e) _ 0 (λ q. omega arith)

  keeps_hollow : (c : ℕ) (r : Raw) → Keeps e r (hollow c r)
  unfolding Keeps hollow store
  keeps_hollow c r = get_or-set_other r.words (shape_place c + 2) (way_place e) _ 0 (λ q. omega arith)

  found_keeps : (inside : ℕ → Act ℕ) (d k n : ℕ) → ((r : Raw) → Keeps e r (look_from inside g d (k + 1) n r)) → (found : ℕ) (r : Raw)
      → Keeps e r ((held >>= λ ws. if eqb found 0 then (λ _. unmark g k >> hollow (component_at g ws k) >> look_from inside g d (k + 1) n) otherwise λ _. give found) r)
  unfolding ◌>>=◌ go_on held give Keeps
  found_keeps inside d k n v found r =
      keeps_either e r (eqb found 0) (λ _. unmark g k >> hollow (component_at g r.words k) >> look_from inside g d (k + 1) n) (λ _. give found)
      (keeps_then e r (unmark g k >> hollow (component_at g r.words k)) (λ _. look_from inside g d (k + 1) n)
      (keeps_then e r (unmark g k) (λ _. hollow (component_at g r.words k)) (keeps_unmark k r) (λ a r₁. keeps_hollow (component_at g r.words k) r₁))
      (λ a r₁. v r₁))
      refl

  look_keeps : (inside : ℕ → Act ℕ) (d : ℕ) → e < d → ((c : ℕ) (r : Raw) → Keeps e r (inside c r)) → (n k : ℕ) (r : Raw) → Keeps e r (look_from inside g d k n r)
  unfolding look_from ◌>>=◌ go_on held give store Keeps
  look_keeps inside d h v zero k r = refl
  look_keeps inside d h v (suc n) k r =
      let c = component_at g r.words k in
      keeps_either e r (passed_over r.words c) _ _ (look_keeps inside d h v n (k + 1) r)
      (keeps_either e r (is_group_at r.words c) _ _
      (keeps_then e r (mark g k) _ (keeps_mark k r) λ a r₁.
      let r₂ = raw r₁.texts (set r₁.words (way_place d) (way_word k n 0)) in
      keeps_from {A = ℕ} e r₁ r₂
      ((inside c >>= λ found. held >>= λ ws. if eqb found 0 then (λ _. unmark g k >> hollow (component_at g ws k) >> look_from inside g d (k + 1) n) otherwise λ _. give found) r₂)
      (get_or-set_other r₁.words (way_place d) (way_place e) _ 0 (λ q. omega arith))
      (keeps_then e r₂ (inside c) _ (v c r₂) (λ found r₃. found_keeps inside d k n (look_keeps inside d h v n (k + 1)) found r₃)))
      refl)

  pub under_keeps : (b d : ℕ) → e < d → (k n : ℕ) (r : Raw) → Keeps e r (look_under b g d k n r)
  unfolding look_under ◌>>=◌ go_on held give Keeps
  under_keeps zero d h k n r = refl
  under_keeps (suc b) d h k n r =
      look_keeps _ d h (λ c r₁. under_keeps b (d + 1) (omega arith) (first_at r₁.words c) (count_at r₁.words c) r₁) n k r

-- ---- one act and then another
then_same' : (o : Out ℕ) (k k' : ℕ → Act ℕ) → ((a : ℕ) (r : Raw) → o ≡ done a r → k a r ≡ k' a r) → go_on o k ≡ go_on o k'
unfolding go_on
then_same' (done a r) k k' h = h a r refl
then_same' (stop n p r) k k' h = refl

go_then : {A B C : Type 0} (o : Out A) (k : A → Act B) (l : B → Act C) → go_on (go_on o k) l ≡ go_on o (λ a. k a >>= l)
unfolding go_on ◌>>=◌
go_then (done a r) k l = refl
go_then (stop n p r) k l = refl

kept_there : (e : ℕ) (r : Raw) (o : Out ℕ) (a : ℕ) (r' : Raw) → Keeps e r o → o ≡ done a r' → get_or r'.words (way_place e) 0 ≡ get_or r.words (way_place e) 0
unfolding Keeps
kept_there e r o a r' h q = rw q at h

-- what was found is what the whole search gives
found_above : (g : List ℕ) (d found : ℕ) (r : Raw) → (found ≡ 0 → ⊥) → look_above g d found r ≡ done found r
unfolding look_above give if◌then◌otherwise◌
found_above g zero found r h = refl
found_above g (suc d) found r h = rw (ne_eqb found 0 h)

-- ---- what is left after a turn
module _ (g : List ℕ) where
  pub level_any : (d k n : ℕ) (r : Raw) → look_level g d k (within g d n) r ≡ look_under (shapes_granted g - d) g d k n r
  unfolding look_level within look_under look_from inside_at give if◌then◌otherwise◌
  level_any d k n r = go (shapes_granted g - d) refl
    where
      go : (b : ℕ) → shapes_granted g - d ≡ b → look_level g d k (within g d n) r ≡ look_under b g d k n r
      go zero q = let h : ltb d (shapes_granted g) ≡ false = le-ltb d (shapes_granted g) (omega arith) in rw h
      go (suc b) q =
          let h : ltb d (shapes_granted g) ≡ true = lt-ltb d (shapes_granted g) (omega arith) in
          let f : shapes_granted g - suc d ≡ b = omega arith in
          rw (h, f)

  -- nothing is left at this depth
  pub look_over : (k : ℕ) (r : Raw) → look_rest g 0 k 0 r ≡ done 0 r
  unfolding look_rest look_level look_above look_from ◌>>=◌ go_on give
  look_over k r = refl

  pub look_climbs : (d k : ℕ) (r r' : Raw) → give_up g (slot_in (get_or r.words (way_place d) 0)) r ≡ done tt r'
      → look_rest g (suc d) k 0 r ≡ look_rest g d (slot_in (get_or r.words (way_place d) 0) + 1) (left_in (get_or r.words (way_place d) 0)) r'
  unfolding look_rest look_level look_above look_from ◌>>=◌ go_on give load if◌then◌otherwise◌
  look_climbs d k r r' e = rw e

  module _ (d k n : ℕ) (r : Raw) (c : ℕ) (e : c ≡ component_at g r.words k) where
    pub look_passes : passed_over r.words c ≡ true → look_rest g d k (suc n) r ≡ look_rest g d (k + 1) n r
    unfolding look_rest look_level look_from ◌>>=◌ go_on held if◌then◌otherwise◌
    look_passes h = rw (← e, h)

    module _ (h : passed_over r.words c ≡ false) where
      pub look_finds : is_group_at r.words c ≡ false → look_rest g d k (suc n) r ≡ done (k + 1) r
      unfolding look_rest look_level look_from ◌>>=◌ go_on held give if◌then◌otherwise◌
      look_finds q = rw (← e, h, q) (found_above g d (k + 1) r (λ z. omega arith))

  module _ (d k n : ℕ) (r : Raw) (c : ℕ) (e : c ≡ component_at g r.words k) (h : passed_over r.words c ≡ false) (q : is_group_at r.words c ≡ true) (r₁ : Raw) (f : mark g k r ≡ done tt r₁)
      (l : d < shapes_granted g) (small : k < 2 ^ 17) (few : n < 2 ^ 16) (long : way_place d < length r₁.words) where
    abbrev below : Raw
    below = raw r₁.texts (set r₁.words (way_place d) (way_word k n 0))

    abbrev seen : Out ℕ
    seen = look_under (shapes_granted g - suc d) g (suc d) (first_at below.words c) (count_at below.words c) below

    abbrev after : ℕ → Act ℕ
    after found = held >>= λ ws. if eqb found 0 then (λ _. unmark g k >> hollow (component_at g ws k) >> look_level g d (k + 1) n) otherwise λ _. give found

    looks_down : look_rest g d k (suc n) r ≡ go_on (go_on seen after) (look_above g d)
    unfolding look_rest look_level look_from inside_at ◌>>=◌ go_on held store if◌then◌otherwise◌
    looks_down = let one : d + 1 ≡ suc d = omega arith in rw (← e, h, q, f, one)

    looks_back : (found : ℕ) (r₃ : Raw) → seen ≡ done found r₃ → go_on (after found r₃) (look_above g d) ≡ look_above g (suc d) found r₃
    unfolding look_above give_up ◌>>=◌ go_on held give load if◌then◌otherwise◌
    looks_back found r₃ s = go (eqb found 0) refl
      where
        way : get_or r₃.words (way_place d) 0 ≡ way_word k n 0
        way = kept_there d below seen found r₃ (under_keeps g d l (shapes_granted g - suc d) (suc d) (omega arith) (first_at below.words c) (count_at below.words c) below) s
            ∙ get_or-set_same r₁.words (way_place d) (way_word k n 0) 0 long

        go : (b : Bool) → eqb found 0 ≡ b → go_on (after found r₃) (look_above g d) ≡ look_above g (suc d) found r₃
        go true z = rw (z, way, slot_back k n 0 small, left_back k n 0 few) (go_then ((unmark g k >> hollow (component_at g r₃.words k)) r₃) (λ _. look_level g d (k + 1) n) (look_above g d))
        go false z = rw z (found_above g d found r₃ (eqb-false found 0 z))

    pub look_down : look_rest g d k (suc n) r ≡ look_rest g (suc d) (first_at below.words c) (within g (suc d) (count_at below.words c)) below
    unfolding look_rest ◌>>=◌
    look_down =
        looks_down ∙ go_then seen after (look_above g d)
        ∙ then_same' seen (λ found. after found >>= look_above g d) (look_above g (suc d)) looks_back
        ∙ ap (λ o. go_on o (look_above g (suc d))) (sym (level_any (suc d) (first_at below.words c) (count_at below.words c) below))

-- ---- what each way through a turn does
count_within_lem : (g ws : List ℕ) (d c : ℕ) → count_within g ws d c ≡ within g d (count_at ws c)
unfolding count_within within
count_within_lem g ws d c = refl

module _ (g ws : List ℕ) where
  -- ---- up
  give_up_kept : (k : ℕ) (ws' : List ℕ) → Gives ws (give_up g k) tt ws' → (e : ℕ) → e < shapes_granted g → get_or ws' (way_place e) 0 ≡ get_or ws (way_place e) 0
  unfolding give_up ◌>>=◌ go_on held
  give_up_kept k ws' h e l =
      kept_way e (raw [] ws) (give_up g k (raw [] ws)) (raw [] ws')
      (keeps_then e (raw [] ws) (unmark g k) (λ _. hollow (component_at g ws k)) (keeps_unmark g e l k (raw [] ws)) (λ a r. keeps_hollow g e l (component_at g ws k) r))
      (sym (h.equal []))

  module _ (k n : ℕ) (z : n ≡ 0) (ws' : List ℕ) where
    looking_up : (d : ℕ) → Walks g ws (walk_at (suc d) k n) → Gives ws (give_up g (slot_in (get_or ws (way_place d) 0))) tt ws' → length ws' ≡ length ws
        → Looked g ws (walk_at (suc d) k n) (Continue (back_at ws d)) ws'
    unfolding look_by back_at looks_within left_to_look
    looking_up d w h l =
        let deep = w.deep in
        let kept = give_up_kept (slot_in (get_or ws (way_place d) 0)) ws' h in
        let same : get_or ws' (way_place d) 0 ≡ get_or ws (way_place d) 0 = kept d (omega arith) in
        let b = w.ways d (omega arith) in
        record {
          equal = λ ts. rw z (sym (look_climbs g d k (raw ts ws) (raw ts ws') (sym (h.equal ts))));
          walks = walks_same g ws ws' (suc d) d k _ n _ w l kept (omega arith) (λ q. omega arith) (omega (arith, b)) (omega arith);
          less = rw (z, ← same) (climb_less (shapes_granted g) ws ws' d (λ e q. kept e (omega arith)));
        }

    up_from : (d s : ℕ) → Under g ws (walk_at d k n) → s ≡ slot_in (get_or ws (way_place (d - 1)) 0) → Gives ws (give_up g s) tt ws' → length ws' ≡ length ws → (t : Walk) → t ≡ back_at ws (d - 1)
        → Looked g ws (walk_at d k n) (Continue t) ws'
    up_from zero s u f h l t e = absurd (u.more (omega arith))
    up_from (suc d) s u f h l t e = rw (e, less_one_lem d) (looking_up d u.walks (rw (f, less_one_lem d) at h) l)

  module _ (d k : ℕ) (c : ℕ) (e : c ≡ component_at g ws k) (b : Bool) (f : b ≡ passed_over ws c) where
    -- ---- on
    on_from : (n : ℕ) → Under g ws (walk_at d k n) → (n ≡ 0 → ⊥) → b ≡ true → Looked g ws (walk_at d k n) (Continue (walk_at d (k + 1) (n - 1))) ws
    unfolding look_by looks_within left_to_look
    on_from zero u z t = absurd (z refl)
    on_from (suc n) u z t = rw (less_one_lem n) record {
      equal = λ ts. sym (look_passes g d k n (raw ts ws) c e (sym f ∙ t));
      walks = walks_same g ws ws d d k (k + 1) (suc n) n u.walks refl (λ e h. refl) (omega arith) (λ h. u.walks.within (omega arith))
          (omega (arith, u.walks.small)) (omega (arith, u.walks.few));
      less = advance_less (shapes_granted g) ws ws d n (λ e h. refl);
    }

    module _ (t : b ≡ false) (a : Bool) (i : a ≡ is_group_at ws c) where
      found_from : (n : ℕ) → (n ≡ 0 → ⊥) → a ≡ false → Looked g ws (walk_at d k n) (Break (k + 1)) ws
      unfolding look_by looks_within left_to_look
      found_from zero z v = absurd (z refl)
      found_from (suc n) z v = record {
        equal = λ ts. sym (look_finds g d k n (raw ts ws) c e (sym f ∙ t) (sym i ∙ v));
        walks = tt;
        less = owed_some (shapes_granted g) ws d (suc n);
      }

      -- ---- down
      module _ (ws₁ : List ℕ) (m : Gives ws (mark g k) tt ws₁) (l : length ws₁ ≡ length ws) where
        mark_kept : (e : ℕ) → e < shapes_granted g → get_or ws₁ (way_place e) 0 ≡ get_or ws (way_place e) 0
        mark_kept e q = kept_way e (raw [] ws) (mark g k (raw [] ws)) (raw [] ws₁) (keeps_mark g e q k (raw [] ws)) (sym (m.equal []))

        looking_down : (n : ℕ) → Walks g ws (walk_at d k (suc n)) → a ≡ true
            → Looked g ws (walk_at d k (suc n)) (Continue (down_in g (set ws₁ (way_place d) (way_word k n 0)) d c)) (set ws₁ (way_place d) (way_word k n 0))
        unfolding look_by looks_within left_to_look down_in count_within within
        looking_down n w v =
            let deep : d < shapes_granted g = w.within (omega arith) in
            let one : d + 1 ≡ suc d = omega arith in
            let long : way_place d < length ws₁ = rw l (omega (arith, w.room.words)) in
            let ws'' = set ws₁ (way_place d) (way_word k n 0) in
            let here : get_or ws'' (way_place d) 0 ≡ way_word k n 0 = get_or-set_same ws₁ (way_place d) (way_word k n 0) 0 long in
            let there : (e : ℕ) → e < d → get_or ws'' (way_place e) 0 ≡ get_or ws (way_place e) 0 =
            λ e y. get_or-set_other ws₁ (way_place d) (way_place e) (way_word k n 0) 0 (λ x. omega arith) ∙ mark_kept e (omega arith) in
            let left : left_in (get_or ws'' (way_place d) 0) ≡ n = ap left_in here ∙ left_back k n 0 (omega (arith, w.few)) in
            let slot : slot_in (get_or ws'' (way_place d) 0) ≡ k = ap slot_in here ∙ slot_back k n 0 (omega (arith, w.small)) in
            rw one record {
              equal = λ ts. sym (look_down g d k n (raw ts ws) c e (sym f ∙ t) (sym i ∙ v) (raw ts ws₁) (sym (m.equal ts)) deep (omega (arith, w.small)) (omega (arith, w.few)) long);
              walks = record {
                room = room_same w.room (length-set ws₁ (way_place d) (way_word k n 0) ∙ l);
                deep = deep;
                within = count_deep g ws'' (suc d) c;
                small = omega (arith, count_small g ws'' (suc d) c);
                few = count_small g ws'' (suc d) c;
                ways = λ e y. way_at d e y (λ x. rw x (omega (arith, slot, left, w.small))) (λ x. rw (there e x) (w.ways e x));
              };
              less = descend_less (shapes_granted g) ws ws'' d n (count_within g ws'' (suc d) c) deep (count_small g ws'' (suc d) c) left there;
            }

        down_from : (n : ℕ) → Under g ws (walk_at d k n) → (n ≡ 0 → ⊥) → a ≡ true → (ws'' : List ℕ) (down : Walk) → Entered g ws₁ d k (n - 1) c down ws''
            → Looked g ws (walk_at d k n) (Continue down) ws''
        down_from zero u z v ws'' down r = absurd (z refl)
        down_from (suc n) u z v ws'' down r = rw (r.place, r.words, less_one_lem n) (looking_down n u.walks v)

module _ (g ws : List ℕ) (w : Walk) (u : Under g ws w) where
  pub look_up : (z : w.left ≡ 0) (s : ℕ) (ws' : List ℕ) → s ≡ slot_in (get_or ws (way_place (w.depth - 1)) 0) → Gives ws (give_up g s) tt ws' → length ws' ≡ length ws
      → (t : Walk) → t ≡ back_at ws (w.depth - 1) → Looked g ws w (Continue t) ws'
  look_up z s ws' f h l t e = up_from g ws w.slot w.left z ws' w.depth s u f h l t e

  module _ (z : w.left ≡ 0 → ⊥) (c : ℕ) (e : c ≡ component_at g ws w.slot) (b : Bool) (f : b ≡ passed_over ws c) where
    pub look_on : b ≡ true → (t : Walk) → t ≡ past w → Looked g ws w (Continue t) ws
    look_on t r q = rw q (on_from g ws w.depth w.slot c e b f w.left u z t)

    module _ (t : b ≡ false) (a : Bool) (i : a ≡ is_group_at ws c) where
      pub look_found : a ≡ false → Looked g ws w (Break (w.slot + 1)) ws
      look_found v = found_from g ws w.depth w.slot c e b f t a i w.left z v

      pub look_in_group : (ws₁ : List ℕ) → Gives ws (mark g w.slot) tt ws₁ → length ws₁ ≡ length ws → a ≡ true → {ws'' : List ℕ} {down : Walk}
          → Entered g ws₁ w.depth w.slot (w.left - 1) c down ws'' → Looked g ws w (Continue down) ws''
      look_in_group ws₁ m l v {ws''} {down} r = down_from g ws w.depth w.slot c e b f t a i ws₁ m l w.left u z v ws'' down r
