-- Two groups compared pair by pair: the loop does what the comparison does, since nothing on the way changes the words of the depths above.
use Prim.Native.Nat.{ℕ, zero, suc, ◌+◌, ◌-◌, ◌/◌, ◌%◌, ◌^◌, ◌≤◌, ◌<◌}
use mathlib.Core.Path.{◌≡◌, refl, ap, sym, ◌∙◌}
use mathlib.Core.Bool.{Bool, true, false, ◌&&◌, ◌||◌}
use mathlib.Core.List.{List, []}
use native.Mathlib.Omega.{arith}
use lib.ListN.{get_or, set, length, length-set}
use lib.Seq.{get_or-set_same, get_or-set_other}
use lib.Dec.{eqb, leb}
use borrow.Author.Tests.{eq-eqb, ne_eqb}
use Rattle.meaning.specs.Basics.{if◌then◌otherwise◌}
use Rattle.machine.specs.Layout.{steps_used, steps_granted, shapes_granted, shape_place, Room}
use Rattle.machine.specs.Act.{Raw, raw, Out, done, stop, Act, go_on, ◌>>=◌, give, load, store, held, spend, count, out_of, Does, DoesIn}
use Rattle.machine.specs.Shapes.{is_group_at, destroyed_at, figure_at}
use Rattle.machine.specs.Groups.{component_at, first_at, count_at, way_word, way_place, waiting_place, passed_from, pairs_from, alike_at}
use Rattle.machine.specs.Operate.{same_figure, figures_same}
use Rattle.walks.specs.Walks.{slot_in, left_in, owed}
use Rattle.walks.proofs.WalkLaws.{slot_back, left_back, advance_less, climb_less, descend_less, same_owed, owed_some}
use Rattle.walks.proofs.TurnLaws.{room_same, way_at, less_one_lem}
use Rattle.std.proofs.Common.{ControlFlow, Continue, Break}
use Rattle.std.specs.Prelude.{Result, Ok, Err}
use Rattle.std.specs.Result.{IsErrAnd}
use Rattle.machine.specs.declared.Fault.{Fault}
use Rattle.machine.proofs.Acts.{passed_on}
use Rattle.pairs.specs.declared.Ways.{Ways}
use Rattle.pairs.specs.declared.Met.{Met}
use Rattle.pairs.specs.declared.Met.TheVariants.{Apart, Same, Groups}
use Rattle.pairs.specs.Pairs.{both_laid, pair_at, pair_level, pair_above, pair_rest, pair_after, pair_kept, pair_first, pair_by, met_by, back_both}
use Rattle.pairs.specs.Pairs.{Pairs, PairsBy, left_by, Passing, Backs, Kept, Within, Paired, PairedFirst, Follows, PairEnds, Meets}

abbrev pub ways_at : ℕ → ℕ → ℕ → ℕ → ℕ → Ways
ways_at d k n l m = record { depth = d; slot = k; left = n; other_slot = l; other_left = m }

-- ---- acts that spare a word
unfoldable Spares : {A : Type 0} → ℕ → Raw → Out A → Type 0
Spares q r (done a r') = get_or r'.words q 0 ≡ get_or r.words q 0
Spares q r (stop n p r') = Unit {0}

spares_from : {A : Type 0} (q : ℕ) (r r' : Raw) (o : Out A) → get_or r'.words q 0 ≡ get_or r.words q 0 → Spares q r' o → Spares q r o
unfolding Spares
spares_from q r r' (done a r'') e h = h ∙ e
spares_from q r r' (stop n p r'') e h = tt

spares_then : {A B : Type 0} (q : ℕ) (r : Raw) (m : Act A) (k : A → Act B) → Spares q r (m r) → ((a : A) (r' : Raw) → Spares q r' (k a r')) → Spares q r ((m >>= k) r)
unfolding Spares ◌>>=◌ go_on
spares_then {A} {B} q r m k h f = go (m r) h
  where
    go : (o : Out A) → Spares q r o → Spares q r (go_on o k)
    go (done a r') e = spares_from q r r' (k a r') e (f a r')
    go (stop n p r') e = tt

spares_either : {A : Type 0} (q : ℕ) (r : Raw) (b : Bool) (x y : Unit {0} → Act A) → Spares q r (x tt r) → Spares q r (y tt r) → Spares q r ((if b then x otherwise y) r)
unfolding if◌then◌otherwise◌
spares_either q r true x y h k = h
spares_either q r false x y h k = k

spared : {A : Type 0} (q : ℕ) (r : Raw) (o : Out A) (a : A) (r' : Raw) → Spares q r o → o ≡ done a r' → get_or r'.words q 0 ≡ get_or r.words q 0
unfolding Spares
spared q r o a r' h e = rw e at h

count_spares : (g : List ℕ) (p q : ℕ) → 0 < q → (r : Raw) → Spares q r (count g p r)
unfolding Spares spend if◌then◌otherwise◌
count_spares g p q h r = go (leb (get_or r.words steps_used 0 + 1) (steps_granted g))
  where
    go : (b : Bool) → Spares {A = Unit {0}} q r (if b then (λ _. done (tt {0}) (raw r.texts (set r.words steps_used (get_or r.words steps_used 0 + 1)))) otherwise λ _. stop 79 p r)
    go true = get_or-set_other r.words steps_used q _ 0 (λ e. omega arith)
    go false = tt

module _ (program g : List ℕ) (p q : ℕ) (some : 0 < q) where
  pairs_spare : (pair : ℕ → ℕ → ℕ → ℕ → Act Bool) → ((k n l m : ℕ) (r : Raw) → Spares q r (pair k n l m r)) → (n k l m : ℕ) (r : Raw) → Spares q r (pairs_from pair g k n l m r)
  unfolding pairs_from ◌>>=◌ go_on held give Spares
  pairs_spare pair v zero k l m r = refl
  pairs_spare pair v (suc n) k l m r =
      let y = passed_from g r.words l m in
      spares_either q r (destroyed_at r.words (component_at g r.words k)) _ _ (pairs_spare pair v n (k + 1) l m r)
      (spares_either q r (eqb m y) _ _ refl
      (spares_then q r (pair k n (l + y) (m - y - 1)) _ (v k n (l + y) (m - y - 1) r)
      (λ b r'. spares_either q r' b _ _ (pairs_spare pair v n (k + 1) (l + y + 1) (m - y - 1) r') refl)))

  pair_spares : (b d : ℕ) → q < way_place d → ((i j : ℕ) (r : Raw) → Spares q r (alike_at (figures_same program) b g p (d + 1) i j r)) → (k n l m : ℕ) (r : Raw)
      → Spares q r (pair_at program g p b d k n l m r)
  unfolding pair_at ◌>>=◌ go_on held store
  pair_spares b d h inner k n l m r =
      spares_then q r (count g p) _ (count_spares g p q some r) λ a r₁.
      let ws₂ = set r₁.words (way_place d) (way_word k n 0) in
      let r₃ = raw r₁.texts (set ws₂ (waiting_place d) (way_word l m 0)) in
      spares_from {A = Bool} q r₁ r₃ (alike_at (figures_same program) b g p (d + 1) (component_at g r₃.words k) (component_at g r₃.words l) r₃)
      (get_or-set_other ws₂ (waiting_place d) q _ 0 (λ e. omega arith) ∙ get_or-set_other r₁.words (way_place d) q _ 0 (λ e. omega arith))
      (inner (component_at g r₃.words k) (component_at g r₃.words l) r₃)

  alike_spares : (b d : ℕ) → q < way_place d → (i j : ℕ) (r : Raw) → Spares q r (alike_at (figures_same program) b g p d i j r)
  unfolding alike_at pair_at figures_same ◌>>=◌ go_on held give Spares
  alike_spares zero d h i j r = refl
  alike_spares (suc b) d h i j r =
      spares_either q r (is_group_at r.words i && is_group_at r.words j) _ _
      (pairs_spare (pair_at program g p b d) (pair_spares b d h (alike_spares b (d + 1) (omega arith))) (count_at r.words i) (first_at r.words i) (first_at r.words j) (count_at r.words j) r)
      (spares_either q r (is_group_at r.words i || is_group_at r.words j) _ _ refl refl)

-- ---- two shapes
module _ (program g ts ws : List ℕ) (d i j : ℕ) where
  pub meet_beyond : shapes_granted g ≤ d → Meets program g ts ws d i j Apart
  unfolding met_by alike_at give if◌then◌otherwise◌
  meet_beyond h = let z : shapes_granted g - d ≡ 0 = omega arith in record { equal = λ p. rw z; deep = λ z. absurd (cc) }

  module _ (h : d < shapes_granted g) where
    alike_below : (p : ℕ) → alike_at (figures_same program) (shapes_granted g - d) g p d i j (raw ts ws) ≡ alike_at (figures_same program) (suc (shapes_granted g - suc d)) g p d i j (raw ts ws)
    alike_below p = let z : shapes_granted g - d ≡ suc (shapes_granted g - suc d) = omega arith in rw z

    module _ (a : Bool) (e : a ≡ is_group_at ws i) (c : Bool) (f : c ≡ is_group_at ws j) where
      pub meet_groups : a ≡ true → c ≡ true → Meets program g ts ws d i j Groups
      unfolding met_by pair_level pair_at alike_at ◌>>=◌ go_on held if◌then◌otherwise◌
      meet_groups t u = record { equal = λ p. sym (alike_below p ∙ rw (← e, ← f, t, u)); deep = λ _. h }

      pub meet_group_left : a ≡ true → c ≡ false → Meets program g ts ws d i j Apart
      unfolding met_by alike_at ◌>>=◌ go_on held give if◌then◌otherwise◌
      meet_group_left t u = record { equal = λ p. sym (alike_below p ∙ rw (← e, ← f, t, u)); deep = λ z. absurd (cc) }

      pub meet_group_right : a ≡ false → c ≡ true → Meets program g ts ws d i j Apart
      unfolding met_by alike_at ◌>>=◌ go_on held give if◌then◌otherwise◌
      meet_group_right t u = record { equal = λ p. sym (alike_below p ∙ rw (← e, ← f, t, u)); deep = λ z. absurd (cc) }

      module _ (t : a ≡ false) (u : c ≡ false) (s : Bool) (v : s ≡ same_figure program ts (figure_at ws i) (figure_at ws j)) where
        pub meet_same : s ≡ true → Meets program g ts ws d i j Same
        unfolding met_by alike_at figures_same ◌>>=◌ go_on held give if◌then◌otherwise◌
        meet_same x = record { equal = λ p. sym (alike_below p ∙ rw (← e, ← f, t, u, ← v, x)); deep = λ z. absurd (cc) }

        pub meet_other : s ≡ false → Meets program g ts ws d i j Apart
        unfolding met_by alike_at figures_same ◌>>=◌ go_on held give if◌then◌otherwise◌
        meet_other x = record { equal = λ p. sym (alike_below p ∙ rw (← e, ← f, t, u, ← v, x)); deep = λ z. absurd (cc) }

-- ---- one act and then another
then_alike : (o : Out Bool) (k k' : Bool → Act Bool) → ((b : Bool) (r : Raw) → o ≡ done b r → k b r ≡ k' b r) → go_on o k ≡ go_on o k'
unfolding go_on
then_alike (done b r) k k' h = h b r refl
then_alike (stop n p r) k k' h = refl

go_then : (o : Out Bool) (k l : Bool → Act Bool) → go_on (go_on o k) l ≡ go_on o (λ b. k b >>= l)
unfolding go_on ◌>>=◌
go_then (done b r) k l = refl
go_then (stop n p r) k l = refl

-- ---- what is left after a turn
module _ (program g : List ℕ) (p : ℕ) where
  -- unequal below is unequal above
  unequal_above : (d : ℕ) (r : Raw) → pair_above program g p d false r ≡ done false r
  unfolding pair_above give if◌then◌otherwise◌
  unequal_above zero r = refl
  unequal_above (suc d) r = refl

  module _ (k l m : ℕ) (r : Raw) where
    ends_longer : (d : ℕ) → eqb m (passed_from g r.words l m) ≡ false → pair_rest program g p d k 0 l m r ≡ done false r
    unfolding pair_rest pair_level pairs_from ◌>>=◌ go_on held give
    ends_longer d e = rw e (unequal_above d r)

    ends_last : eqb m (passed_from g r.words l m) ≡ true → pair_rest program g p 0 k 0 l m r ≡ done true r
    unfolding pair_rest pair_level pair_above pairs_from ◌>>=◌ go_on held give
    ends_last e = rw e

    ends_above : (d : ℕ) → eqb m (passed_from g r.words l m) ≡ true
        → pair_rest program g p (suc d) k 0 l m r
        ≡ pair_rest program g p d (slot_in (get_or r.words (way_place d) 0) + 1) (left_in (get_or r.words (way_place d) 0))
        (slot_in (get_or r.words (waiting_place d) 0) + 1) (left_in (get_or r.words (waiting_place d) 0)) r
    unfolding pair_rest pair_level pair_above pairs_from ◌>>=◌ go_on held give load if◌then◌otherwise◌
    ends_above d e = rw e

  module _ (d k n l m : ℕ) (r : Raw) where
    goes_over : destroyed_at r.words (component_at g r.words k) ≡ true → pair_rest program g p d k (suc n) l m r ≡ pair_rest program g p d (k + 1) n l m r
    unfolding pair_rest pair_level pairs_from ◌>>=◌ go_on held if◌then◌otherwise◌
    goes_over e = rw e

    goes_short : destroyed_at r.words (component_at g r.words k) ≡ false → eqb m (passed_from g r.words l m) ≡ true → pair_rest program g p d k (suc n) l m r ≡ done false r
    unfolding pair_rest pair_level pairs_from ◌>>=◌ go_on held give if◌then◌otherwise◌
    goes_short e f = rw (e, f) (unequal_above d r)

    goes_on : destroyed_at r.words (component_at g r.words k) ≡ false → (y : ℕ) → y ≡ passed_from g r.words l m → eqb m y ≡ false
        → pair_rest program g p d k (suc n) l m r ≡ pair_first program g p d k n (l + y) (m - y - 1) r
    unfolding pair_rest pair_level pairs_from pair_first pair_after ◌>>=◌ go_on held if◌then◌otherwise◌
    goes_on e y q f = rw (e, ← q, f)

  -- a pair whose ways are kept
  module _ (d k n l m : ℕ) (r : Raw) where
    abbrev met : Out Bool
    met = alike_at (figures_same program) (shapes_granted g - suc d) g p (suc d) (component_at g r.words k) (component_at g r.words l) r

    kept_met : pair_kept program g p d k n l m r ≡ go_on (go_on met (pair_after program g p d k n l m)) (pair_above program g p d)
    unfolding pair_kept ◌>>=◌ go_on held
    kept_met = let one : d + 1 ≡ suc d = omega arith in rw one

    kept_apart : met ≡ done false r → pair_kept program g p d k n l m r ≡ done false r
    unfolding pair_after go_on give if◌then◌otherwise◌
    kept_apart e = kept_met ∙ rw e (unequal_above d r)

    kept_same : met ≡ done true r → pair_kept program g p d k n l m r ≡ pair_rest program g p d (k + 1) n (l + 1) m r
    unfolding pair_after pair_rest ◌>>=◌ go_on if◌then◌otherwise◌
    kept_same e = kept_met ∙ rw e

    module _ (w : Kept g r.words d k n l m) where
      comes_back : (b : Bool) (r' : Raw) → met ≡ done b r' → (pair_after program g p d k n l m b >>= pair_above program g p d) r' ≡ pair_above program g p (suc d) b r'
      unfolding pair_above pair_after ◌>>=◌ go_on give load if◌then◌otherwise◌
      comes_back false r' e = unequal_above d r'
      comes_back true r' e =
          let i = component_at g r.words k in
          let j = component_at g r.words l in
          let a = w.pairs in
          let u : get_or r'.words (way_place d) 0 ≡ way_word k n 0 =
          spared (way_place d) r met true r' (alike_spares program g p (way_place d) (omega arith) (shapes_granted g - suc d) (suc d) (omega arith) i j r) e ∙ w.left in
          let v : get_or r'.words (waiting_place d) 0 ≡ way_word l m 0 =
          spared (waiting_place d) r met true r' (alike_spares program g p (waiting_place d) (omega arith) (shapes_granted g - suc d) (suc d) (omega arith) i j r) e ∙ w.right in
          let left = left_back k n 0 (omega (arith, a.few)) in
          let left' = left_back l m 0 (omega (arith, a.few')) in
          rw (u, v, slot_back k n 0 (omega (arith, a.small)), left, slot_back l m 0 (omega (arith, a.small')), left')

      kept_down : (i j : ℕ) → met ≡ pair_level program g p (suc d) (first_at r.words i) (count_at r.words i) (first_at r.words j) (count_at r.words j) r
          → pair_kept program g p d k n l m r ≡ pair_rest program g p (suc d) (first_at r.words i) (count_at r.words i) (first_at r.words j) (count_at r.words j) r
      unfolding pair_rest ◌>>=◌
      kept_down i j e =
          kept_met ∙ go_then met (pair_after program g p d k n l m) (pair_above program g p d)
          ∙ then_alike met (λ b. pair_after program g p d k n l m b >>= pair_above program g p d) (pair_above program g p (suc d)) comes_back
          ∙ ap (λ o. go_on o (pair_above program g p (suc d))) e

  -- a step is counted, and the ways are kept
  first_kept : (d k n l m : ℕ) (ts ws ws₁ : List ℕ) → Does ws (count g p) (Ok tt) ws₁
      → pair_first program g p d k n l m (raw ts ws) ≡ pair_kept program g p d k n l m (raw ts (both_laid ws₁ d k n l m))
  unfolding pair_first pair_kept pair_at both_laid ◌>>=◌ go_on held store out_of
  first_kept d k n l m ts ws ws₁ h = rw (← h.equal ts)

-- ---- those passed over
pub passed_most : (g ws : List ℕ) (k n : ℕ) → passed_from g ws k n ≤ n
unfolding passed_from if◌then◌otherwise◌
passed_most g ws k zero = omega arith
passed_most g ws k (suc n) = go (destroyed_at ws (component_at g ws k)) (passed_most g ws (k + 1) n)
  where
    go : (b : Bool) → passed_from g ws (k + 1) n ≤ n → (if b then (λ _. suc (passed_from g ws (k + 1) n)) otherwise λ _. 0) ≤ suc n
    go true h = omega arith
    go false h = omega arith

-- y are passed over so far
pub record Passed (g ws : List ℕ) (k n y : ℕ) : Type 0 where
  pub rest : passed_from g ws k n ≡ y + passed_from g ws (k + y) (n - y)
  pub most : y ≤ n

module _ (g ws : List ℕ) (k n : ℕ) where
  pub pass_first : Passed g ws k n 0
  pass_first = let a : k + 0 ≡ k = omega arith in let b : n - 0 ≡ n = omega arith in record { rest = rw (a, b) (omega arith); most = omega arith }

  module _ (y : ℕ) (h : Passed g ws k n y) where
    pub pass_last : n ≤ y → n ≡ passed_from g ws k n
    unfolding passed_from
    pass_last l = let z : n - y ≡ 0 = omega arith in let r = rw z at h.rest in omega (arith, r, h.most)

    module _ (l : y < n) (c : ℕ) (e : c ≡ component_at g ws (k + y)) (b : Bool) (f : b ≡ destroyed_at ws c) where
      next_one : n - y ≡ suc (n - (y + 1))
      next_one = omega arith

      pub pass_found : b ≡ false → y ≡ passed_from g ws k n
      unfolding passed_from if◌then◌otherwise◌
      pass_found t =
          let z : destroyed_at ws (component_at g ws (k + y)) ≡ false = rw (← e) (sym f ∙ t) in
          let r : passed_from g ws (k + y) (suc (n - (y + 1))) ≡ 0 = rw z in
          let s = rw next_one at h.rest in
          omega (arith, r, s)

      pub pass_next : b ≡ true → Passed g ws k n (y + 1)
      unfolding passed_from if◌then◌otherwise◌
      pass_next t =
          let z : destroyed_at ws (component_at g ws (k + y)) ≡ true = rw (← e) (sym f ∙ t) in
          let i : k + y + 1 ≡ k + (y + 1) = omega arith in
          let r : passed_from g ws (k + y) (suc (n - (y + 1))) ≡ suc (passed_from g ws (k + (y + 1)) (n - (y + 1))) = rw (z, i) in
          let s = rw next_one at h.rest in
          record { rest = omega (arith, r, s); most = omega arith }

-- ---- the ways
pub keeps_both : (ws ws₁ ws₂ : List ℕ) (d k n l m at v w : ℕ) → at ≡ shape_place d → v ≡ way_word k n 0 → ws₁ ≡ set ws (at + 3) v
    → w ≡ way_word l m 0 → ws₂ ≡ set ws₁ (at + 3 + 1) w → ws₂ ≡ both_laid ws d k n l m
unfolding both_laid
keeps_both ws ws₁ ws₂ d k n l m at v w e f h q i =
    let a : at + 3 ≡ way_place d = omega (arith, e) in
    let b : at + 3 + 1 ≡ waiting_place d = omega (arith, e) in
    i ∙ rw (h, b, a, f, q)

module _ (ws : List ℕ) (d at w v : ℕ) (e : at ≡ shape_place d) (f : w ≡ get_or ws (at + 3) 0) (h : v ≡ get_or ws (at + 3 + 1) 0) where
  pub back_both_lem : ways_at d (w % 4294967296 + 1) (w / 4294967296 % 65536) (v % 4294967296 + 1) (v / 4294967296 % 65536) ≡ back_both ws d
  unfolding back_both
  back_both_lem =
      let a : at + 3 ≡ way_place d = omega (arith, e) in
      let b : at + 3 + 1 ≡ waiting_place d = omega (arith, e) in
      rw (f, h, b, a)

  pub back_fits : Backs ws d → w % 4294967296 + 1 < 2 ^ 32
  back_fits q = let a : at + 3 ≡ way_place d = omega (arith, e) in rw (f, a) (omega (arith, q.left))

  pub back_fits' : Backs ws d → v % 4294967296 + 1 < 2 ^ 32
  back_fits' q = let b : at + 3 + 1 ≡ waiting_place d = omega (arith, e) in rw (h, b) (omega (arith, q.right))

-- ---- the end of a level
module _ (g ws : List ℕ) (d k l m : ℕ) (a : Pairs g ws d k 0 l m) where
  pub passes_right : Passing g ws l m
  passes_right = record { room = a.room; small = a.small' }

  pub backs_up : (d ≡ 0 → ⊥) → Backs ws (d - 1)
  backs_up z = record { left = a.ways (d - 1) (omega (arith, z)); right = a.ways' (d - 1) (omega (arith, z)) }

  module _ (y : ℕ) (e : y ≡ passed_from g ws l m) where
    pub end_longer : (y ≡ m → ⊥) → PairEnds g ws d k l m (Break false)
    unfolding pair_by PairsBy left_by if◌then◌otherwise◌
    end_longer h = record {
      equal = λ program ts p. sym (ends_longer program g p k l m (raw ts ws) d (rw (← e) (ne_eqb m y (λ q. h (sym q)))));
      pairs = tt;
      less = owed_some (shapes_granted g) ws d 0;
    }

    module _ (h : y ≡ m) where
      same_end : eqb m (passed_from g ws l m) ≡ true
      same_end = rw (← e) (eq-eqb m y (sym h))

      pub end_last : d ≡ 0 → PairEnds g ws d k l m (Break true)
      unfolding pair_by PairsBy left_by if◌then◌otherwise◌
      end_last z = rw z (record { equal = λ program ts p. sym (ends_last program g p k l m (raw ts ws) same_end); pairs = tt; less = owed_some (shapes_granted g) ws 0 0 })

-- at a depth above
module _ (g ws : List ℕ) (k l m y : ℕ) (e : y ≡ passed_from g ws l m) (h : y ≡ m) where
  ending_above : (d : ℕ) → Pairs g ws (suc d) k 0 l m → PairEnds g ws (suc d) k l m (Continue (back_both ws d))
  unfolding pair_by back_both PairsBy left_by
  ending_above d a = record {
    equal = λ program ts p. sym (ends_above program g p k l m (raw ts ws) d (rw (← e) (eq-eqb m y (sym h))));
    pairs = record {
      room = a.room;
      deep = omega (arith, a.deep);
      small = omega (arith, a.ways d (omega arith));
      few = omega arith;
      small' = omega (arith, a.ways' d (omega arith));
      few' = omega arith;
      ways = λ e q. a.ways e (omega arith);
      ways' = λ e q. a.ways' e (omega arith);
    };
    less = climb_less (shapes_granted g) ws ws d (λ e q. refl);
  }

  pub end_above : (d : ℕ) → Pairs g ws d k 0 l m → (d ≡ 0 → ⊥) → (t : Ways) → t ≡ back_both ws (d - 1) → PairEnds g ws d k l m (Continue t)
  end_above zero a z t q = absurd (z refl)
  end_above (suc d) a z t q = rw (q, less_one_lem d) (ending_above d a)

-- ---- a turn
module _ (program g : List ℕ) (p : ℕ) (ts ws : List ℕ) (d k l m : ℕ) where
  pub pairs_none : (n : ℕ) → Pairs g ws d k n l m → n ≡ 0 → Pairs g ws d k 0 l m
  pairs_none n a z = rw z at a

  pub turn_ends : (n : ℕ) (t : ControlFlow Bool Ways) → n ≡ 0 → PairEnds g ws d k l m t → Paired program g p ts ws d k n l m (Ok t) ws
  turn_ends n t z h = rw z (record { equal = h.equal program ts p; pairs = h.pairs; less = h.less })

  module _ (c : ℕ) (e : c ≡ component_at g ws k) (b : Bool) (f : b ≡ destroyed_at ws c) where
    going_over : (n : ℕ) → Pairs g ws d k (suc n) l m → b ≡ true → Paired program g p ts ws d k (suc n) l m (Ok (Continue (ways_at d (k + 1) n l m))) ws
    unfolding pair_by PairsBy left_by
    going_over n a t = record {
      equal = sym (goes_over program g p d k n l m (raw ts ws) (rw (← e) (sym f ∙ t)));
      pairs = record {
        room = a.room;
        deep = a.deep;
        small = omega (arith, a.small);
        few = omega (arith, a.few);
        small' = a.small';
        few' = a.few';
        ways = a.ways;
        ways' = a.ways';
      };
      less = advance_less (shapes_granted g) ws ws d n (λ e h. refl);
    }

    pub turn_over : (n : ℕ) → Pairs g ws d k n l m → (n ≡ 0 → ⊥) → b ≡ true → Paired program g p ts ws d k n l m (Ok (Continue (ways_at d (k + 1) (n - 1) l m))) ws
    turn_over zero a z t = absurd (z refl)
    turn_over (suc n) a z t = rw (less_one_lem n) (going_over n a t)

    module _ (t : b ≡ false) (y : ℕ) (q : y ≡ passed_from g ws l m) where
      alive : destroyed_at ws (component_at g ws k) ≡ false
      alive = rw (← e) (sym f ∙ t)

      pub turn_short : (n : ℕ) → (n ≡ 0 → ⊥) → y ≡ m → Paired program g p ts ws d k n l m (Ok (Break false)) ws
      unfolding pair_by PairsBy left_by if◌then◌otherwise◌
      turn_short zero z h = absurd (z refl)
      turn_short (suc n) z h = record {
        equal = sym (goes_short program g p d k n l m (raw ts ws) alive (rw (← q) (eq-eqb m y (sym h))));
        pairs = tt;
        less = owed_some (shapes_granted g) ws d (suc n);
      }

      pub turn_pair : (n : ℕ) → (n ≡ 0 → ⊥) → (y ≡ m → ⊥) → (r : Result (ControlFlow Bool Ways) Fault) (ws' : List ℕ) → PairedFirst program g p ts ws d k (n - 1) (l + y) (m - y - 1) r ws' → Paired program g p ts ws d k n l m r ws'
      turn_pair zero z h r ws' w = absurd (z refl)
      turn_pair (suc n) z h r ws' w =
          let v = rw (less_one_lem n) at w in
          record { equal = v.equal ∙ sym (goes_on program g p d k n l m (raw ts ws) alive y q (ne_eqb m y (λ x. h (sym x)))); pairs = v.pairs; less = v.less }

  pub pair_asks : (n y : ℕ) → Pairs g ws d k n l m → (n ≡ 0 → ⊥) → y ≡ passed_from g ws l m → (y ≡ m → ⊥) → Pairs g ws d k (n - 1 + 1) (l + y) (m - y - 1 + 1)
  pair_asks n y a z e h =
      let x : y ≤ m = rw e (passed_most g ws l m) in
      let u : n - 1 + 1 ≡ n = omega (arith, z) in
      record {
        room = a.room;
        deep = a.deep;
        small = omega (arith, a.small, u);
        few = omega (arith, a.few, u);
        small' = omega (arith, a.small', x, h);
        few' = omega (arith, a.few', x, h);
        ways = a.ways;
        ways' = a.ways';
      }

module _ (g ws : List ℕ) (l m y : ℕ) (e : y ≡ passed_from g ws l m) where
  pub right_most : y ≤ m
  right_most = rw e (passed_most g ws l m)

  pub right_more : (y ≡ m → ⊥) → 1 ≤ m - y
  right_more h = let x = right_most in omega (arith, x, h)

-- ---- a pair
module _ (program g ts ws : List ℕ) (d k n l m : ℕ) (w : Kept g ws d k n l m) (i j : ℕ) (e : i ≡ component_at g ws k) (f : j ≡ component_at g ws l) where
  met_as : (v : Met) → Meets program g ts ws (d + 1) i j v → (p : ℕ) → met_by program g p v (suc d) i j ts ws ≡ met program g p d k n l m (raw ts ws)
  met_as v s p = let one : d + 1 ≡ suc d = omega arith in (rw one at s).equal p ∙ rw (e, f)

  pub follow_apart : Meets program g ts ws (d + 1) i j Apart → Follows program g ts ws d k n l m (Break false)
  unfolding pair_by PairsBy left_by met_by
  follow_apart s = record {
    equal = λ p. sym (kept_apart program g p d k n l m (raw ts ws) (sym (met_as Apart s p)));
    pairs = tt;
    less = owed_some (shapes_granted g) ws d (suc n);
  }

  pub follow_same : Meets program g ts ws (d + 1) i j Same → Follows program g ts ws d k n l m (Continue (ways_at d (k + 1) n (l + 1) m))
  unfolding pair_by PairsBy left_by met_by
  follow_same s =
      let a = w.pairs in
      record {
        equal = λ p. sym (kept_same program g p d k n l m (raw ts ws) (sym (met_as Same s p)));
        pairs = record {
          room = a.room;
          deep = a.deep;
          small = omega (arith, a.small);
          few = omega (arith, a.few);
          small' = omega (arith, a.small');
          few' = omega (arith, a.few');
          ways = a.ways;
          ways' = a.ways';
        };
        less = advance_less (shapes_granted g) ws ws d n (λ e y. refl);
      }

  following_down : Meets program g ts ws (d + 1) i j Groups → Follows program g ts ws d k n l m (Continue (ways_at (suc d) (first_at ws i) (count_at ws i) (first_at ws j) (count_at ws j)))
  unfolding pair_by PairsBy left_by met_by
  following_down s =
      let a = w.pairs in
      let deep = s.deep refl in
      let slot : slot_in (get_or ws (way_place d) 0) ≡ k = ap slot_in w.left ∙ slot_back k n 0 (omega (arith, a.small)) in
      let left : left_in (get_or ws (way_place d) 0) ≡ n = ap left_in w.left ∙ left_back k n 0 (omega (arith, a.few)) in
      let slot' : slot_in (get_or ws (waiting_place d) 0) ≡ l = ap slot_in w.right ∙ slot_back l m 0 (omega (arith, a.small')) in
      let left' : left_in (get_or ws (waiting_place d) 0) ≡ m = ap left_in w.right ∙ left_back l m 0 (omega (arith, a.few')) in
      record {
        equal = λ p. sym (kept_down program g p d k n l m (raw ts ws) w i j (sym (met_as Groups s p)));
        pairs = record {
          room = a.room;
          deep = omega (arith, deep);
          small = omega arith;
          few = omega arith;
          small' = omega arith;
          few' = omega arith;
          ways = λ e y. way_at d e y (λ v. rw v (omega (arith, slot, left, a.small))) (a.ways e);
          ways' = λ e y. way_at d e y (λ v. rw v (omega (arith, slot', left', a.small'))) (a.ways' e);
        };
        less = descend_less (shapes_granted g) ws ws d n (count_at ws i) a.deep (omega arith) left (λ e y. refl);
      }

  pub follow_down : (k₁ n₁ l₁ m₁ : ℕ) → Meets program g ts ws (d + 1) i j Groups → k₁ ≡ first_at ws i → n₁ ≡ count_at ws i → l₁ ≡ first_at ws j → m₁ ≡ count_at ws j
      → Follows program g ts ws d k n l m (Continue (ways_at (d + 1) k₁ n₁ l₁ m₁))
  follow_down k₁ n₁ l₁ m₁ s u v x y = let one : d + 1 ≡ suc d = omega arith in rw (u, v, x, y, one) (following_down s)

module _ (g : List ℕ) (p : ℕ) (ws : List ℕ) (d k n l m : ℕ) (a : Pairs g ws d k (n + 1) l (m + 1)) (ws₁ : List ℕ) where
  pub pair_stops : (program ts : List ℕ) (s : Result (ControlFlow Bool Ways) Fault) (e : Fault) → Does ws (count g p) (Err e) ws₁ → IsErrAnd s (λ y. y ≡ e) → PairedFirst program g p ts ws d k n l m s ws₁
  unfolding pair_by PairsBy left_by pair_first pair_at ◌>>=◌ go_on out_of
  pair_stops program ts s e h i = rw (passed_on s i) record {
    equal = let q = h.equal ts in rw (← q);
    pairs = tt;
    less = owed_some (shapes_granted g) ws d (suc n);
  }

  module _ (h : Does ws (count g p) (Ok tt) ws₁) (ws₂ : List ℕ) (q : ws₂ ≡ both_laid ws₁ d k n l m) where
    counted : (at : ℕ) → 0 < at → get_or ws₁ at 0 ≡ get_or ws at 0
    unfolding out_of
    counted at z = spared at (raw [] ws) (count g p (raw [] ws)) tt (raw [] ws₁) (count_spares g p at z (raw [] ws)) (sym (h.equal []))

    -- the depths above are as they were
    above_kept : (at : ℕ) → 0 < at → at < way_place d → get_or (both_laid ws₁ d k n l m) at 0 ≡ get_or ws at 0
    unfolding both_laid
    above_kept at z y =
        get_or-set_other (set ws₁ (way_place d) (way_word k n 0)) (waiting_place d) at (way_word l m 0) 0 (λ e. omega arith)
        ∙ get_or-set_other ws₁ (way_place d) at (way_word k n 0) 0 (λ e. omega arith) ∙ counted at z

    pub keeps : length ws₁ ≡ length ws → Kept g ws₂ d k n l m
    unfolding both_laid
    keeps x =
        let long : waiting_place d < length ws₁ = rw x (omega (arith, a.room.words, a.deep)) in
        let z = length-set ws₁ (way_place d) (way_word k n 0) in
        rw q record {
          pairs = record {
            room = room_same a.room (length-set (set ws₁ (way_place d) (way_word k n 0)) (waiting_place d) (way_word l m 0) ∙ z ∙ x);
            deep = a.deep;
            small = a.small;
            few = a.few;
            small' = a.small';
            few' = a.few';
            ways = λ e y. rw (above_kept (way_place e) (omega arith) (omega arith)) (a.ways e y);
            ways' = λ e y. rw (above_kept (waiting_place e) (omega arith) (omega arith)) (a.ways' e y);
          };
          left = get_or-set_other (set ws₁ (way_place d) (way_word k n 0)) (waiting_place d) (way_place d) (way_word l m 0) 0 (λ e. omega arith)
              ∙ get_or-set_same ws₁ (way_place d) (way_word k n 0) 0 (omega arith);
          right = get_or-set_same (set ws₁ (way_place d) (way_word k n 0)) (waiting_place d) (way_word l m 0) 0 (omega (arith, z));
        }

    pub pair_follows : (program ts : List ℕ) (r : ControlFlow Bool Ways) → Follows program g ts ws₂ d k n l m r → PairedFirst program g p ts ws d k n l m (Ok r) ws₂
    unfolding owed
    pair_follows program ts r w =
        let v = rw q at w in
        let same = same_owed (shapes_granted g) ws (both_laid ws₁ d k n l m) d (λ e y. above_kept (way_place e) (omega arith) (omega arith)) in
        rw q record {
          equal = v.equal p ∙ sym (first_kept program g p d k n l m ts ws ws₁ h);
          pairs = v.pairs;
          less = rw same at v.less;
        }

-- ---- the loop
pub record PairsGo (program g : List ℕ) (p : ℕ) (ts : List ℕ) (i j : ℕ) (ws₀ ws : List ℕ) (w : Ways) : Type 0 where
  pub rest : pair_rest program g p w.depth w.slot w.left w.other_slot w.other_left (raw ts ws) ≡ pair_level program g p 0 (first_at ws₀ i) (count_at ws₀ i) (first_at ws₀ j) (count_at ws₀ j) (raw ts ws₀)
  pub pairs : Pairs g ws w.depth w.slot w.left w.other_slot w.other_left
  pub long : length ws ≡ length ws₀

then_given : (o : Out Bool) → go_on o (λ b. give b) ≡ o
unfolding go_on give
then_given (done b r) = refl
then_given (stop n p r) = refl

module _ (program g : List ℕ) (p : ℕ) (ts : List ℕ) (i j : ℕ) (ws₀ : List ℕ) where
  pub pairs_first : (k n l m : ℕ) → Within g ws₀ → k ≡ first_at ws₀ i → n ≡ count_at ws₀ i → l ≡ first_at ws₀ j → m ≡ count_at ws₀ j → PairsGo program g p ts i j ws₀ ws₀ (ways_at 0 k n l m)
  unfolding pair_rest pair_above ◌>>=◌
  pairs_first k n l m w e f h q = record {
    rest = then_given (pair_level program g p 0 k n l m (raw ts ws₀)) ∙ rw (e, f, h, q);
    pairs = record {
      room = w.room;
      deep = w.some;
      small = omega (arith, e, f);
      few = omega (arith, f);
      small' = omega (arith, h, q);
      few' = omega (arith, q);
      ways = λ e y. absurd (omega arith);
      ways' = λ e y. absurd (omega arith);
    };
    long = refl;
  }

  module _ (ws : List ℕ) (w : Ways) (a : PairsGo program g p ts i j ws₀ ws w) (ws' : List ℕ) where
    abbrev Turn : Result (ControlFlow Bool Ways) Fault → Type 0
    Turn t = Paired program g p ts ws w.depth w.slot w.left w.other_slot w.other_left t ws'

    abbrev whole : Act Bool
    whole = pair_level program g p 0 (first_at ws₀ i) (count_at ws₀ i) (first_at ws₀ j) (count_at ws₀ j)

    pub pairs_next : (t : Ways) → Turn (Ok (Continue t)) → length ws' ≡ length ws → PairsGo program g p ts i j ws₀ ws' t
    unfolding pair_by PairsBy
    pairs_next t r x = record { rest = r.equal ∙ a.rest; pairs = r.pairs; long = x ∙ a.long }

    pub pairs_less : (t : Ways) → Turn (Ok (Continue t)) → owed (shapes_granted g) ws' t.depth t.left < owed (shapes_granted g) ws w.depth w.left
    unfolding left_by
    pairs_less t r = r.less

    pub pairs_settled : (b : Bool) → Turn (Ok (Break b)) → DoesIn ts ws₀ whole (Ok b) ts ws'
    unfolding pair_by out_of
    pairs_settled b r = record { equal = r.equal ∙ a.rest }

    pub pairs_stop : (s : Result Bool Fault) (e : Fault) → Turn (Err e) → IsErrAnd s (λ y. y ≡ e) → DoesIn ts ws₀ whole s ts ws'
    unfolding pair_by out_of
    pairs_stop s e r i = rw (passed_on s i) record { equal = r.equal ∙ a.rest }

-- ---- two shapes at the start
module _ (program g : List ℕ) (p : ℕ) (ts ws : List ℕ) (i j : ℕ) where
  met_whole : (v : Met) → Meets program g ts ws 0 i j v → met_by program g p v 0 i j ts ws ≡ alike_at (figures_same program) (shapes_granted g) g p 0 i j (raw ts ws)
  met_whole v s = let z : shapes_granted g - 0 ≡ shapes_granted g = omega arith in rw z at (s.equal p)

  abbrev Compared : Result Bool Fault → List ℕ → Type 0
  Compared s ws' = DoesIn ts ws (alike_at (figures_same program) (shapes_granted g) g p 0 i j) s ts ws'

  pub alike_apart : Meets program g ts ws 0 i j Apart → Compared (Ok false) ws
  unfolding met_by out_of
  alike_apart s = record { equal = met_whole Apart s }

  pub alike_same : Meets program g ts ws 0 i j Same → Compared (Ok true) ws
  unfolding met_by out_of
  alike_same s = record { equal = met_whole Same s }

  module _ (s : Meets program g ts ws 0 i j Groups) where
    pub within_asks : Room g ws → Within g ws
    within_asks r = record { room = r; some = s.deep refl }

    pub alike_within : (r : Result Bool Fault) (ws' : List ℕ) → DoesIn ts ws (pair_level program g p 0 (first_at ws i) (count_at ws i) (first_at ws j) (count_at ws j)) r ts ws' → Compared r ws'
    unfolding met_by
    alike_within r ws' w = record { equal = w.equal ∙ met_whole Groups s }
