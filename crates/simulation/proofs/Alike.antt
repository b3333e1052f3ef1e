-- Two shapes compared: figures, or groups pair by pair.
use Prim.Native.Nat.{ℕ, zero, suc, ◌+◌, ◌-◌, ◌≤◌, ◌<◌}
use native.Mathlib.Omega.{arith}
use native.Mathlib.Nat.{le_trans, le_of_lt}
use native.Mathlib.Numerals.{add-one}
use mathlib.Core.Path.{◌≡◌, refl, ap, ap₂, sym, ◌∙◌}
use mathlib.Core.Logic.{◌≢◌}
use mathlib.Core.Bool.{Bool, true, false, ◌&&◌, ◌||◌}
use mathlib.Core.List.{List, [], ◌∷◌}
use lib.ListN.{get_or}
use lib.Dec.{eqb}
use borrow.Author.Tests.{eqb-true, eqb-false}
use Rattle.meaning.specs.Basics.{if◌then◌otherwise◌}
use Rattle.meaning.specs.Token.{Token}
use Rattle.meaning.specs.State.{State, by_content, is_destroyed, living}
use Rattle.meaning.specs.Run as Run
use Rattle.meaning.specs.Book.{Amounts, shortage_of}
use Rattle.meaning.specs.Group.{pairwise, alike}
use Rattle.machine.specs.Layout.{steps_used, shapes_used, components_made, steps_granted, shapes_granted}
use Rattle.machine.specs.Act.{Raw, Act}
use Rattle.machine.specs.Act as Act
use Rattle.machine.specs.Shapes.{is_group_at, destroyed_at, figure_at}
use Rattle.machine.specs.Groups.{component_at, first_at, count_at, way_word, way_place, waiting_place, passed_from, pairs_from, alike_at}
use Rattle.machine.specs.Operate.{figures_same}
use Rattle.simulation.specs.Meant.{listed, components_of}
use Rattle.simulation.specs.Follows.{Grants, Related, Follows}
use Rattle.simulation.proofs.Binding.{bind}
use Rattle.simulation.proofs.Listed.{listed_same}
use Rattle.simulation.proofs.Frames.{untouched_components, component_later}
use Rattle.simulation.proofs.Results.{mapped, given, After, unmoved, onward, steps_told, spent_then}
use Rattle.simulation.proofs.Counting.{step_related}
use Rattle.simulation.proofs.Usable.{figure_found, group_found, destroyed_found}
use Rattle.simulation.proofs.Equality.{figures_compared}
use Rattle.simulation.proofs.Walking.{spare_way, spare_after}

module _ (program : List ℕ) (ts : List Token) (g : List ℕ) where
  abbrev Here : Raw → State → Amounts → Type 0
  Here r s total = Related program ts g r s total

  -- the same truth; the state is as it was
  pub record AfterAlike (r : Raw) (s : State) (b b' : Bool) (r' : Raw) (s' : State) (total : Amounts) : Type 0 where
    pub after : After program ts g r r' s' total
    pub state : s' ≡ s
    pub same : b ≡ b'

  -- n slots from k on are in use, and their components older than i
  record Slots (r : Raw) (i k n : ℕ) : Type 0 where
    made : i ≤ get_or r.words shapes_used 0
    within : k + n ≤ get_or r.words components_made 0
    older : (j : ℕ) → k ≤ j → j < k + n → component_at g r.words j < i

  slots_rest : {r : Raw} {i k n : ℕ} (y : ℕ) → suc y ≤ n → Slots r i k n → Slots r i (k + y + 1) (n - y - 1)
  slots_rest y l a = record { made = a.made; within = omega (arith, a.within); older = λ j x z. a.older j (omega arith) (omega arith) }

  slots_later : {r r' : Raw} {s s' : State} {total total' : Amounts} {i k n : ℕ} → Here r s total → After program ts g r r' s' total' → Slots r i k n → Slots r' i k n
  slots_later h b a =
      let u = untouched_components b.untouched in
      record {
        made = le_trans a.made b.later.shapes;
        within = le_trans a.within u.made;
        older = λ j x y. rw (component_later b.later h.sound.shapes u j (omega (arith, a.within))) (a.older j x y);
      }

  -- the components as a list
  abbrev list : Raw → ℕ → ℕ → List ℕ
  list r k n = listed (component_at g r.words) k n

  list_later : {r r' : Raw} {s s' : State} {total total' : Amounts} {i k n : ℕ} → Here r s total → After program ts g r r' s' total' → Slots r i k n → list r' k n ≡ list r k n
  list_later h b a = listed_same _ _ _ _ (λ j x y. component_later b.later h.sound.shapes (untouched_components b.untouched) j (omega (arith, a.within)))

  -- ---- those that are not destroyed
  module _ {r : Raw} {s : State} {total : Amounts} (h : Here r s total) where
    dead_is : {i k n : ℕ} → Slots r i k (suc n) → is_destroyed s (component_at g r.words k) ≡ destroyed_at r.words (component_at g r.words k)
    dead_is {k = k} a = destroyed_found h _ (le_trans (a.older k (omega arith) (omega arith)) a.made)

    rest_of : {i k n : ℕ} → Slots r i k (suc n) → Slots r i (k + 1) n
    rest_of a = record { made = a.made; within = omega (arith, a.within); older = λ j x y. a.older j (omega arith) (omega arith) }

    passed_le : (k n : ℕ) → passed_from g r.words k n ≤ n
    unfolding passed_from if◌then◌otherwise◌
    passed_le k zero = omega arith
    passed_le k (suc n) = go (destroyed_at r.words (component_at g r.words k)) (passed_le (k + 1) n)
      where
        go : (b : Bool) → passed_from g r.words (k + 1) n ≤ n → (if b then (λ _. suc (passed_from g r.words (k + 1) n)) otherwise λ _. 0) ≤ suc n
        go true l = omega arith
        go false l = omega arith

    living_none : {i : ℕ} (n k : ℕ) → Slots r i k n → passed_from g r.words k n ≡ n → living s (list r k n) ≡ []
    unfolding passed_from living listed if◌then◌otherwise◌
    living_none zero k a e = refl
    living_none (suc n) k a e =
        go (destroyed_at r.words (component_at g r.words k)) (dead_is a) e
        (λ q. ap (living s) (ap (λ j. list r j n) (sym (add-one k))) ∙ living_none n (k + 1) (rest_of a) q)
      where
        go : (b : Bool) → is_destroyed s (component_at g r.words k) ≡ b → (if b then (λ _. suc (passed_from g r.words (k + 1) n)) otherwise λ _. 0) ≡ suc n
            → (passed_from g r.words (k + 1) n ≡ n → living s (list r (suc k) n) ≡ [])
            → (if is_destroyed s (component_at g r.words k) then (λ _. living s (list r (suc k) n)) otherwise λ _. component_at g r.words k ∷ living s (list r (suc k) n)) ≡ []
        go true d e f = rw d (f (omega arith))
        go false d e f = absurd (omega arith)

    living_some : {i : ℕ} (n k : ℕ) → Slots r i k n → passed_from g r.words k n < n
        → living s (list r k n) ≡ component_at g r.words (k + passed_from g r.words k n)
        ∷ living s (list r (k + passed_from g r.words k n + 1) (n - passed_from g r.words k n - 1))
    unfolding passed_from living listed if◌then◌otherwise◌
    living_some zero k a l = absurd (omega arith)
    living_some (suc n) k a l =
        go (destroyed_at r.words (component_at g r.words k)) (dead_is a) l
        (λ q. ap (living s) (ap (λ j. list r j n) (sym (add-one k))) ∙ living_some n (k + 1) (rest_of a) q)
      where
        go : (b : Bool) → is_destroyed s (component_at g r.words k) ≡ b → (if b then (λ _. suc (passed_from g r.words (k + 1) n)) otherwise λ _. 0) < suc n
            → (passed_from g r.words (k + 1) n < n → living s (list r (suc k) n) ≡ component_at g r.words (k + 1 + passed_from g r.words (k + 1) n)
            ∷ living s (list r (k + 1 + passed_from g r.words (k + 1) n + 1) (n - passed_from g r.words (k + 1) n - 1)))
            → (if is_destroyed s (component_at g r.words k) then (λ _. living s (list r (suc k) n)) otherwise λ _. component_at g r.words k ∷ living s (list r (suc k) n))
            ≡ component_at g r.words (k + (if b then (λ _. suc (passed_from g r.words (k + 1) n)) otherwise λ _. 0))
            ∷ living s (list r (k + (if b then (λ _. suc (passed_from g r.words (k + 1) n)) otherwise λ _. 0) + 1)
            (suc n - (if b then (λ _. suc (passed_from g r.words (k + 1) n)) otherwise λ _. 0) - 1))
        go true d l f =
            let x : k + suc (passed_from g r.words (k + 1) n) ≡ k + 1 + passed_from g r.words (k + 1) n = omega arith in
            let y : suc n - suc (passed_from g r.words (k + 1) n) - 1 ≡ n - passed_from g r.words (k + 1) n - 1 = omega arith in
            rw (d, x, y) (f (omega arith))
        go false d l f =
            let x : k + 0 ≡ k = omega arith in
            let y : suc n - 0 - 1 ≡ n = omega arith in
            rw (d, x, y, add-one k)

  -- ---- pairs
  module _ (granted : Amounts) (i : ℕ) (pair : ℕ → ℕ → ℕ → ℕ → Act Bool) (pair' : ℕ → ℕ → Run.Action Bool) where
    -- what is done with a pair whose first is older than i
    record Pairs : Type 0 where
      does : (k n l m c d : ℕ) (r : Raw) (s : State) (total : Amounts) → Here r s total → c ≡ component_at g r.words k → d ≡ component_at g r.words l
          → c < i → c < get_or r.words shapes_used 0 → d < get_or r.words shapes_used 0
          → k < get_or r.words components_made 0 → l < get_or r.words components_made 0
          → Follows granted total (λ b b' r' s' total'. AfterAlike r s b b' r' s' total') (pair k n l m r) (pair' c d s)

    module _ (pairs : Pairs) where
      abbrev Alikes : Raw → State → Amounts → Act.Out Bool → Run.Run Bool → Type 0
      Alikes r s total o m = Follows granted total (λ b b' r' s' total'. AfterAlike r s b b' r' s' total') o m

      settled : {r : Raw} {s : State} {total : Amounts} → Here r s total → (b : Bool) → AfterAlike r s b b r s total
      settled h b = record { after = unmoved h; state = refl; same = refl }

      -- behind a pair
      after_pair : (x x' : Bool) → x ≡ x' → {r r₁ : Raw} {s s₁ : State} {total₁ : Amounts} → After program ts g r r₁ s₁ total₁ → s₁ ≡ s → (K : Act Bool) (is js is₁ js₁ : List ℕ)
          → living s₁ is₁ ≡ living s is → living s₁ js₁ ≡ living s js → Alikes r₁ s₁ total₁ (K r₁) (pairwise pair' (living s₁ is₁) (living s₁ js₁) s₁)
          → Follows granted total₁ (λ b b' r' s' total'. AfterAlike r s b b' r' s' total') ((if x then (λ _. K) otherwise λ _. Act.give false) r₁)
          ((if x' then (λ _. pairwise pair' (living s is) (living s js)) otherwise λ _. Run.give false) s₁)
      unfolding if◌then◌otherwise◌ Act.give Run.give
      after_pair true true e a q K is js is₁ js₁ u v f =
          mapped (λ b b' r' s' total' w. record { after = onward a w.after; state = w.state ∙ q; same = w.same }) (rw (u, v) at f)
      after_pair true false e a q K is js is₁ js₁ u v f = let z : ◌≡◌ {A = ℕ} 0 1 = cc in absurd (omega arith)
      after_pair false true e a q K is js is₁ js₁ u v f = let z : ◌≡◌ {A = ℕ} 0 1 = cc in absurd (omega arith)
      after_pair false false e a q K is js is₁ js₁ u v f = given (record { after = a; state = q; same = refl })

      pairs_follow : (n k l m j : ℕ) (r : Raw) (s : State) (total : Amounts) → Here r s total → Slots r i k n → Slots r j l m
          → Alikes r s total (pairs_from pair g k n l m r) (pairwise pair' (living s (list r k n)) (living s (list r l m)) s)
      unfolding pairs_from pairwise living listed if◌then◌otherwise◌ Act.◌>>=◌ Act.go_on Act.held Act.give Run.◌>>=◌ Run.give
      pairs_follow zero k l m j r s total h a b = ends (eqb m (passed_from g r.words l m)) refl
        where
          ends : (t : Bool) → eqb m (passed_from g r.words l m) ≡ t → Alikes r s total (Act.done t r) (pairwise pair' [] (living s (list r l m)) s)
          ends true e = rw (living_none h m l b (sym (eqb-true _ _ e))) (given (settled h true))
          ends false e =
              let d : m ≢ passed_from g r.words l m = eqb-false _ _ e in
              rw (living_some h m l b (omega (arith, passed_le h l m))) (given (settled h false))
      pairs_follow (suc n) k l m j r s total h a b =
          go (destroyed_at r.words (component_at g r.words k)) (dead_is h a) (eqb m (passed_from g r.words l m)) refl
          (pairs_follow n (k + 1) l m j r s total h (rest_of h a) b)
          (λ r₁ s₁ total₁ c. pairs_follow n (k + 1) (l + passed_from g r.words l m + 1) (m - passed_from g r.words l m - 1) j r₁ s₁ total₁ c)
        where
          go : (t : Bool) → is_destroyed s (component_at g r.words k) ≡ t → (u : Bool) → eqb m (passed_from g r.words l m) ≡ u
              → Alikes r s total (pairs_from pair g (k + 1) n l m r) (pairwise pair' (living s (list r (k + 1) n)) (living s (list r l m)) s)
              → ((r₁ : Raw) (s₁ : State) (total₁ : Amounts) → Here r₁ s₁ total₁ → Slots r₁ i (k + 1) n
              → Slots r₁ j (l + passed_from g r.words l m + 1) (m - passed_from g r.words l m - 1)
              → Alikes r₁ s₁ total₁ (pairs_from pair g (k + 1) n (l + passed_from g r.words l m + 1) (m - passed_from g r.words l m - 1) r₁)
              (pairwise pair' (living s₁ (list r₁ (k + 1) n)) (living s₁ (list r₁ (l + passed_from g r.words l m + 1) (m - passed_from g r.words l m - 1))) s₁))
              → Alikes r s total
              ((if t then (λ _. pairs_from pair g (k + 1) n l m) otherwise λ _. if u then (λ _. Act.give false) otherwise λ _.
              Act.◌>>=◌ (pair k n (l + passed_from g r.words l m) (m - passed_from g r.words l m - 1)) (λ x.
              if x then (λ _. pairs_from pair g (k + 1) n (l + passed_from g r.words l m + 1) (m - passed_from g r.words l m - 1)) otherwise λ _. Act.give false)) r)
              (pairwise pair' (if is_destroyed s (component_at g r.words k) then (λ _. living s (list r (suc k) n)) otherwise λ _. component_at g r.words k ∷ living s (list r (suc k) n))
              (living s (list r l m)) s)
          go true e u f again more = rw (e, ← add-one k) again
          go false e true f again more = rw (e, living_none h m l b (sym (eqb-true _ _ f))) (given (settled h false))
          go false e false f again more =
              let y = passed_from g r.words l m in
              let d : m ≢ y = eqb-false _ _ f in
              let less : y < m = omega (arith, passed_le h l m) in
              let rest = slots_rest y less b in
              rw (e, living_some h m l b less)
              (bind (pairs.does k n (l + y) (m - y - 1) (component_at g r.words k) (component_at g r.words (l + y)) r s total h refl refl
              (a.older k (omega arith) (omega arith)) (le_trans (a.older k (omega arith) (omega arith)) a.made) (le_trans (b.older (l + y) (omega arith) (omega arith)) b.made)
              (omega (arith, a.within)) (omega (arith, b.within)))
              (λ x x' r₁ s₁ total₁ q.
              after_pair x x' q.same q.after q.state (pairs_from pair g (k + 1) n (l + y + 1) (m - y - 1)) (list r (suc k) n) (list r (l + y + 1) (m - y - 1))
              (list r₁ (k + 1) n) (list r₁ (l + y + 1) (m - y - 1))
              (ap₂ living q.state (list_later h q.after (rest_of h a) ∙ ap (λ j. list r j n) (add-one k)))
              (ap₂ living q.state (list_later h q.after rest))
              (more r₁ s₁ total₁ q.after.related (slots_later h q.after (rest_of h a)) (slots_later h q.after rest))))

  -- ---- THE LAW
  module _ {granted : Amounts} (gr : Grants g granted) (p : ℕ) where
    abbrev pair_at : ℕ → ℕ → ℕ → ℕ → ℕ → ℕ → Act Bool
    pair_at b d k n l m = Act.◌>>◌ (Act.count g p) (Act.◌>>◌ (Act.store (way_place d) (way_word k n 0)) (Act.◌>>◌ (Act.store (waiting_place d) (way_word l m 0)) (Act.◌>>=◌ Act.held (λ ws'.
        alike_at (figures_same program) b g p (d + 1) (component_at g ws' k) (component_at g ws' l)))))

    abbrev Compares : ℕ → ℕ → ℕ → ℕ → Type 0
    Compares b b' d i = (j : ℕ) (r : Raw) (s : State) (total : Amounts) → Here r s total → i < get_or r.words shapes_used 0 → j < get_or r.words shapes_used 0
        → Follows granted total (λ x x' r' s' total'. AfterAlike r s x x' r' s' total') (alike_at (figures_same program) b g p d i j r) (alike b' p i j s)

    paired : (b b' d i : ℕ) → d < shapes_granted g → ((c : ℕ) → c < i → Compares b b' (d + 1) c) → Pairs granted i (pair_at b d) (λ c e. Run.◌>>◌ (Run.count p) (alike b' p c e))
    unfolding Act.◌>>=◌ Act.go_on Act.store Act.held shortage_of
    paired b b' d i deep deeper = record {
      does = λ k n l m c e r s total h x y o u v f z.
          spent_then Run.steps steps_used (steps_granted g) 1 79 p r s h.steps_taken gr.steps refl (steps_told h) _ _
          (λ fit.
          let a = (step_related h p fit).after in
          let a₁ = spare_after a.related (way_place d) (way_word k n 0) (spare_way d 3 deep (omega arith) (omega arith)) in
          let a₂ = spare_after a₁.related (waiting_place d) (way_word l m 0) (spare_way d 4 deep (omega arith) (omega arith)) in
          let w = onward a (onward a₁ a₂) in
          let q = component_later w.later h.sound.shapes (untouched_components w.untouched) k f ∙ sym x in
          let t = component_later w.later h.sound.shapes (untouched_components w.untouched) l z ∙ sym y in
          rw (q, t)
          (mapped (λ b b' r' s' total' v. record { after = onward w v.after; state = v.state; same = v.same })
          (deeper c o e _ s _ w.related (le_trans u w.later.shapes) (le_trans v w.later.shapes))));
    }

    -- two groups, a group and a figure, or two figures
    module _ (d i j : ℕ) {r : Raw} {s : State} {total : Amounts} (h : Here r s total) (l : i < get_or r.words shapes_used 0) (m : j < get_or r.words shapes_used 0) where
      abbrev Decides : Act.Out Bool → Run.Run Bool → Type 0
      Decides o n = Follows granted total (λ x x' r' s' total'. AfterAlike r s x x' r' s' total') o n

      both_figures : (b : ℕ) → is_group_at r.words i ≡ false → is_group_at r.words j ≡ false → Decides (figures_same program i j r) (alike (suc b) p i j s)
      unfolding figures_same alike by_content Act.give Run.◌>>=◌ Run.go_on Run.current Run.give
      both_figures b x y =
          rw (figure_found h i l x, figure_found h j m y)
          (given (record {
            after = unmoved h;
            state = refl;
            same = figures_compared program r.texts (figure_at r.words i) (figure_at r.words j) (h.sound.shapes.proper i l x) (h.sound.shapes.proper j m y);
          }))

      differ : (b : ℕ) (x y : Bool) → is_group_at r.words i ≡ x → is_group_at r.words j ≡ y → (x && y) ≡ false → (x || y) ≡ true → Decides (Act.give false r) (alike (suc b) p i j s)
      unfolding alike by_content Act.give Run.◌>>=◌ Run.go_on Run.current Run.give
      differ b true false x y u v = rw (group_found h i l x, figure_found h j m y) (given (record { after = unmoved h; state = refl; same = refl }))
      differ b false true x y u v = rw (figure_found h i l x, group_found h j m y) (given (record { after = unmoved h; state = refl; same = refl }))
      differ b true true x y u v = let z : ◌≡◌ {A = ℕ} 0 1 = cc in absurd (omega arith)
      differ b false false x y u v = let z : ◌≡◌ {A = ℕ} 0 1 = cc in absurd (omega arith)

      both_groups : (b b' : ℕ) → Pairs granted i (pair_at b d) (λ c e. Run.◌>>◌ (Run.count p) (alike b' p c e)) → is_group_at r.words i ≡ true → is_group_at r.words j ≡ true
          → Decides (pairs_from (pair_at b d) g (first_at r.words i) (count_at r.words i) (first_at r.words j) (count_at r.words j) r) (alike (suc b') p i j s)
      unfolding alike by_content components_of Run.◌>>=◌ Run.go_on Run.current
      both_groups b b' pairs x y =
          let a = h.sound.shapes.groups i l x in
          let c = h.sound.shapes.groups j m y in
          rw (group_found h i l x, group_found h j m y)
          (pairs_follow granted i (pair_at b d) (λ c e. Run.◌>>◌ (Run.count p) (alike b' p c e)) pairs (count_at r.words i) (first_at r.words i) (first_at r.words j) (count_at r.words j) j
          r s total h (record { made = le_of_lt l; within = a.within; older = a.older }) (record { made = le_of_lt m; within = c.within; older = c.older }))

      compared : (b b' : ℕ) → Pairs granted i (pair_at b d) (λ c e. Run.◌>>◌ (Run.count p) (alike b' p c e)) → Decides (alike_at (figures_same program) (suc b) g p d i j r) (alike (suc b') p i j s)
      unfolding alike_at if◌then◌otherwise◌ Act.◌>>=◌ Act.go_on Act.held
      compared b b' pairs = go (is_group_at r.words i) (is_group_at r.words j) refl refl
        where
          go : (x y : Bool) → is_group_at r.words i ≡ x → is_group_at r.words j ≡ y → Decides (alike_at (figures_same program) (suc b) g p d i j r) (alike (suc b') p i j s)
          go true true x y = rw (x, y) (both_groups b b' pairs x y)
          go true false x y = rw (x, y) (differ b' true false x y refl refl)
          go false true x y = rw (x, y) (differ b' false true x y refl refl)
          go false false x y = rw (x, y) (both_figures b' x y)

    pub compares : (b b' d i : ℕ) → suc b + d ≤ shapes_granted g → i ≤ b → i ≤ b' → Compares (suc b) (suc b') d i
    compares zero b' d i room x y j r s total h l m = compared d i j h l m zero b' (record { does = λ k n c o u v r s total h q t w. absurd (omega arith) })
    compares (suc b) zero d i room x y j r s total h l m = compared d i j h l m (suc b) zero (record { does = λ k n c o u v r s total h q t w. absurd (omega arith) })
    compares (suc b) (suc b') d i room x y j r s total h l m =
        compared d i j h l m (suc b) (suc b') (paired (suc b) (suc b') d i (omega arith) (λ c o. compares b b' (d + 1) c (omega arith) (omega arith) (omega arith)))
