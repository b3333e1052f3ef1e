-- What is done with each shape that variables hold, one after the other: of the call under way, and of all calls.
use Prim.Native.Nat.{ℕ, zero, suc, ◌+◌, ◌-◌, ◌≤◌, ◌<◌}
use native.Mathlib.Omega.{arith}
use native.Mathlib.Numerals.{add-one}
use mathlib.Core.Path.{◌≡◌, refl, ap, sym, ◌∙◌, subst}
use mathlib.Core.Bool.{Bool, true, false}
use mathlib.Core.List.{List, [], ◌++◌, append-nil, append_assoc}
use lib.ListN.{get_or}
use Rattle.meaning.specs.Basics.{if◌then◌otherwise◌}
use Rattle.meaning.specs.Token.{Token}
use Rattle.meaning.specs.Figure as Meaning
use Rattle.meaning.specs.State.{State, Variable, is_destroyed, shape_in, shapes_held, shapes_held_by}
use Rattle.meaning.specs.Run as Run
use Rattle.meaning.specs.Book.{Amounts}
use Rattle.meaning.specs.Group.{each, destroying}
use Rattle.machine.specs.declared.Value.{Value}
use Rattle.machine.specs.declared.Value.TheVariants.{Integer, Text, Boolean, Nothing, Table, Shape}
use Rattle.machine.specs.Words.{unpacked}
use Rattle.machine.specs.Layout.{shapes_used, declared, calls_used, running, frame, call_place, argument_place}
use Rattle.machine.specs.Act.{Raw, Out, done, stop, Act}
use Rattle.machine.specs.Act as Act
use Rattle.machine.specs.Shapes.{destroyed_at}
use Rattle.machine.specs.Groups.{destroy_all, destroy_living}
use Rattle.machine.specs.Variables.{number_of, holding_of, destroy_in, clear_from, clear_calls, clear_scene}
use Rattle.simulation.specs.Scope.{scope_of}
use Rattle.simulation.specs.Meant.{meant_value, listed, variable_at, frame_of, variables_of, frame_at, declared_at, running_at, waiting_of, suspended_of}
use Rattle.simulation.specs.Sound.{Valid, Framed}
use Rattle.simulation.specs.Follows.{Grants, Related, Follows}
use Rattle.simulation.proofs.Binding.{bind, give_after}
use Rattle.simulation.proofs.Listed.{listed_same}
use Rattle.simulation.proofs.Frames.{valid_later}
use Rattle.simulation.proofs.Results.{given, unmoved, onward}
use Rattle.simulation.proofs.Usable.{destroyed_found}
use Rattle.simulation.proofs.Chaining.{regroup}
use Rattle.simulation.proofs.Walking.{Reached}
use Rattle.simulation.proofs.Destroying.{Quiet, quiet_nil, quiet_on, destroys_all}

-- ---- acts
-- with the shape that a value is, unless it is destroyed
unfoldable pub living : (ℕ → Act (Unit {0})) → ℕ → Act (Unit {0})
living X i = Act.◌>>=◌ Act.held (λ ws. if destroyed_at ws i then (λ _. Act.give tt) otherwise λ _. X i)

unfoldable pub into : (ℕ → Act (Unit {0})) → Value → Act (Unit {0})
into X (Integer z) = Act.give tt
into X (Text h) = Act.give tt
into X (Boolean b) = Act.give tt
into X Nothing = Act.give tt
into X (Table t) = Act.give tt
into X (Shape i) = living X i

-- with those that the variables from the k-th declaration on hold, n of them, in the frame f
unfoldable pub over_from : (ℕ → Act (Unit {0})) → ℕ → ℕ → ℕ → Act (Unit {0})
over_from X f k zero = Act.give tt
over_from X f k (suc n) = Act.◌>>=◌ Act.held (λ ws. Act.◌>>◌ (into X (unpacked (holding_of ws f k))) (over_from X f (k + 1) n))

-- of n calls that wait, from the d-th on
unfoldable pub over_calls : (ℕ → Act (Unit {0})) → ℕ → ℕ → Act (Unit {0})
over_calls X d zero = Act.give tt
over_calls X d (suc n) = Act.◌>>=◌ (Act.load (call_place d)) (λ f. Act.◌>>=◌ (Act.load (call_place d + 1)) (λ m. Act.◌>>◌ (over_from X f 0 m) (over_calls X (d + 1) n)))

act_unit : (o : Out (Unit {0})) → Act.go_on o (λ _. Act.give tt) ≡ o
unfolding Act.go_on Act.give
act_unit (done a r) = refl
act_unit (stop n p r) = refl

-- what the slices tell of what came, step by step; texts and variables stay
pub record Tells (Acc : Raw → List Meaning.Figure → Raw → Type 0) : Type 0 where
  pub nil : (r : Raw) → Acc r [] r
  pub more : {r r₁ r₂ : Raw} {xs ys : List Meaning.Figure} → Acc r xs r₁ → Acc r₁ ys r₂ → Acc r (xs ++ ys) r₂
  pub quiet : {r r₁ : Raw} {xs : List Meaning.Figure} → Acc r xs r₁ → Quiet r xs r₁

pub quiet_tells : Tells Quiet
quiet_tells = record { nil = quiet_nil; more = λ a b. quiet_on _ a b; quiet = λ a. a }

module _ (program : List ℕ) (ts : List Token) (g : List ℕ) (granted : Amounts) (Acc : Raw → List Meaning.Figure → Raw → Type 0) (tells : Tells Acc) (X : ℕ → Act (Unit {0})) (D : ℕ
    → Run.Action (List Meaning.Figure)) where
  abbrev Here : Raw → State → Amounts → Type 0
  Here r s total = Related program ts g r s total

  abbrev Leads : Raw → Unit {0} → List Meaning.Figure → Raw → State → Amounts → Type 0
  Leads r a xs r' s total = Reached program ts g Acc 0 r xs r' s total

  -- what is done with a shape
  pub record Does : Type 0 where
    pub does : {r : Raw} {s : State} {total : Amounts} → Here r s total → (i : ℕ) → i < get_or r.words shapes_used 0 → Follows granted total (Leads r) (X i r) (D i s)

  -- what comes then
  abbrev Then : Raw → Act (Unit {0}) → List ℕ → Type 0
  Then r K rest = (xs : List Meaning.Figure) (r₁ : Raw) (s₁ : State) (total₁ : Amounts) → Reached program ts g Acc 0 r xs r₁ s₁ total₁
      → Follows granted total₁ (Leads r₁) (K r₁) (each D rest s₁)

  module _ (d : Does) where
    chained : {r r₁ r₂ : Raw} {xs ys : List Meaning.Figure} {s₁ s₂ : State} {total₁ total₂ : Amounts} → Reached program ts g Acc 0 r xs r₁ s₁ total₁
        → Reached program ts g Acc 0 r₁ ys r₂ s₂ total₂ → Reached program ts g Acc 0 r (xs ++ ys) r₂ s₂ total₂
    chained a b = record { after = onward a.after b.after; ways = λ e x y. absurd (omega arith); acc = tells.more a.acc b.acc }

    still : {r : Raw} {s : State} {total : Amounts} → Here r s total → Reached program ts g Acc 0 r [] r s total
    still {r} h = record { after = unmoved h; ways = λ e x y. absurd (omega arith); acc = tells.nil r }

    value_follows : {r : Raw} {s : State} {total : Amounts} → Here r s total → (v : Value) → Valid program r.words v → (K : Act (Unit {0})) (rest : List ℕ) → Then r K rest
        → Follows granted total (Leads r) (Act.go_on (into X v r) (λ _. K)) (each D (shape_in (meant_value program r.texts v) ++ rest) s)
    unfolding into living shape_in meant_value Valid each if◌then◌otherwise◌ Act.◌>>=◌ Act.go_on Act.held Act.give Run.◌>>=◌ Run.go_on Run.current Run.give
    value_follows h (Integer z) l K rest k = k [] _ _ _ (still h)
    value_follows h (Text t) l K rest k = k [] _ _ _ (still h)
    value_follows h (Boolean b) l K rest k = k [] _ _ _ (still h)
    value_follows h Nothing l K rest k = k [] _ _ _ (still h)
    value_follows h (Table t) l K rest k = k [] _ _ _ (still h)
    value_follows {r} {s} {total} h (Shape i) l K rest k =
        bind (one (destroyed_at r.words i) (is_destroyed s i) (sym (destroyed_found h i l)))
        (λ _ xs r₁ s₁ total₁ a. give_after (λ ys. xs ++ ys) (λ _ ys r₂ s₂ total₂ b. chained a b) (k xs r₁ s₁ total₁ a))
      where
        one : (b b' : Bool) → b ≡ b' → Follows granted total (Leads r) ((if b then (λ _. Act.give tt) otherwise λ _. X i) r) ((if b' then (λ _. Run.give []) otherwise λ _. D i) s)
        one true true e = given (still h)
        one true false e = let z : ◌≡◌ {A = ℕ} 0 1 = cc in absurd (omega arith)
        one false true e = let z : ◌≡◌ {A = ℕ} 0 1 = cc in absurd (omega arith)
        one false false e = d.does h i l

    -- ---- variables of a frame
    variables_left : {r r₁ : Raw} {xs : List Meaning.Figure} → Quiet r xs r₁ → (names : List (List ℕ)) (f k n : ℕ)
        → listed (variable_at program names r₁ f) k n ≡ listed (variable_at program names r f) k n
    unfolding variable_at
    variables_left {r} a names f k n = listed_same _ _ k n (λ j x y.
        rw (a.texts, a.low (argument_place (f + j)) (omega arith) (omega arith), a.low (argument_place (f + number_of r.words f j)) (omega arith) (omega arith)))

    over_follows : (names : List (List ℕ)) (f n k : ℕ) {r : Raw} {s : State} {total : Amounts} → Here r s total
        → ((j : ℕ) → k ≤ j → j < k + n → Valid program r.words (unpacked (holding_of r.words f j))) → (K : Act (Unit {0})) (rest : List ℕ) → Then r K rest
        → Follows granted total (Leads r) (Act.go_on (over_from X f k n r) (λ _. K)) (each D (shapes_held (listed (variable_at program names r f) k n) ++ rest) s)
    unfolding over_from listed shapes_held variable_at Act.◌>>=◌ Act.go_on Act.held Act.give
    over_follows names f zero k h o K rest t = t [] _ _ _ (still h)
    over_follows names f (suc n) k {r} {s} {total} h o K rest t =
        let v = unpacked (holding_of r.words f k) in
        rw (
          regroup (into X v r) (λ _. over_from X f (k + 1) n) (λ _. K),
          append_assoc (shape_in (meant_value program r.texts v)) (shapes_held (listed (variable_at program names r f) (suc k) n)) rest,
        )
        (value_follows h v (o k (omega arith) (omega arith)) (λ r₁. Act.go_on (over_from X f (k + 1) n r₁) (λ _. K)) (shapes_held (listed (variable_at program names r f) (suc k) n) ++ rest)
        (λ xs r₁ s₁ total₁ a.
        let q = tells.quiet a.acc in
        let e : listed (variable_at program names r₁ f) (k + 1) n ≡ listed (variable_at program names r f) (suc k) n =
        variables_left q names f (k + 1) n ∙ ap (λ j. listed (variable_at program names r f) j n) (add-one k) in
        rw e at (over_follows names f n (k + 1) a.after.related
        (λ j x y. rw (q.low (argument_place (f + j)) (omega arith) (omega arith), q.low (argument_place (f + number_of r.words f j)) (omega arith) (omega arith))
        (valid_later a.after.later _ (o j (omega arith) (omega arith))))
        K rest (λ ys r₂ s₂ total₂ b. t (xs ++ ys) r₂ s₂ total₂ (chained a b)))))

    -- what its declarations' variables hold
    all_valid : {ws : List ℕ} {f n size : ℕ} → Framed program ws f n size → (j : ℕ) → 0 ≤ j → j < 0 + n → Valid program ws (unpacked (holding_of ws f j))
    all_valid v j x y = v.holds _ (omega (arith, v.small j (omega arith)))

    -- all of the call under way, and no more
    pub variables_follow : {r : Raw} {s : State} {total : Amounts} → Here r s total
        → Follows granted total (Leads r) (over_from X (get_or r.words frame 0) 0 (get_or r.words declared 0) r) (each D (shapes_held s.variables) s)
    unfolding frame_of each Act.give Run.give
    variables_follow {r} {s} {total} h =
        let f = get_or r.words frame 0 in
        let n = get_or r.words declared 0 in
        let names = scope_of program ts (get_or r.words running 0) in
        subst (λ (l : List ℕ). Follows granted total (Leads r) (over_from X f 0 n r) (each D l s))
        (append-nil (shapes_held (listed (variable_at program names r f) 0 n)) ∙ ap shapes_held (sym h.variables))
        (rw (← act_unit (over_from X f 0 n r))
        (over_follows names f n 0 h (all_valid h.sound.variables.framed) (Act.give tt) [] (λ xs r₁ s₁ total₁ a. given (still a.after.related))))

    -- ---- variables of calls that wait
    calls_left : {r r₁ : Raw} {xs : List Meaning.Figure} → Quiet r xs r₁ → (k n : ℕ) → listed (waiting_of program ts r₁) k n ≡ listed (waiting_of program ts r) k n
    unfolding waiting_of frame_of
    calls_left {r} a k n = listed_same _ _ k n (λ j x y.
        rw (a.low (call_place j) (omega arith) (omega arith), a.low (call_place j + 1) (omega arith) (omega arith), a.low (call_place j + 2) (omega arith) (omega arith))
        (variables_left a (scope_of program ts (running_at r.words j)) (frame_at r.words j) 0 (declared_at r.words j)))

    waits_follow : (n d : ℕ) {r : Raw} {s : State} {total : Amounts} → Here r s total → 0 < d → ((j : ℕ) → d ≤ j → j < d + n → j < get_or r.words calls_used 0)
        → (K : Act (Unit {0})) (rest : List ℕ) → Then r K rest
        → Follows granted total (Leads r) (Act.go_on (over_calls X d n r) (λ _. K)) (each D (shapes_held_by (listed (waiting_of program ts r) d n) ++ rest) s)
    unfolding over_calls listed shapes_held_by waiting_of frame_of Act.◌>>=◌ Act.go_on Act.load Act.give
    waits_follow zero d h z o K rest t = t [] _ _ _ (still h)
    waits_follow (suc n) d {r} {s} {total} h z o K rest t =
        let f = frame_at r.words d in
        let m = declared_at r.words d in
        let names = scope_of program ts (running_at r.words d) in
        rw (
          regroup (over_from X f 0 m r) (λ _. over_calls X (d + 1) n) (λ _. K),
          append_assoc (shapes_held (listed (variable_at program names r f) 0 m)) (shapes_held_by (listed (waiting_of program ts r) (suc d) n)) rest,
        )
        (over_follows names f m 0 h (all_valid (h.sound.waiting.framed d z (o d (omega arith) (omega arith))))
        (λ r₁. Act.go_on (over_calls X (d + 1) n r₁) (λ _. K)) (shapes_held_by (listed (waiting_of program ts r) (suc d) n) ++ rest)
        (λ xs r₁ s₁ total₁ a.
        let e : listed (waiting_of program ts r₁) (d + 1) n ≡ listed (waiting_of program ts r) (suc d) n =
        calls_left (tells.quiet a.acc) (d + 1) n ∙ ap (λ j. listed (waiting_of program ts r) j n) (add-one d) in
        rw e at (waits_follow n (d + 1) a.after.related (omega arith) (λ j x y. rw a.after.untouched.calls (o j (omega arith) (omega arith)))
        K rest (λ ys r₂ s₂ total₂ b. t (xs ++ ys) r₂ s₂ total₂ (chained a b)))))

    -- of all calls, from main on
    abbrev Last : Act (Unit {0})
    Last r = over_from X (get_or r.words frame 0) 0 (get_or r.words declared 0) r

    pub calls_follow : {r : Raw} {s : State} {total : Amounts} → Here r s total
        → Follows granted total (Leads r) (Act.go_on (over_calls X 1 (get_or r.words calls_used 0 - 1) r) (λ _. Last)) (each D (shapes_held_by s.suspended ++ shapes_held s.variables) s)
    unfolding suspended_of frame_of
    calls_follow {r} {s} {total} h =
        subst (λ (l : List (List Variable)). Follows granted total (Leads r)
        (Act.go_on (over_calls X 1 (get_or r.words calls_used 0 - 1) r) (λ _. Last)) (each D (shapes_held_by l ++ shapes_held s.variables) s))
        (sym h.suspended)
        (waits_follow (get_or r.words calls_used 0 - 1) 1 h (omega arith) (λ j x y. omega arith) Last (shapes_held s.variables)
        (λ xs r₁ s₁ total₁ a.
        let u = a.after.untouched in
        let same : s₁.variables ≡ s.variables = a.after.related.variables ∙ kept (tells.quiet a.acc) u.frame u.running ∙ sym h.variables in
        subst (λ (l : List Variable). Follows granted total₁ (Leads r₁) (Last r₁) (each D (shapes_held l) s₁)) same (variables_follow a.after.related)))
      where
        kept : {r₁ : Raw} {xs : List Meaning.Figure} → Quiet r xs r₁ → get_or r₁.words frame 0 ≡ get_or r.words frame 0
            → get_or r₁.words running 0 ≡ get_or r.words running 0 → variables_of program ts r₁ ≡ variables_of program ts r
        kept q e n =
            rw (q.declared, e, n)
            (variables_left q (scope_of program ts (get_or r.words running 0)) (get_or r.words frame 0) 0 (get_or r.words declared 0))

-- ---- shapes destroyed
module _ (g : List ℕ) (p : ℕ) where
  destroyed_in : (v : Value) → destroy_in g p v ≡ into (destroy_all g p) v
  unfolding destroy_in destroy_living into living
  destroyed_in (Integer z) = refl
  destroyed_in (Text h) = refl
  destroyed_in (Boolean b) = refl
  destroyed_in Nothing = refl
  destroyed_in (Table t) = refl
  destroyed_in (Shape i) = refl

  cleared_from : (n f k : ℕ) → clear_from g p f k n ≡ over_from (destroy_all g p) f k n
  unfolding clear_from over_from
  cleared_from zero f k = refl
  cleared_from (suc n) f k =
      ap (λ (a : List ℕ → Act (Unit {0})). Act.◌>>=◌ Act.held a) (λ i ws. Act.◌>>◌ (destroyed_in (unpacked (holding_of ws f k)) i) (cleared_from n f (k + 1) i))

  cleared_calls : (n d : ℕ) → clear_calls g p d n ≡ over_calls (destroy_all g p) d n
  unfolding clear_calls over_calls
  cleared_calls zero d = refl
  cleared_calls (suc n) d =
      ap (λ (a : ℕ → ℕ → Act (Unit {0})). Act.◌>>=◌ (Act.load (call_place d)) (λ f. Act.◌>>=◌ (Act.load (call_place d + 1)) (a f)))
      (λ i f m. Act.◌>>◌ (cleared_from m f 0 i) (cleared_calls n (d + 1) i))

pub clears : (program : List ℕ) (ts : List Token) (g : List ℕ) {granted : Amounts} (gr : Grants g granted) (p : ℕ) {r : Raw} {s : State} {total : Amounts} → Related program ts g r s total
    → Follows granted total (λ _ xs r' s' total'. Reached program ts g Quiet 0 r xs r' s' total') (clear_scene g p r)
    (each (λ i. destroying (suc i) p i) (shapes_held_by s.suspended ++ shapes_held s.variables) s)
unfolding clear_scene Act.◌>>=◌ Act.go_on Act.load
clears program ts g {granted} gr p {r} {s} {total} h =
    subst (λ (a : ℕ → ℕ → Act (Unit {0})). Follows granted total (λ _ xs r' s' total'. Reached program ts g Quiet 0 r xs r' s' total')
    (Act.go_on (a 1 (get_or r.words calls_used 0 - 1) r) (λ _ r₁. clear_from g p (get_or r₁.words frame 0) 0 (get_or r₁.words declared 0) r₁))
    (each (λ i. destroying (suc i) p i) (shapes_held_by s.suspended ++ shapes_held s.variables) s)) (sym (λ i d n. cleared_calls g p n d i))
    (subst (λ (a : ℕ → ℕ → ℕ → Act (Unit {0})). Follows granted total (λ _ xs r' s' total'. Reached program ts g Quiet 0 r xs r' s' total')
    (Act.go_on (over_calls (destroy_all g p) 1 (get_or r.words calls_used 0 - 1) r) (λ _ r₁. a (get_or r₁.words frame 0) 0 (get_or r₁.words declared 0) r₁))
    (each (λ i. destroying (suc i) p i) (shapes_held_by s.suspended ++ shapes_held s.variables) s)) (sym (λ i f k n. cleared_from g p n f k i))
    (calls_follow program ts g granted Quiet quiet_tells (destroy_all g p) (λ i. destroying (suc i) p i) (record { does = λ h i l. destroys_all program ts g gr p h i l }) h))
