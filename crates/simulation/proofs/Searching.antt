-- What a search for the next figure finds, among the components of a group and in groups among them.
use Prim.Native.Nat.{ℕ, zero, suc, ◌+◌, ◌-◌, ◌*◌, ◌^◌, ◌≤◌, ◌<◌}
use native.Mathlib.Omega.{arith}
use native.Mathlib.Nat.{le_trans}
use mathlib.Core.Path.{◌≡◌, refl, ap, sym, ◌∙◌}
use mathlib.Core.Bool.{Bool, true, false, cond}
use mathlib.Core.List.{List, [], ◌∷◌}
use lib.ListN.{get_or, set}
use lib.Dec.{eqb}
use borrow.Author.Tests.{ne_eqb}
use Rattle.meaning.specs.Basics.{if◌then◌otherwise◌}
use Rattle.meaning.specs.Token.{Token}
use Rattle.meaning.specs.State.{State}
use Rattle.meaning.specs.Run as Run
use Rattle.meaning.specs.Book.{Amounts}
use Rattle.meaning.specs.Execute.{Flow, continue, iterating}
use Rattle.machine.specs.Layout.{shapes_used, calls_used, components_made, loop_unit, shapes_granted}
use Rattle.machine.specs.Act.{Raw, raw, Out, done, Act}
use Rattle.machine.specs.Act as Act
use Rattle.machine.specs.Shapes.{is_group_at, destroyed_at}
use Rattle.machine.specs.Groups.{component_at, followers_at, first_at, count_at, way_word, way_place}
use Rattle.machine.specs.Loops.{hollow_at, mark, unmark, hollow, look_from, look_under, look_in}
use Rattle.simulation.specs.Sound.{Shapes}
use Rattle.simulation.specs.Follows.{Related}
use Rattle.simulation.proofs.Frames.{group_stays, component_later, first_later, count_later, figures_none}
use Rattle.simulation.proofs.Results.{unmoved}
use Rattle.simulation.proofs.Chaining.{regroup}
use Rattle.simulation.proofs.Walking.{spare_way, spare_after}
use Rattle.simulation.proofs.Hollowing.{emptied, hollows, Bare, BareFrom, bare_nothing, bare_destroyed, bare_first, bare_group, bare_hollow}
use Rattle.simulation.proofs.Marking.{mark_at, AfterBut, but_after, but_trans, remarked, marks, few_more, mark_is, few_less, unmark_is}
use Rattle.simulation.proofs.Paths.{is_in, Path, path_after, path_marked, path_unmarked}
use Rattle.simulation.proofs.Remaining.{Stop, slots, level, remaining, Level, next_up, Way, None, Outcome, found, none, Sought}
use Rattle.simulation.proofs.RemainingLaws.{way_below, level_later, level_stays, way_later, remaining_later}
use Rattle.simulation.proofs.Looping.{idle}
use Rattle.simulation.proofs.Levels.{after_nothing, iterated, left_none, left_past, left_idle, left_figure, left_group, behind_it}

-- ---- slots
-- those on the way up are other ones
pub fresh : (g ws : List ℕ) (end k : ℕ) (ways : List Stop) → Way g ws end ways → k < next_up end ways → is_in k (slots ways) ≡ false
unfolding Way next_up is_in slots
fresh g ws end k [] w l = refl
fresh g ws end k (at ∷ ways) w l = rw (ne_eqb at.slot k (λ e. omega arith)) (fresh g ws end k ways w.1 (omega (arith, w.0.below)))

-- all but the first
level_tail : {g ws : List ℕ} {b k n up : ℕ} → Level g ws b k (suc n) up → Level g ws b (k + 1) n up
level_tail a = record {
  below = omega (arith, a.below);
  known = a.known;
  older = λ j x y. a.older j (omega arith) (omega arith);
  follow = λ j x y. omega (arith, a.follow j (omega arith) (omega arith));
  inner = λ j x y e. omega (arith, a.inner j (omega arith) (omega arith) e);
}

-- a group's own
pub own_level : {program g ws : List ℕ} → Shapes program g ws → (b c up : ℕ) → c < get_or ws shapes_used 0 → is_group_at ws c ≡ true → c ≤ b → b ≤ get_or ws shapes_used 0
    → first_at ws c + count_at ws c ≤ up → Level g ws b (first_at ws c) (count_at ws c) up
own_level {g = g} {ws = ws} shapes b c up l n x y z = let a = shapes.groups c l n in record {
  below = z;
  known = y;
  older = λ j u v. le_trans (a.older j u v) x;
  follow = a.follow;
  inner = λ j u v e. shapes.order (component_at g ws j) c (a.older j u v) l e n;
}

module _ (program : List ℕ) (ts : List Token) (g : List ℕ) (body : ℕ → Run.Action Flow) (around : ℕ → ℕ) (unit end : ℕ) (s : State) (total : Amounts) where
  -- the loop is under way, with these slots marked
  pub record Ready (ways : List Stop) (r : Raw) : Type 0 where
    pub related : Related program ts g r s total
    pub some : 0 < get_or r.words calls_used 0
    pub unit_is : get_or r.words loop_unit 0 ≡ unit
    pub in_end : end ≤ get_or r.words components_made 0
    pub way : Way g r.words end ways
    pub path : Path g around unit (slots ways) r

  abbrev pub left_at : Raw → List Stop → ℕ → ℕ → ℕ → Run.Action Flow
  left_at r ways b k n = Run.◌>>=◌ (level g r.words body b k n) (λ f. continue f (remaining g r.words body ways))

  abbrev pub Leads : Raw → Raw → Type 0
  Leads r r' = AfterBut program ts g r r' s total

  abbrev pub Seeks : Raw → Run.Action Flow → List Stop → Out ℕ → Type 0
  Seeks r left ways o = Sought program ts g body around unit end r s total left ways o

  -- and if nothing is found, no figure is left there
  record Searched (k n : ℕ) (r : Raw) (left : Run.Action Flow) (ways : List Stop) (o : Out ℕ) : Type 0 where
    sought : Seeks r left ways o
    bare : sought.result ≡ 0 → BareFrom g sought.slices.words k n

  -- ---- from one place on to another
  pub outcome_from : {r : Raw} {left left' : Run.Action Flow} {ways : List Stop} {x : ℕ} → left s ≡ left' s → Outcome program ts g body around unit end r s left' ways x
      → Outcome program ts g body around unit end r s left ways x
  outcome_from e (found at up f) =
      found at up (record { path = f.path; way = f.way; younger = f.younger; figure = f.figure; living = f.living; first = e ∙ f.first })
  outcome_from e (none n) = none (record { path = n.path; rest = e ∙ n.rest })

  abbrev pub sought_from : {r r' : Raw} {left left' : Run.Action Flow} {ways : List Stop} {o : Out ℕ} → Leads r r' → left s ≡ left' s → Seeks r' left' ways o → Seeks r left ways o
  sought_from a e x = record { result = x.result; slices = x.slices; is = x.is; after = but_trans a x.after; outcome = outcome_from e x.outcome }

  module _ {r r' : Raw} {ways : List Stop} (y : Ready ways r) (a : Leads r r') where
    pub ready_later : (ways' : List Stop) → Way g r.words end ways' → Path g around unit (slots ways') r' → Ready ways' r'
    ready_later ways' w p = record {
      related = a.related;
      some = rw a.calls y.some;
      unit_is = a.unit ∙ y.unit_is;
      in_end = le_trans y.in_end a.parts.made;
      way = way_later a.later y.related.sound.shapes a.parts end ways' w y.in_end;
      path = p;
    }

    left_there : (ways' : List Stop) → Way g r.words end ways' → (b k n : ℕ) → k + n ≤ get_or r.words components_made 0 → left_at r' ways' b k n ≡ left_at r ways' b k n
    left_there ways' w b k n l =
        rw (level_later a.later y.related.sound.shapes a.parts body b k n l, remaining_later a.later y.related.sound.shapes a.parts body end ways' w y.in_end)

  -- ---- marks
  pub record Stepped (ks : List ℕ) (r : Raw) (o : Out (Unit {0})) : Type 0 where
    pub slices : Raw
    pub is : o ≡ done tt slices
    pub after : Leads r slices
    pub path : Path g around unit ks slices

  pub in_store : {r : Raw} {ways : List Stop} → Ready ways r → (k : ℕ) → k < next_up end ways → k < get_or r.words components_made 0
  in_store {r} {ways} y k l = omega (arith, way_below g r.words end ways y.way, y.in_end)

  pub in_upper : {r : Raw} {at : Stop} {ways : List Stop} → Ready (at ∷ ways) r → at.slot < get_or r.words components_made 0
  unfolding Way next_up
  in_upper {r} {at} {ways} y = omega (arith, way_below g r.words end ways y.way.1, y.way.0.below, y.in_end)

  -- a slot on the way down, which is noted
  goes_down : {r : Raw} {ways : List Stop} → Ready ways r → 2 * unit ≤ 2 ^ 64 → (k : ℕ) → k < next_up end ways → (d x : ℕ) → d < shapes_granted g
      → Stepped (k ∷ slots ways) r (Act.◌>>◌ (mark g k) (Act.store (way_place d) x) r)
  unfolding Act.◌>>=◌ Act.go_on Act.store
  goes_down {r} {ways} y fits k l d x deep =
      let h = y.related in
      let inside = in_store y k l in
      let new = fresh g r.words end k ways y.way l in
      let was : mark_at g r k ≡ around k + cond (is_in k (slots ways)) unit 0 = y.path.each k in
      let was' : mark_at g r k ≡ around k + 0 = rw new at was in
      let free : mark_at g r k < get_or r.words loop_unit 0 = omega (arith, was', y.path.less k, y.unit_is) in
      let fits' : 2 * get_or r.words loop_unit 0 ≤ 2 ^ 64 = rw y.unit_is fits in
      let m = mark_at g r k + get_or r.words loop_unit 0 in
      let few = few_more h y.some k inside free fits' in
      let a = marks h y.some k inside m few in
      let b = spare_after a.related (way_place d) x (spare_way d 3 deep (omega arith) (omega arith)) in
      let p = path_marked h y.some k inside m few (slots ways) y.path new (ap (λ (u : ℕ). mark_at g r k + u) y.unit_is) in
      record {
        slices = raw r.texts (set (remarked h y.some k inside m few).words (way_place d) x);
        is = rw (mark_is h y.some k inside free fits');
        after = but_trans a (but_after b);
        path = path_after b (rw a.calls y.some) p;
      }

  -- one on the way up
  pub goes_up : {r : Raw} {at : Stop} {ways : List Stop} → Ready (at ∷ ways) r → Stepped (slots ways) r (unmark g at.slot r)
  unfolding Way next_up slots
  goes_up {r} {at} {ways} y =
      let h = y.related in
      let l : at.slot < next_up end ways = omega (arith, y.way.0.below) in
      let inside : at.slot < get_or r.words components_made 0 = in_upper y in
      let new = fresh g r.words end at.slot ways y.way.1 l in
      let few = few_less h y.some at.slot inside in
      let m = mark_at g r at.slot - get_or r.words loop_unit 0 in
      record {
        slices = remarked h y.some at.slot inside m few;
        is = unmark_is h y.some at.slot inside;
        after = marks h y.some at.slot inside m few;
        path = path_unmarked h y.some at.slot inside m few (slots ways) y.path new (ap (λ (u : ℕ). mark_at g r at.slot - u) y.unit_is);
      }

  -- and in a group that holds no figure
  leaves : {r : Raw} {at : Stop} {ways : List Stop} → Ready (at ∷ ways) r → (c : ℕ) → c < get_or r.words shapes_used 0 → is_group_at r.words c ≡ true → Bare g r.words c
      → Stepped (slots ways) r (Act.◌>>◌ (unmark g at.slot) (hollow c) r)
  unfolding Act.◌>>=◌ Act.go_on Act.store hollow Bare
  leaves {r} y c l n e =
      let a = goes_up y in
      let l' = le_trans l a.after.later.shapes in
      let n' = group_stays (a.after.later.figures c l) ∙ n in
      let e' = figures_none a.after.later y.related.sound.shapes a.after.parts (suc c) c l (e (suc c)) in
      let b = hollows a.after.related c l' n' e' in
      record {
        slices = emptied a.after.related c l' n' e';
        is = rw a.is;
        after = but_trans a.after (but_after b);
        path = path_after b (rw a.after.calls y.some) a.path;
      }

  -- ---- the search
  nothing : {r : Raw} {ways : List Stop} → Ready ways r → (b k : ℕ) → Searched k 0 r (left_at r ways b k 0) ways (done 0 r)
  nothing {r} {ways} y b k = record {
    sought = record { result = 0; slices = r; is = refl; after = but_after (unmoved y.related); outcome = none (record { path = y.path; rest = left_none y.related body ways b k }) };
    bare = λ q. bare_nothing g r.words k;
  }

  -- in a group, as deep as a bound
  abbrev under : ℕ → ℕ → ℕ → Act ℕ
  under bound d c = Act.◌>>=◌ Act.held (λ ws. look_under bound g (d + 1) (first_at ws c) (count_at ws c))

  abbrev Finds : ℕ → ℕ → Type 0
  Finds bound d = (b k n : ℕ) (ways : List Stop) (r : Raw) → b ≤ bound → Ready ways r → Level g r.words b k n (next_up end ways)
      → Searched k n r (left_at r ways b k n) ways (look_under bound g d k n r)

  module _ (fits : 2 * unit ≤ 2 ^ 64) (bound d : ℕ) (deep : d < shapes_granted g) (again : Finds bound (d + 1)) where
    -- at the first component
    module _ (b n k : ℕ) (ways : List Stop) (r : Raw) (few : b ≤ suc bound) (y : Ready ways r) (lev : Level g r.words b k (suc n) (next_up end ways))
        (next : (r' : Raw) → Ready ways r' → Level g r'.words b (k + 1) n (next_up end ways)
        → Searched (k + 1) n r' (left_at r' ways b (k + 1) n) ways (look_from (under bound d) g d (k + 1) n r')) where
      abbrev c : ℕ
      c = component_at g r.words k

      abbrev shapes : Shapes program g r.words
      shapes = y.related.sound.shapes

      abbrev here : Stop
      here = record { slot = k; depth = b }

      older : c < b
      older = lev.older k (omega arith) (omega arith)

      made : c < get_or r.words shapes_used 0
      made = le_trans older lev.known

      follows : followers_at g r.words k ≡ n
      follows = omega (arith, lev.follow k (omega arith) (omega arith))

      in_use : k + suc n ≤ get_or r.words components_made 0
      in_use = omega (arith, lev.below, way_below g r.words end ways y.way, y.in_end)

      way_down : Way g r.words end (here ∷ ways)
      unfolding Way
      way_down = (rw follows (level_tail lev), y.way)

      same : {r' : Raw} → Leads r r' → component_at g r'.words k ≡ c
      same a = component_later a.later shapes a.parts k (omega (arith, in_use))

      -- it is passed over
      passed : left_at r ways b k (suc n) s ≡ left_at r ways b (k + 1) n s → ((r' : Raw) → Leads r r' → BareFrom g r'.words (k + 1) n → BareFrom g r'.words k (suc n))
          → Searched k (suc n) r (left_at r ways b k (suc n)) ways (look_from (under bound d) g d (k + 1) n r)
      passed e f =
          let x = next r y (level_tail lev) in
          record { sought = sought_from (but_after (unmoved y.related)) e x.sought; bare = λ q. f x.sought.slices x.sought.after (x.bare q) }

      at_figure : destroyed_at r.words c ≡ false → is_group_at r.words c ≡ false → Searched k (suc n) r (left_at r ways b k (suc n)) ways (done (k + 1) r)
      at_figure x e = record {
        sought = record {
          result = k + 1;
          slices = r;
          is = refl;
          after = but_after (unmoved y.related);
          outcome = found here ways (record {
            path = y.path;
            way = way_down;
            younger = made;
            figure = e;
            living = x;
            first = left_figure y.related body ways b k n made follows (omega (arith, older)) x e;
          });
        };
        bare = λ q. absurd (omega arith);
      }

      -- behind the look into a group
      abbrev resumed : ℕ → Act ℕ
      resumed x = Act.◌>>=◌ Act.held (λ ws'. if eqb x 0 then (λ _. Act.◌>>◌ (Act.◌>>◌ (unmark g k) (hollow (component_at g ws' k))) (look_from (under bound d) g d (k + 1) n)) otherwise λ _. Act.give x)

      module _ (living : destroyed_at r.words c ≡ false) (grouped : is_group_at r.words c ≡ true) where
        no_more : (left' : Run.Action Flow) (r₃ : Raw) (a : Leads r r₃) → left_at r ways b k (suc n) s ≡ left' s → None program ts g body around unit end r₃ s left' (here ∷ ways)
            → BareFrom g r₃.words (first_at r.words c) (count_at r.words c) → Searched k (suc n) r (left_at r ways b k (suc n)) ways (resumed 0 r₃)
        unfolding Act.◌>>=◌ Act.go_on Act.held if◌then◌otherwise◌ Bare
        no_more left' r₃ a e f bare =
            let y₃ = ready_later y a (here ∷ ways) way_down f.path in
            let l₃ = le_trans made a.later.shapes in
            let n₃ = group_stays (a.later.figures c made) ∙ grouped in
            let q = first_later a.later shapes a.parts c made in
            let q' = count_later a.later shapes a.parts c made in
            let empty : Bare g r₃.words c = bare_group g r₃.words c n₃ (rw (q, q') bare) in
            let z = leaves y₃ c l₃ n₃ empty in
            let a₅ = but_trans a z.after in
            let v = next z.slices (ready_later y a₅ ways y.way z.path) (level_stays a₅.later shapes a₅.parts (omega (arith, in_use)) (level_tail lev)) in
            let rest = remaining_later a.later shapes a.parts body end (here ∷ ways) way_down y.in_end ∙ behind_it y.related body ways b k n made follows
            ∙ sym (left_there y a₅ ways y.way b (k + 1) n (omega (arith, in_use))) in
            let on = but_trans z.after v.sought.after in
            rw (same a, z.is) (record {
              sought = sought_from a₅ (e ∙ f.rest ∙ ap (λ (m : Run.Action Flow). m s) rest) v.sought;
              bare = λ x. bare_first g v.sought.slices.words k n
                  (rw (same (but_trans a on)) (λ m. figures_none on.later y₃.related.sound.shapes on.parts m c l₃ (empty m))) (v.bare x);
            })

        back : (left' : Run.Action Flow) (x : ℕ) (r₃ : Raw) → Leads r r₃ → left_at r ways b k (suc n) s ≡ left' s → Outcome program ts g body around unit end r₃ s left' (here ∷ ways) x
            → (x ≡ 0 → BareFrom g r₃.words (first_at r.words c) (count_at r.words c)) → Searched k (suc n) r (left_at r ways b k (suc n)) ways (resumed x r₃)
        unfolding Act.◌>>=◌ Act.go_on Act.held Act.give if◌then◌otherwise◌
        back left' _ r₃ a e (found at up f) bare =
            rw (ne_eqb (at.slot + 1) 0 (λ z. omega arith)) (record {
              sought = record { result = at.slot + 1; slices = r₃; is = refl; after = a; outcome = outcome_from e (found at up f) };
              bare = λ q. absurd (omega arith);
            })
        back left' _ r₃ a e (none f) bare = no_more left' r₃ a e f (bare refl)

        at_group : Searched k (suc n) r (left_at r ways b k (suc n)) ways
            (Act.◌>>◌ (mark g k) (Act.◌>>◌ (Act.store (way_place d) (way_word k n 0)) (Act.◌>>=◌ (under bound d c) resumed)) r)
        unfolding Act.◌>>=◌ Act.go_on Act.held next_up slots
        at_group =
            let p = goes_down y fits k (omega (arith, lev.below)) d (way_word k n 0) deep in
            let a = p.after in
            let y₂ = ready_later y a (here ∷ ways) way_down p.path in
            let own = own_level shapes (b - 1) c k made grouped (omega (arith, older)) (omega (arith, lev.known)) (lev.inner k (omega arith) (omega arith) grouped) in
            let room : first_at r.words c + count_at r.words c ≤ get_or r.words components_made 0 = (shapes.groups c made grouped).within in
            let x = again (b - 1) (first_at r.words c) (count_at r.words c) (here ∷ ways) p.slices (omega arith) y₂ (level_stays a.later shapes a.parts room own) in
            let q = first_later a.later shapes a.parts c made in
            let q' = count_later a.later shapes a.parts c made in
            let e = left_group y.related body ways b k n made (b - 1) (omega (arith, older)) follows living grouped
            ∙ ap (λ (m : Run.Action Flow). m s) (sym (left_there y a (here ∷ ways) way_down (b - 1) (first_at r.words c) (count_at r.words c) room)) in
            rw (sym (regroup (mark g k r) (λ _. Act.store (way_place d) (way_word k n 0)) (λ _. Act.◌>>=◌ (under bound d c) resumed)), p.is, q, q', x.sought.is)
            (back _ x.sought.result x.sought.slices (but_trans a x.sought.after) e x.sought.outcome x.bare)

      first_done : Searched k (suc n) r (left_at r ways b k (suc n)) ways (look_from (under bound d) g d k (suc n) r)
      unfolding look_from Act.◌>>=◌ Act.go_on Act.held Act.give if◌then◌otherwise◌ Bare
      first_done = go (destroyed_at r.words c) refl (is_group_at r.words c) refl (hollow_at r.words c) refl
        where
          go : (x : Bool) → destroyed_at r.words c ≡ x → (t : Bool) → is_group_at r.words c ≡ t → (w : Bool) → hollow_at r.words c ≡ w
              → Searched k (suc n) r (left_at r ways b k (suc n)) ways (look_from (under bound d) g d k (suc n) r)
          go true x t e w q =
              rw x (passed (left_past y.related body ways b k n made x)
              (λ r' a rest. bare_destroyed g r'.words k n (rw (same a) ((a.later.figures c made).dead x)) rest))
          go false x true e true q =
              rw (x, e, q)
              (passed (left_idle y.related body ways b k n made x (idle y.related body (suc c) b c made (omega arith) older (shapes.hollow c made e q)))
              (λ r' a rest. bare_first g r'.words k n (rw (same a) (λ m. figures_none a.later shapes a.parts m c made (bare_hollow shapes c made e q m))) rest))
          go false x true e false q = rw (x, e, q) (at_group x e)
          go false x false e w q = rw (x, e) (at_figure x e)

    look_from_lem : (b n k : ℕ) (ways : List Stop) (r : Raw) → b ≤ suc bound → Ready ways r → Level g r.words b k n (next_up end ways)
        → Searched k n r (left_at r ways b k n) ways (look_from (under bound d) g d k n r)
    unfolding look_from Act.give
    look_from_lem b zero k ways r few y lev = nothing y b k
    look_from_lem b (suc n) k ways r few y lev = first_done b n k ways r few y lev (λ r' y' lev'. look_from_lem b n (k + 1) ways r' few y' lev')

  look_under_lem : 2 * unit ≤ 2 ^ 64 → (bound d : ℕ) → bound + d ≤ shapes_granted g → Finds bound d
  unfolding look_under Act.give
  look_under_lem fits zero d l b k zero ways r few y lev = nothing y b k
  look_under_lem fits zero d l b k (suc n) ways r few y lev = absurd (omega (arith, lev.older k (omega arith) (omega arith)))
  look_under_lem fits (suc bound) d l b k n ways r few y lev = look_from_lem fits bound d (omega arith) (look_under_lem fits bound (d + 1) (omega arith)) b n k ways r few y lev

module _ {program : List ℕ} {ts : List Token} {g : List ℕ} (body : ℕ → Run.Action Flow) {around : ℕ → ℕ} {unit : ℕ} (end : ℕ) (fits : 2 * unit ≤ 2 ^ 64)
    {r : Raw} {s : State} {total : Amounts} (h : Related program ts g r s total) (some : 0 < get_or r.words calls_used 0) (u : get_or r.words loop_unit 0 ≡ unit)
    (in_end : end ≤ get_or r.words components_made 0) where
  -- among n components from slot k on, and in groups among them
  pub look : (ways : List Stop) → Path g around unit (slots ways) r → Way g r.words end ways → (b k n : ℕ) → Level g r.words b k n (next_up end ways)
      → Sought program ts g body around unit end r s total (Run.◌>>=◌ (level g r.words body b k n) (λ f. continue f (remaining g r.words body ways))) ways
      (look_under (shapes_granted g) g 0 k n r)
  look ways path way b k n lev =
      (look_under_lem program ts g body around unit end s total fits (shapes_granted g) 0 (omega arith) b k n ways r (le_trans lev.known h.sound.counted.shapes)
      (record { related = h; some = some; unit_is = u; in_end = in_end; way = way; path = path }) lev).sought

  -- in a group whose slots lie before the end
  pub look_in_lem : (c : ℕ) → c < get_or r.words shapes_used 0 → is_group_at r.words c ≡ true → first_at r.words c + count_at r.words c ≤ end → Path g around unit [] r
      → Sought program ts g body around unit end r s total (iterating (suc c) body c) [] (look_in g c r)
  unfolding look_in Act.◌>>=◌ Act.go_on Act.held Run.◌>>=◌ Way next_up slots remaining
  look_in_lem c l grouped before path =
      sought_from program ts g body around unit end s total (but_after (unmoved h))
      (iterated h body c c l grouped ∙ sym (after_nothing (level g r.words body c (first_at r.words c) (count_at r.words c) s)))
      (look [] path tt c (first_at r.words c) (count_at r.words c) (own_level h.sound.shapes c c end l grouped (omega arith) (omega arith) before))
