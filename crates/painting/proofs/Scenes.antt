-- The figures that the specified run gathers are those that the stores hold.
use Prim.Native.Nat.{ℕ, zero, suc, ◌+◌, ◌≤◌, ◌<◌}
use native.Mathlib.Omega.{arith}
use native.Mathlib.Numerals.{add-one}
use mathlib.Core.Path.{◌≡◌, refl, ap, ap₂, sym, ◌∙◌}
use mathlib.Core.Bool.{Bool, true, false, not, ◌&&◌}
use mathlib.Core.List.{List, [], ◌∷◌, ◌++◌, append-nil, append_assoc}
use lib.ListN.{length, get_or, length-append}
use lib.Dec.{eqb}
use borrow.Author.Tests.{eqb-true, eqb-false, ne_eqb}
use Rattle.meaning.specs.Basics.{if◌then◌otherwise◌}
use Rattle.meaning.specs.Token.{Token}
use Rattle.meaning.specs.Figure as Meaning
use Rattle.meaning.specs.Value as Value
use Rattle.meaning.specs.State.{State, Variable, Content, atom, group, content_of, by_content, is_destroyed, shape_in, shapes_held}
use Rattle.meaning.specs.Run.{steps, result, Run, Action}
use Rattle.meaning.specs.Run as Run
use Rattle.meaning.specs.Book.{Amounts, resource_number}
use Rattle.meaning.specs.Group.{each, figures_of}
use Rattle.meaning.proofs.BookLaws.{part, spent, spent_append}
use Rattle.machine.specs.declared.Value.TheVariants.{Shape}
use Rattle.machine.specs.Words.{kind_in, number_in, unpacked}
use Rattle.values.proofs.Laws.{by_kind}
use Rattle.machine.specs.Layout.{declared, shapes_used, running, frame, shapes_granted}
use Rattle.machine.specs.Act.{Raw}
use Rattle.machine.specs.Texts.{text_of}
use Rattle.machine.specs.Shapes.{is_group_at, destroyed_at, figure_at}
use Rattle.machine.specs.Groups.{component_at, first_at, count_at}
use Rattle.machine.specs.Show.{shown_from, figures_in}
use Rattle.machine.specs.declared.Figure.{Figure}
use Rattle.picture.specs.Parts.{figure_from}
use Rattle.scene.specs.Scene.{figure_for, figures_for, shown_by, word_of, shown_first, scene_in}
use Rattle.machine.specs.Variables.{number_of}
use Rattle.simulation.specs.Scope.{scope_of}
use Rattle.simulation.specs.Meant.{meant_value, meant_figure, listed, variable_at, frame_of, components_of}
use Rattle.simulation.specs.Sound.{Valid}
use Rattle.simulation.specs.Follows.{Related}
use Rattle.simulation.proofs.Listed.{listed_more}
use Rattle.simulation.proofs.Usable.{figure_found, group_found, destroyed_found}

-- ---- what shapes show in a state
-- those of some shapes that are not destroyed, one after the other
unfoldable pub among : (ℕ → List Meaning.Figure) → State → List ℕ → List Meaning.Figure
among inside s [] = []
among inside s (i ∷ is) = (if is_destroyed s i then (λ _. []) otherwise λ _. inside i) ++ among inside s is

-- a figure itself, or those in a group; b as in `figures_of`
unfoldable pub showing : ℕ → State → ℕ → List Meaning.Figure
showing zero s i = []
showing (suc b) s i = by_content (content_of s i) (λ a. a ∷ []) (among (showing b s) s)

-- ---- the run gathers them
-- the state stays, and for all but n of the figures a step is counted
pub record Gathers (s : State) (n : ℕ) (xs : List Meaning.Figure) (m : Run (List Meaning.Figure)) : Type 0 where
  pub end : m.end ≡ result xs s
  pub few : length xs ≤ n + spent steps m.takings

-- n for each of a list
unfoldable each_of : ℕ → List ℕ → ℕ
each_of n [] = 0
each_of n (i ∷ is) = n + each_of n is

none_each : (is : List ℕ) → each_of 0 is ≡ 0
unfolding each_of
none_each [] = refl
none_each (i ∷ is) = omega (arith, none_each is)

one_each : (is : List ℕ) → each_of 1 is ≡ length is
unfolding each_of
one_each [] = refl
one_each (i ∷ is) = omega (arith, one_each is)

module _ (visit : ℕ → Action (List Meaning.Figure)) (inside : ℕ → List Meaning.Figure) (n : ℕ) (s : State) (f : (i : ℕ) → Gathers s n (inside i) (visit i s)) where
  each_gathers : (is : List ℕ) → Gathers s (each_of n is) (among inside s is) (each visit is s)
  unfolding each among each_of spent if◌then◌otherwise◌ Run.◌>>=◌ Run.go_on Run.current Run.give
  each_gathers [] = record { end = refl; few = omega arith }
  each_gathers (i ∷ is) =
      let a = one (is_destroyed s i) in
      let b = each_gathers is in
      record {
        end = rw (a.end, b.end);
        few = rw (a.end, b.end) (omega (
          arith,
          a.few,
          b.few,
          spent_append steps (first (is_destroyed s i)).takings ((each visit is s).takings ++ []),
          spent_append steps (each visit is s).takings [],
          length-append (if is_destroyed s i then (λ _. []) otherwise λ _. inside i) (among inside s is),
        ));
      }
    where
      first : Bool → Run (List Meaning.Figure)
      first b = (if b then (λ _. Run.give []) otherwise λ _. visit i) s

      one : (b : Bool) → Gathers s n (if b then (λ _. []) otherwise λ _. inside i) ((if b then (λ _. Run.give []) otherwise λ _. visit i) s)
      one true = record { end = refl; few = omega arith }
      one false = f i

counted : {s : State} {xs : List Meaning.Figure} (k : Action (List Meaning.Figure)) (p : ℕ) → Gathers s 1 xs (k s) → Gathers s 0 xs (Run.◌>>◌ (Run.count p) k s)
unfolding spent part resource_number Run.◌>>=◌ Run.go_on Run.spend
counted k p a = record { end = a.end; few = omega (arith, a.few) }

figures_gather : (b p i : ℕ) (s : State) → Gathers s 1 (showing b s i) (figures_of b p i s)
unfolding figures_of showing by_content spent Run.◌>>=◌ Run.go_on Run.current Run.give
figures_gather zero p i s = record { end = refl; few = omega arith }
figures_gather (suc b) p i s = go (content_of s i) (λ c. figures_gather b p c s)
  where
    go : (c : Content) → ((c : ℕ) → Gathers s 1 (showing b s c) (figures_of b p c s))
        → Gathers s 1 (by_content c (λ a. a ∷ []) (among (showing b s) s)) (by_content c (λ a. Run.give (a ∷ [])) (each (λ c. Run.◌>>◌ (Run.count p) (figures_of b p c))) s)
    go (atom a) f = record { end = refl; few = omega arith }
    go (group cs) f =
        let a = each_gathers (λ c. Run.◌>>◌ (Run.count p) (figures_of b p c)) (showing b s) 0 s (λ c. counted (figures_of b p c) p (f c)) cs in
        record { end = a.end; few = omega (arith, a.few, none_each cs) }

-- what variables show
abbrev pub shown_all : State → List Meaning.Figure
shown_all s = among (λ i. showing (suc i) s i) s (shapes_held s.variables)

pub scene_gathers : (s : State) → Gathers s (length (shapes_held s.variables)) (shown_all s) (each (λ i. figures_of (suc i) 0 i) (shapes_held s.variables) s)
scene_gathers s =
    let is = shapes_held s.variables in
    let a = each_gathers (λ i. figures_of (suc i) 0 i) (λ i. showing (suc i) s i) 1 s (λ i. figures_gather (suc i) 0 i s) is in
    record { end = a.end; few = omega (arith, a.few, one_each is) }

one_held : (u : Value.Value) → length (shape_in u) ≤ 1
unfolding shape_in
one_held (Value.integer z) = omega arith
one_held (Value.string t) = omega arith
one_held (Value.boolean b) = omega arith
one_held Value.none = omega arith
one_held (Value.table t) = omega arith
one_held (Value.shape i) = omega arith

held_few : (vs : List Variable) → length (shapes_held vs) ≤ length vs
unfolding shapes_held
held_few [] = omega arith
held_few (v ∷ vs) = omega (arith, length-append (shape_in v.holds) (shapes_held vs), one_held v.holds, held_few vs)

many : {A : Type 0} (f : ℕ → A) (k n : ℕ) → length (listed f k n) ≡ n
unfolding listed
many f k zero = refl
many f k (suc n) = ap suc (many f (suc k) n)

-- ---- figures by their words
-- a word of kind 6
shape_in_lem : (w : ℕ) → kind_in w ≡ 6 → unpacked w ≡ Shape (number_in w)
unfolding unpacked if◌then◌otherwise◌
shape_in_lem w e = rw e

pub by_kind_number : (program texts : List ℕ) (k : ℕ) (f : Figure) → f.kind ≡ k
    → figure_from k f.a f.b f.c f.d (text_of program texts f.text) ≡ meant_figure program texts f
unfolding figure_from meant_figure if◌then◌otherwise◌
by_kind_number program texts zero f e = rw e
by_kind_number program texts (suc zero) f e = rw e
by_kind_number program texts (suc (suc zero)) f e = rw e
by_kind_number program texts (suc (suc (suc k))) f e =
    rw (e, ne_eqb (suc (suc (suc k))) 0 (λ q. omega arith), ne_eqb (suc (suc (suc k))) 1 (λ q. omega arith), ne_eqb (suc (suc (suc k))) 2 (λ q. omega arith))

pub figure_meant : (program : List ℕ) (r : Raw) (i : ℕ) → figure_for program r i ≡ meant_figure program r.texts (figure_at r.words i)
unfolding figure_for
figure_meant program r i = by_kind_number program r.texts (figure_at r.words i).kind (figure_at r.words i) refl

module _ (program : List ℕ) (r : Raw) where
  for_append : (a b : List ℕ) → figures_for program r (a ++ b) ≡ figures_for program r a ++ figures_for program r b
  unfolding figures_for
  for_append [] b = refl
  for_append (i ∷ a) b = ap (λ (l : List Meaning.Figure). figure_for program r i ∷ l) (for_append a b)

among_append : (inside : ℕ → List Meaning.Figure) (s : State) (a b : List ℕ) → among inside s (a ++ b) ≡ among inside s a ++ among inside s b
unfolding among
among_append inside s [] b = refl
among_append inside s (i ∷ a) b =
    ap (λ (l : List Meaning.Figure). (if is_destroyed s i then (λ _. []) otherwise λ _. inside i) ++ l) (among_append inside s a b)
    ∙ sym (append_assoc (if is_destroyed s i then (λ _. []) otherwise λ _. inside i) (among inside s a) (among inside s b))

held_append : (a b : List Variable) → shapes_held (a ++ b) ≡ shapes_held a ++ shapes_held b
unfolding shapes_held
held_append [] b = refl
held_append (v ∷ a) b = ap (λ (l : List ℕ). shape_in v.holds ++ l) (held_append a b) ∙ sym (append_assoc (shape_in v.holds) (shapes_held a) (shapes_held b))

module _ {program : List ℕ} {ts : List Token} {g : List ℕ} {r : Raw} {s : State} {total : Amounts} (h : Related program ts g r s total) where
  -- one of some shapes, by what is known of those that are older
  one_shown : (inside : ℕ → List Meaning.Figure) (seen : ℕ → List ℕ) (i : ℕ) → i < get_or r.words shapes_used 0 → inside i ≡ figures_for program r (seen i)
      → (if is_destroyed s i then (λ _. []) otherwise λ _. inside i) ≡ figures_for program r (if destroyed_at r.words i then (λ _. []) otherwise λ _. seen i)
  unfolding figures_for if◌then◌otherwise◌
  one_shown inside seen i l e = go (is_destroyed s i) (destroyed_at r.words i) (destroyed_found h i l)
    where
      go : (b c : Bool) → b ≡ c → (if b then (λ _. []) otherwise λ _. inside i) ≡ figures_for program r (if c then (λ _. []) otherwise λ _. seen i)
      go true true q = refl
      go true false q = let z : ◌≡◌ {A = ℕ} 0 1 = cc in absurd (omega arith)
      go false true q = let z : ◌≡◌ {A = ℕ} 0 1 = cc in absurd (omega arith)
      go false false q = e

  components_shown : (inside : ℕ → List Meaning.Figure) (seen : ℕ → List ℕ) (i : ℕ) → i < get_or r.words shapes_used 0
      → ((c : ℕ) → c < i → inside c ≡ figures_for program r (seen c))
      → (n k : ℕ) → ((j : ℕ) → k ≤ j → j < k + n → component_at g r.words j < i)
      → among inside s (listed (component_at g r.words) k n) ≡ figures_for program r (shown_from seen g r.words k n)
  unfolding among listed shown_from figures_for
  components_shown inside seen i l f zero k o = refl
  components_shown inside seen i l f (suc n) k o =
      let c = component_at g r.words k in
      let older : component_at g r.words k < i = o k (omega arith) (omega arith) in
      let more : among inside s (listed (component_at g r.words) (k + 1) n) ≡ figures_for program r (shown_from seen g r.words (k + 1) n) =
      components_shown inside seen i l f n (k + 1) (λ j x y. o j (omega arith) (omega arith)) in
      ap₂ ◌++◌ (one_shown inside seen c (omega arith) (f c older)) (ap (λ j. among inside s (listed (component_at g r.words) j n)) (sym (add-one k)) ∙ more)
      ∙ sym (for_append program r (if destroyed_at r.words c then (λ _. []) otherwise λ _. seen c) (shown_from seen g r.words (k + 1) n))

  shape_shown : (b b' i : ℕ) → i < b → i < b' → i < get_or r.words shapes_used 0 → showing b s i ≡ figures_for program r (figures_in b' g r.words i)
  unfolding showing figures_in figures_for by_content components_of if◌then◌otherwise◌
  shape_shown zero b' i x y l = absurd (omega arith)
  shape_shown (suc b) zero i x y l = absurd (omega arith)
  shape_shown (suc b) (suc b') i x y l = go (is_group_at r.words i) refl (λ c o. shape_shown b b' c (omega arith) (omega arith) (omega arith))
    where
      go : (t : Bool) → is_group_at r.words i ≡ t → ((c : ℕ) → c < i → showing b s c ≡ figures_for program r (figures_in b' g r.words c)) → showing (suc b) s i ≡ figures_for program r
          (if t then (λ _. shown_from (figures_in b' g r.words) g r.words (first_at r.words i) (count_at r.words i)) otherwise λ _. i ∷ [])
      go true e f =
          rw (group_found h i l e)
          (components_shown (showing b s) (figures_in b' g r.words) i l f (count_at r.words i)
          (first_at r.words i) (h.sound.shapes.groups i l e).older)
      go false e f = rw (figure_found h i l e, figure_meant program r i)

  -- ---- the variables, one after the other
  abbrev inside : ℕ → List Meaning.Figure
  inside i = showing (suc i) s i

  word_shown : (w : ℕ) → Valid program r.words (unpacked w)
      → among inside s (shape_in (meant_value program r.texts (unpacked w))) ≡ figures_for program r (shown_by g r.words w)
  unfolding shown_by meant_value shape_in among Valid figures_for if◌then◌otherwise◌
  word_shown w l = go (eqb (kind_in w) 6) refl
    where
      turned : (b : Bool) (xs : List ℕ) → figures_for program r (if b then (λ _. []) otherwise λ _. xs) ≡ figures_for program r (if not b then (λ _. xs) otherwise λ _. [])
      turned true xs = refl
      turned false xs = refl

      go : (b : Bool) → eqb (kind_in w) 6 ≡ b → among inside s (shape_in (meant_value program r.texts (unpacked w)))
          ≡ figures_for program r (if b && not (destroyed_at r.words (number_in w)) then (λ _. figures_in (shapes_granted g) g r.words (number_in w)) otherwise λ _. [])
      go true e =
          let i = number_in w in
          let q : unpacked w ≡ Shape (number_in w) = shape_in_lem w (eqb-true _ _ e) in
          let m : number_in w < get_or r.words shapes_used 0 = rw q at l in
          rw q
          (append-nil _
          ∙ one_shown inside (figures_in (shapes_granted g) g r.words) i m (shape_shown (suc i) (shapes_granted g) i (omega arith) (omega (arith, h.sound.counted.shapes)) m)
          ∙ turned (destroyed_at r.words i) (figures_in (shapes_granted g) g r.words i))
      go false e =
          by_kind w (λ v. among inside s (shape_in (meant_value program r.texts v)) ≡ []) (λ _. refl) (λ _. refl) (λ _. refl) refl (λ _. refl) (λ k. absurd (eqb-false _ _ e k))

  abbrev here : ℕ → Variable
  here = variable_at program (scope_of program ts (get_or r.words running 0)) r (get_or r.words frame 0)

  first_shown : (n : ℕ) → n ≤ get_or r.words declared 0 → among inside s (shapes_held (listed here 0 n)) ≡ figures_for program r (shown_first g r.words n)
  unfolding listed among shapes_held shown_first figures_for variable_at
  first_shown zero l = refl
  first_shown (suc n) l =
      let q : 0 + n ≡ n = omega arith in
      let v = h.sound.variables.framed in
      ap (λ (l : List Variable). among inside s (shapes_held l)) (listed_more here 0 n)
      ∙ ap (among inside s) (held_append (listed here 0 n) (here (0 + n) ∷ []))
      ∙ among_append inside s (shapes_held (listed here 0 n)) (shapes_held (here (0 + n) ∷ []))
      ∙ ap₂ ◌++◌ (first_shown n (omega arith))
      (rw q (ap (among inside s) (append-nil (shape_in (here n).holds))
      ∙ word_shown (word_of r.words n) (v.holds (number_of r.words (get_or r.words frame 0) n) (omega (arith, v.small n (omega arith))))))
      ∙ sym (for_append program r (shown_first g r.words n) (shown_by g r.words (word_of r.words n)))

  -- THE LAW
  pub scene_shown : shown_all s ≡ scene_in program g r
  unfolding frame_of
  scene_shown = ap (λ (l : List Variable). among inside s (shapes_held l)) h.variables ∙ first_shown (get_or r.words declared 0) (omega arith)

  pub held_within : length (shapes_held s.variables) ≤ 8192
  unfolding frame_of
  held_within = omega (
    arith,
    held_few s.variables,
    ap (λ (l : List Variable). length l) h.variables,
    many here 0 (get_or r.words declared 0),
    h.sound.variables.framed.few,
    h.sound.variables.framed.brief,
  )
