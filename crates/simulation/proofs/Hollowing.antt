-- A group in which no figure is left is marked so.
use Prim.Native.Nat.{ℕ, zero, suc, ◌+◌, ◌≤◌, ◌<◌}
use native.Mathlib.Omega.{arith}
use mathlib.Core.Path.{◌≡◌, refl, sym, ◌∙◌}
use mathlib.Core.Logic.{◌≢◌}
use mathlib.Core.Bool.{Bool, true, false}
use mathlib.Core.List.{List, [], ◌∷◌, ◌++◌}
use lib.ListN.{get_or, set}
use Rattle.meaning.specs.Basics.{if◌then◌otherwise◌}
use Rattle.meaning.specs.Token.{Token}
use Rattle.meaning.specs.State.{State}
use Rattle.meaning.specs.Book.{Amounts}
use Rattle.machine.specs.Layout.{shapes_used, shape_place}
use Rattle.machine.specs.Act.{Raw, raw}
use Rattle.machine.specs.Shapes.{is_group_at, destroyed_at}
use Rattle.machine.specs.Groups.{component_at, first_at, count_at}
use Rattle.simulation.specs.Meant.{shape_at, shapes_of}
use Rattle.simulation.specs.Sound.{Shapes}
use Rattle.simulation.specs.Follows.{Stays, Related}
use Rattle.simulation.proofs.Listed.{listed_first}
use Rattle.machine.specs.Show.{shown_from, figures_in}
use Rattle.machine.specs.Loops.{hollow_at}
use Rattle.simulation.proofs.Frames.{append_none}
use Rattle.simulation.proofs.Results.{After}
use Rattle.simulation.proofs.Counting.{other}
use Rattle.simulation.proofs.Touching.{now, content_was, touched_after}

module _ {program : List ℕ} {ts : List Token} {g : List ℕ} where
  module _ {r : Raw} {s : State} {total : Amounts} (h : Related program ts g r s total) (i : ℕ) (l : i < get_or r.words shapes_used 0)
      (grouped : is_group_at r.words i ≡ true) (none : figures_in (suc i) g r.words i ≡ []) where
    abbrev pub emptied : Raw
    emptied = raw r.texts (set r.words (shape_place i + 2) 1)

    as_was : (j : ℕ) → j ≢ shape_place i + 2 → get_or emptied.words j 0 ≡ get_or r.words j 0
    as_was j n = other h (shape_place i + 2) 1 j n

    own_stays : Stays r.words emptied.words i
    own_stays =
        let a = as_was (shape_place i) (λ e. omega arith) in
        record {
          kind = rw a;
          figure = λ n. let z : ◌≡◌ {A = Bool} true false = sym grouped ∙ n in let y : ◌≡◌ {A = ℕ} 0 1 = cc in absurd (omega arith);
          slots = as_was (shape_place i + 1) (λ e. omega arith);
          dead = λ e. rw a e;
        }

    shapes_are : (k : ℕ) → k < get_or r.words shapes_used 0 → shape_at program g emptied k ≡ shape_at program g r k
    unfolding shape_at
    shapes_are k m = rw (content_was h i l (shape_place i + 2) 1 (omega arith) (omega arith) own_stays k m, as_was (shape_place k) (λ e. omega arith))

    emptied_list : shapes_of program g emptied ≡ shapes_of program g r
    unfolding shapes_of
    emptied_list = rw (as_was shapes_used (λ e. omega arith)) (listed_first (shape_at program g emptied) (shape_at program g r) (get_or r.words shapes_used 0) shapes_are)

    pub hollows : After program ts g r emptied s total
    hollows =
        touched_after h i l (shape_place i + 2) 1 (omega arith) (omega arith) own_stays
        (rw (now h i l (shape_place i + 2) 1 (omega arith) (omega arith)) (omega arith)) (λ n e. none)
        s.shapes (h.shapes ∙ sym emptied_list)

-- ---- where no figure is left, however deep one looks
unfoldable pub Bare : List ℕ → List ℕ → ℕ → Type 0
Bare g ws i = (b : ℕ) → figures_in b g ws i ≡ []

-- n components from slot k on
unfoldable pub BareFrom : List ℕ → List ℕ → ℕ → ℕ → Type 0
BareFrom g ws k n = (b : ℕ) → shown_from (figures_in b g ws) g ws k n ≡ []

pub bare_nothing : (g ws : List ℕ) (k : ℕ) → BareFrom g ws k 0
unfolding BareFrom shown_from
bare_nothing g ws k b = refl

pub bare_destroyed : (g ws : List ℕ) (k n : ℕ) → destroyed_at ws (component_at g ws k) ≡ true → BareFrom g ws (k + 1) n → BareFrom g ws k (suc n)
unfolding BareFrom shown_from if◌then◌otherwise◌
bare_destroyed g ws k n d rest b = rw d (rest b)

pub bare_first : (g ws : List ℕ) (k n : ℕ) → Bare g ws (component_at g ws k) → BareFrom g ws (k + 1) n → BareFrom g ws k (suc n)
unfolding Bare BareFrom shown_from if◌then◌otherwise◌
bare_first g ws k n first rest b = rw (first b, rest b) (go (destroyed_at ws (component_at g ws k)))
  where
    go : (t : Bool) → (if◌then◌otherwise◌ {A = List ℕ} t (λ _. []) (λ _. [])) ++ [] ≡ []
    go true = refl
    go false = refl

pub bare_group : (g ws : List ℕ) (i : ℕ) → is_group_at ws i ≡ true → BareFrom g ws (first_at ws i) (count_at ws i) → Bare g ws i
unfolding Bare BareFrom figures_in if◌then◌otherwise◌
bare_group g ws i n all zero = refl
bare_group g ws i n all (suc b) = rw n (all b)

module _ {program g ws : List ℕ} (shapes : Shapes program g ws) where
  shown_any : (b b' i n k : ℕ) → ((c : ℕ) → c < i → figures_in b g ws c ≡ [] → figures_in b' g ws c ≡ []) → ((j : ℕ) → k ≤ j → j < k + n → component_at g ws j < i)
      → shown_from (figures_in b g ws) g ws k n ≡ [] → shown_from (figures_in b' g ws) g ws k n ≡ []
  unfolding shown_from if◌then◌otherwise◌
  shown_any b b' i zero k f o e = refl
  shown_any b b' i (suc n) k f o e =
      let c = component_at g ws k in
      let q = append_none (if destroyed_at ws c then (λ _. []) otherwise λ _. figures_in b g ws c) (shown_from (figures_in b g ws) g ws (k + 1) n) e in
      rw (one c (destroyed_at ws c) (f c (o k (omega arith) (omega arith))) q.0, shown_any b b' i n (k + 1) f (λ j x y. o j (omega arith) (omega arith)) q.1)
    where
      one : (c : ℕ) (t : Bool) → (figures_in b g ws c ≡ [] → figures_in b' g ws c ≡ []) → (if t then (λ _. []) otherwise λ _. figures_in b g ws c) ≡ []
          → (if t then (λ _. []) otherwise λ _. figures_in b' g ws c) ≡ []
      one c true f e = refl
      one c false f e = f e

  figures_any : (b b' i : ℕ) → i < get_or ws shapes_used 0 → i < b → figures_in b g ws i ≡ [] → figures_in b' g ws i ≡ []
  unfolding figures_in if◌then◌otherwise◌
  figures_any b zero i l x e = refl
  figures_any zero (suc b') i l x e = absurd (omega arith)
  figures_any (suc b) (suc b') i l x e = go (is_group_at ws i) refl (λ c o. figures_any b b' c (omega arith) (omega arith)) e
    where
      go : (t : Bool) → is_group_at ws i ≡ t → ((c : ℕ) → c < i → figures_in b g ws c ≡ [] → figures_in b' g ws c ≡ [])
          → (if t then (λ _. shown_from (figures_in b g ws) g ws (first_at ws i) (count_at ws i)) otherwise λ _. i ∷ []) ≡ []
          → (if t then (λ _. shown_from (figures_in b' g ws) g ws (first_at ws i) (count_at ws i)) otherwise λ _. i ∷ []) ≡ []
      go true n f e = shown_any b b' i (count_at ws i) (first_at ws i) f (shapes.groups i l n).older e
      go false n f e = e

  -- by what is known of hollow groups
  pub bare_hollow : (i : ℕ) → i < get_or ws shapes_used 0 → is_group_at ws i ≡ true → hollow_at ws i ≡ true → Bare g ws i
  unfolding Bare
  bare_hollow i l n e b = figures_any (suc i) b i l (omega arith) (shapes.hollow i l n e)
