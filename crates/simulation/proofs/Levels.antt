-- What the meaning does first of what it has left: with the first of some components.
use Prim.Native.Nat.{ℕ, zero, suc, ◌+◌, ◌<◌}
use native.Mathlib.Omega.{arith}
use native.Mathlib.Numerals.{add-one}
use mathlib.Core.Path.{◌≡◌, refl, ap, ◌∙◌}
use mathlib.Core.Bool.{true, false}
use mathlib.Core.List.{List, [], ◌∷◌}
use lib.ListN.{get_or}
use Rattle.meaning.specs.Basics.{if◌then◌otherwise◌}
use Rattle.meaning.specs.Token.{Token}
use Rattle.meaning.specs.State.{State, by_content}
use Rattle.meaning.specs.Run as Run
use Rattle.meaning.specs.Run.{Run}
use Rattle.meaning.specs.Book.{Amounts}
use Rattle.meaning.specs.Execute.{Flow, onward, returned, continue, turns, iterating}
use Rattle.machine.specs.Layout.{shapes_used}
use Rattle.machine.specs.Act.{Raw}
use Rattle.machine.specs.Shapes.{is_group_at, destroyed_at}
use Rattle.machine.specs.Groups.{component_at, followers_at, first_at, count_at}
use Rattle.simulation.specs.Meant.{listed, components_of}
use Rattle.simulation.specs.Follows.{Related}
use Rattle.simulation.proofs.Usable.{figure_found, group_found, destroyed_found}
use Rattle.simulation.proofs.Destroying.{run_unit}
use Rattle.simulation.proofs.Remaking.{run_assoc}
use Rattle.simulation.proofs.Remaining.{Stop, level, remaining}

-- what follows a run, unless the procedure returns
abbrev pub after : Run Flow → Run.Action Flow → Run Flow
after m next = Run.go_on m.takings m.end (λ f. continue f next)

continue_then : (f : Flow) (m next : Run.Action Flow) (s : State) → after (continue f m s) next ≡ continue f (Run.◌>>=◌ m (λ f. continue f next)) s
unfolding continue Run.go_on Run.◌>>=◌ Run.give
continue_then onward m next s = refl
continue_then (returned v) m next s = refl

pub after_twice : (m : Run Flow) (next last : Run.Action Flow) → after (after m next) last ≡ after m (Run.◌>>=◌ next (λ f. continue f last))
after_twice m next last =
    run_assoc m.takings m.end (λ f. continue f next) (λ f. continue f last)
    ∙ ap (λ k. Run.go_on m.takings m.end k) (λ i f s. continue_then f next last s i)

-- nothing follows
continue_nothing : (f : Flow) → continue f (Run.give onward) ≡ Run.give f
unfolding continue
continue_nothing onward = refl
continue_nothing (returned v) = refl

pub after_nothing : (m : Run Flow) → after m (Run.give onward) ≡ m
after_nothing m = ap (λ k. Run.go_on m.takings m.end k) (λ i f. continue_nothing f i) ∙ run_unit m

module _ {program : List ℕ} {ts : List Token} {g : List ℕ} {r : Raw} {s : State} {total : Amounts} (h : Related program ts g r s total) (body : ℕ → Run.Action Flow) where
  -- ---- a component
  at_figure : (b c : ℕ) → c < get_or r.words shapes_used 0 → is_group_at r.words c ≡ false → iterating (suc b) body c s ≡ body c s
  unfolding iterating by_content Run.◌>>=◌ Run.go_on Run.current
  at_figure b c l n = rw (figure_found h c l n)

  pub iterated : (b c : ℕ) → c < get_or r.words shapes_used 0 → is_group_at r.words c ≡ true
      → iterating (suc b) body c s ≡ level g r.words body b (first_at r.words c) (count_at r.words c) s
  unfolding iterating by_content level components_of Run.◌>>=◌ Run.go_on Run.current
  iterated b c l n = rw (group_found h c l n)

  figure_at : (b c : ℕ) → 0 < b → c < get_or r.words shapes_used 0 → is_group_at r.words c ≡ false → iterating b body c s ≡ body c s
  figure_at zero c z l n = absurd (omega arith)
  figure_at (suc b) c z l n = at_figure b c l n

  -- ---- the first of some
  module _ (ways : List Stop) where
    -- some components and then what remains
    abbrev pub left : ℕ → ℕ → ℕ → Run.Action Flow
    left b k n = Run.◌>>=◌ (level g r.words body b k n) (λ f. continue f (remaining g r.words body ways))

    pub left_none : (b k : ℕ) → left b k 0 s ≡ remaining g r.words body ways s
    unfolding level turns listed continue Run.◌>>=◌ Run.go_on Run.give
    left_none b k = refl

    module _ (b k n : ℕ) (l : component_at g r.words k < get_or r.words shapes_used 0) where
      level_past : destroyed_at r.words (component_at g r.words k) ≡ true → level g r.words body b k (suc n) s ≡ level g r.words body b (k + 1) n s
      unfolding level turns listed continue if◌then◌otherwise◌ Run.◌>>=◌ Run.go_on Run.give Run.current
      level_past d = rw (add-one k, destroyed_found h (component_at g r.words k) l, d)

      level_first : destroyed_at r.words (component_at g r.words k) ≡ false
          → level g r.words body b k (suc n) s ≡ after (iterating b body (component_at g r.words k) s) (level g r.words body b (k + 1) n)
      unfolding level turns listed if◌then◌otherwise◌ Run.◌>>=◌ Run.go_on Run.current
      level_first d = rw (add-one k, destroyed_found h (component_at g r.words k) l, d)

      -- destroyed
      pub left_past : destroyed_at r.words (component_at g r.words k) ≡ true → left b k (suc n) s ≡ left b (k + 1) n s
      unfolding Run.◌>>=◌
      left_past d = ap (λ m. after m (remaining g r.words body ways)) (level_past d)

      left_first : destroyed_at r.words (component_at g r.words k) ≡ false
          → left b k (suc n) s ≡ after (iterating b body (component_at g r.words k) s) (left b (k + 1) n)
      unfolding Run.◌>>=◌
      left_first d =
          ap (λ m. after m (remaining g r.words body ways)) (level_first d)
          ∙ after_twice (iterating b body (component_at g r.words k) s) (level g r.words body b (k + 1) n) (remaining g r.words body ways)

      -- nothing is done with it
      pub left_idle : destroyed_at r.words (component_at g r.words k) ≡ false → iterating b body (component_at g r.words k) s ≡ Run.run [] (Run.result onward s)
          → left b k (suc n) s ≡ left b (k + 1) n s
      unfolding continue Run.go_on
      left_idle d e = left_first d ∙ ap (λ m. after m (left b (k + 1) n)) e

      -- a figure, or a group, which is gone down to; how many follow is told
      pub behind_it : followers_at g r.words k ≡ n → remaining g r.words body (record { slot = k; depth = b } ∷ ways) ≡ left b (k + 1) n
      unfolding remaining
      behind_it follow = rw follow

      pub left_figure : followers_at g r.words k ≡ n → 0 < b → destroyed_at r.words (component_at g r.words k) ≡ false → is_group_at r.words (component_at g r.words k) ≡ false
          → left b k (suc n) s ≡ Run.◌>>=◌ (body (component_at g r.words k)) (λ f. continue f (remaining g r.words body (record { slot = k; depth = b } ∷ ways))) s
      unfolding Run.◌>>=◌
      left_figure follow z d e = rw (behind_it follow) (left_first d ∙ ap (λ m. after m (left b (k + 1) n)) (figure_at b (component_at g r.words k) z l e))

      pub left_group : (b' : ℕ) → b ≡ suc b' → followers_at g r.words k ≡ n → destroyed_at r.words (component_at g r.words k) ≡ false
          → is_group_at r.words (component_at g r.words k) ≡ true
          → left b k (suc n) s
          ≡ Run.◌>>=◌ (level g r.words body b' (first_at r.words (component_at g r.words k)) (count_at r.words (component_at g r.words k)))
          (λ f. continue f (remaining g r.words body (record { slot = k; depth = b } ∷ ways))) s
      unfolding Run.◌>>=◌
      left_group b' q follow d e =
          rw (behind_it follow)
          (left_first d ∙ ap (λ m. after m (left b (k + 1) n)) (ap (λ x. iterating x body (component_at g r.words k) s) q ∙ iterated b' (component_at g r.words k) l e))
