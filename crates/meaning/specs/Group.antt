-- Shapes made and destroyed, and what is done with all that a group holds (section 3.3 of the IMG specification). Components are older than their group, so
-- b, which falls at each group inside another, never runs out if it is above the shape's number (claims `ComponentsAreOlder`, `DepthsSuffice`).
use Rattle.std.specs.Prelude.{ℕ, zero, suc, Bool, true, false, List, [], ◌∷◌, ◌++◌, length}
use Rattle.meaning.specs.Basics.{if◌then◌otherwise◌}
use Rattle.meaning.specs.Figure.{Figure, same_figure}
use Rattle.meaning.specs.State.{Content, atom, group, is_destroyed, content_of, by_content, components_in, living, with_shape, with_shapes, destroy}
use Rattle.meaning.specs.Run.{Action, Resource, shapes, entries, ◌>>=◌, ◌>>◌, give, count, spend, current, become}

-- so many of a resource, one by one
unfoldable pub spend_each : Resource → ℕ → ℕ → Action (Unit {0})
spend_each r zero p = give tt
spend_each r (suc n) p = spend r 1 p >> spend_each r n p

-- a new shape takes one, and a group an entry for each component
unfoldable pub new_shape : ℕ → Content → Action ℕ
new_shape p c = do
  spend shapes 1 p
  spend_each entries (length (components_in c)) p
  s ← current
  become (with_shape s c)
  give (length s.shapes)

-- some shapes one after the other, those passed over that are destroyed by then, and what comes of each
unfoldable pub each : {A : Type 0} → (ℕ → Action (List A)) → List ℕ → Action (List A)
each visit [] = give []
each visit (i ∷ is) = do
  s ← current
  xs ← if is_destroyed s i then (λ _. give []) otherwise λ _. visit i
  ys ← each visit is
  give (xs ++ ys)

-- ---- a step for each component reached, depth first
-- destroyed: a group itself, then all in it
unfoldable pub destroying : ℕ → ℕ → ℕ → Action (List Figure)
destroying zero p i = give []
destroying (suc b) p i = do
  s ← current
  become (with_shapes s (destroy s.shapes i))
  each (λ c. count p >> destroying b p c) (components_in (content_of s i))

-- made anew by f: of a group its components first, then a group of these
unfoldable pub remade : ℕ → ℕ → (Figure → Figure) → ℕ → Action ℕ
remade zero p f i = give i
remade (suc b) p f i =
    current >>= λ s.
    by_content (content_of s i) (λ a. new_shape p (atom (f a)))
    λ cs. each (λ c. count p >> remade b p f c >>= λ j. give (j ∷ [])) cs >>= λ js. new_shape p (group js)

-- the figures that a shape shows
unfoldable pub figures_of : ℕ → ℕ → ℕ → Action (List Figure)
figures_of zero p i = give []
figures_of (suc b) p i = current >>= λ s. by_content (content_of s i) (λ a. give (a ∷ [])) (each λ c. count p >> figures_of b p c)

-- ---- equality
-- pair by pair; the first pair that is not alike, or the end of the shorter, settles it
unfoldable pub pairwise : (ℕ → ℕ → Action Bool) → List ℕ → List ℕ → Action Bool
pairwise alike [] [] = give true
pairwise alike [] (j ∷ js) = give false
pairwise alike (i ∷ is) [] = give false
pairwise alike (i ∷ is) (j ∷ js) = alike i j >>= λ b. if b then (λ _. pairwise alike is js) otherwise λ _. give false

-- two figures, or two groups whose undestroyed components are alike, a step for each pair
unfoldable pub alike : ℕ → ℕ → ℕ → ℕ → Action Bool
alike zero p i j = give false
alike (suc b) p i j =
    current >>= λ s.
    by_content (content_of s i) (λ a. by_content (content_of s j) (λ a'. give (same_figure a a')) (λ ds. give false))
    λ cs. by_content (content_of s j) (λ a'. give false) (λ ds. pairwise (λ c d. count p >> alike b p c d) (living s cs) (living s ds))
