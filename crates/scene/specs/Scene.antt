-- The figures that the stores hold for a picture.
use Rattle.std.specs.Prelude.{ℕ, zero, suc, not, ◌&&◌, List, [], ◌∷◌, ◌++◌, ◌==◌, slice_index}
use Rattle.meaning.specs.Basics.{if◌then◌otherwise◌}
use Rattle.meaning.specs.Figure.{Figure}
use Rattle.machine.specs.Words.{kind_in, number_in}
use Rattle.machine.specs.Layout.{declared, frame, shapes_granted}
use Rattle.machine.specs.Act.{Raw}
use Rattle.machine.specs.Texts.{text_of}
use Rattle.machine.specs.Shapes.{destroyed_at, figure_at}
use Rattle.machine.specs.Show.{figures_in}
use Rattle.machine.specs.Variables.{holding_of}
use Rattle.picture.specs.Parts.{figure_from}

-- the figure of the shape numbered i
unfoldable pub figure_for : List ℕ → Raw → ℕ → Figure
figure_for program r i =
    let f = figure_at r.words i in
    figure_from f.kind f.a f.b f.c f.d (text_of program r.texts f.text)

-- those of several
unfoldable pub figures_for : List ℕ → Raw → List ℕ → List Figure
figures_for program r [] = []
figures_for program r (i ∷ more) = figure_for program r i ∷ figures_for program r more

-- the shapes that a variable's word adds: an undestroyed figure, or those in a group
unfoldable pub shown_by : List ℕ → List ℕ → ℕ → List ℕ
shown_by g ws w =
    if kind_in w == 6 && not (destroyed_at ws (number_in w)) then (λ _. figures_in (shapes_granted g) g ws (number_in w)) otherwise λ _. []

-- what the k-th declaration's variable holds
abbrev pub word_of : List ℕ → ℕ → ℕ
word_of ws k = holding_of ws (slice_index ws frame) k

-- what the variables of the first n declarations add
unfoldable pub shown_first : List ℕ → List ℕ → ℕ → List ℕ
shown_first g ws zero = []
shown_first g ws (suc k) = shown_first g ws k ++ shown_by g ws (word_of ws k)

abbrev pub scene_in : List ℕ → List ℕ → Raw → List Figure
scene_in program g r = figures_for program r (shown_first g r.words (slice_index r.words declared))
