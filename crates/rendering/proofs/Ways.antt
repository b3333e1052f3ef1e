-- One law for each way through the functions.
use Prim.Native.Nat.{ℕ, ◌+◌, ◌^◌, ◌≤◌, ◌<◌}
use native.Mathlib.Omega.{arith}
use mathlib.Core.Path.{◌≡◌, sym, ◌∙◌}
use mathlib.Core.List.{List, []}
use lib.ListN.{length, get_or}
use lib.IntN.{ℤ}
use mir.Syntax.{w32}
use mir.Val.{to_z, of_z, SFits}
use mir.Facts.{to_z-of_z}
use Rattle.meaning.specs.Figure.{Figure}
use Rattle.meaning.specs.Picture.{lines_of, picture_of}
use Rattle.answers.specs.declared.Answer.TheVariants.{Picture, Number}
use Rattle.answers.specs.Answers.{meant}
use Rattle.machine.specs.Layout.{steps_used, lines_length, fixed_words, Room}
use Rattle.machine.specs.Act.{raw}
use Rattle.writing.specs.Placed.{saturated, WroteAt}
use Rattle.writing.proofs.Laying.{saturated_small, from_front}
use Rattle.writing.proofs.Decimals.{decimal_short}
use Rattle.picture.proofs.Frames.{length_head, length_picture}
use Rattle.scene.specs.Scene.{scene_in}
use Rattle.showing.specs.Showing.{Pictured}
use Rattle.painting.specs.Running.{Painted}
use Rattle.lending.proofs.Admitted.{written}
use Rattle.painting.proofs.Booked.{drawn_short, out_kept, drawn_picture, out_laid, painted_ended}
use Rattle.rendering.specs.Rendering.{Drawn, Scene}

-- a signed number handed over, as its bits
abbrev held : ℤ → ℤ
held z = to_z w32 (of_z w32 z)

-- ---- `draw_scene`
module _ (program : List ℕ) (width height : ℤ) (g words texts out : List ℕ) (s : Scene program width height g words texts) where
  abbrev figures : List Figure
  figures = scene_in program g (raw texts words)

  abbrev bytes : List ℕ
  bytes = picture_of width height (scene_in program g (raw texts words))

  held_so : Painted program g tt (scene_in program g (raw texts words)) (raw texts words)
      (painted_ended program width height g out texts words s.ran).state (painted_ended program width height g out texts words s.ran).total
  held_so = let d = painted_ended program width height g out texts words s.ran in rw d.holds.scene at d.holds

  pub scene_room : Room g words
  scene_room = held_so.room

  pub scene_long : fixed_words ≤ length words
  scene_long = omega (arith, scene_room.words)

  -- the frame, and the lines as they were measured
  whole : length bytes ≡ length (picture_of width height []) + get_or words lines_length 0
  unfolding lines_of
  whole = omega (arith, length_picture width height figures, length_picture width height [], held_so.lines)

  module _ (f : SFits w32 width) (f₂ : SFits w32 height) (k : ℕ) (steps : k ≡ get_or words steps_used 0) (l : ℕ)
      (size : l ≡ saturated (length (picture_of (held width) (held height) []) + get_or words lines_length 0)) where
    short : length bytes < 2 ^ 64
    short = omega (arith, length_picture width height figures, length_head width height, decimal_short width f, decimal_short height f₂, held_so.short)

    sized : l ≡ length bytes
    sized = size ∙ rw (to_z-of_z f, to_z-of_z f₂, ← whole) (saturated_small (length bytes) short)

    pub scene_short : length out < l → Drawn program width height g out (meant (Number 80 0 k l)) out
    unfolding meant
    scene_short h =
        let z : length out < length bytes = rw sized at h in
        record {
          answered = rw (steps, sized) (sym (drawn_short program width height g out texts words s.ran z));
          written = sym (out_kept program width height g out texts words s.ran z);
        }

    pub scene_drawn : l ≤ length out → (words' after : List ℕ) (n : ℕ) → Pictured program texts g words (held width) (held height) out words' after n
        → Drawn program width height g out (meant (Picture l k)) after
    unfolding meant
    scene_drawn h words' after n w =
        let z : length bytes ≤ length out = rw sized at h in
        let wrote : WroteAt 0 bytes out after n = rw (to_z-of_z f, to_z-of_z f₂) at w.wrote in
        record {
          answered = rw (steps, sized) (sym (drawn_picture program width height g out texts words s.ran z));
          written = (from_front short wrote).laid ∙ sym (out_laid program width height g out texts words s.ran z);
        }
