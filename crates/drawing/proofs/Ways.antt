-- One law for each way through the functions.
use Prim.Native.Nat.{ℕ}
use mathlib.Core.Path.{◌≡◌, sym, ◌∙◌}
use mathlib.Core.Bool.{Bool, true, false, not}
use mathlib.Core.List.{List}
use lib.ListN.{length, get_or, replicate}
use lib.IntN.{ℤ}
use mir.Syntax.{w32}
use mir.Val.{to_z, of_z, SFits}
use mir.Facts.{to_z-of_z}
use Rattle.meaning.specs.Program.{drawing}
use Rattle.meaning.specs.Call.{Call, out_after}
use Rattle.claims.proofs.Claimed.{numbers_write_nothing}
use Rattle.answers.specs.declared.Answer as Declared
use Rattle.answers.specs.declared.Answer.TheVariants.{Number}
use Rattle.answers.specs.Answers.{meant}
use Rattle.machine.specs.Layout.{steps_used}
use Rattle.std.specs.Prelude.{Result, Ok, Err}
use Rattle.machine.specs.declared.Fault.{Fault}
use Rattle.machine.specs.Fault.{number_of, place_of}
use Rattle.painting.specs.Running.{Ran, painting_run}
use Rattle.lending.specs.Lending.{enough, Ready, called, Performed}
use Rattle.lending.proofs.Admitted.{draws, performed_nothing, ready, performed, written}
use Rattle.painting.proofs.Booked.{drawn_number, out_untouched}
use Rattle.rendering.specs.Rendering.{Drawn, Scene}

-- a signed number handed over, as its bits
abbrev held : ℤ → ℤ
held z = to_z w32 (of_z w32 z)

-- ---- `draw_lent`
module _ (program : List ℕ) (width height : ℤ) (g ts ws : List ℕ) (e : Result (Unit {0}) Fault) (ran : Ran program g (painting_run program width height g) e ts ws) where
  pub lent_scene : e ≡ Ok tt → Scene program width height g ws ts
  lent_scene q = record { ran = rw q at ran }

module _ (program : List ℕ) (width height : ℤ) (g out : List ℕ) (f : SFits w32 width) (f₂ : SFits w32 height) where
  pub lent_number : (ts ws : List ℕ) (e : Result (Unit {0}) Fault) → Ran program g (painting_run program (held width) (held height) g) e ts ws
      → (m : Fault) → e ≡ Err m → (n p : ℕ) → n ≡ number_of m → p ≡ place_of m → (k : ℕ) → k ≡ get_or ws steps_used 0 → Drawn program width height g out (meant (Number n p k 0)) out
  unfolding meant
  lent_number ts ws e ran m q n p i j k h =
      let z : Ran program g (painting_run program width height g) e ts ws = rw (to_z-of_z f, to_z-of_z f₂) at ran in
      record {
        answered = rw (i, j, h) (sym (drawn_number program width height g out ts ws m (rw q at z)));
        written = sym (out_untouched program width height g out ts ws m (rw q at z));
      }

  pub lent_drawn : (a : Declared.Answer) (after : List ℕ) → Drawn program (held width) (held height) g out (meant a) after → Drawn program width height g out (meant a) after
  lent_drawn a after d = rw (to_z-of_z f, to_z-of_z f₂) at d

-- ---- `draw`
module _ (program : List ℕ) (width height : ℤ) (g tokens code words texts out : List ℕ) (ok : Bool)
    (e : ok ≡ enough g (length tokens) (length code) (length words) (length texts)) where
  abbrev call : Call
  call = called drawing program width height g tokens code words texts out

  module _ (t : not ok ≡ true) where
    pub draw_refused : Performed (called drawing program width height g tokens code words texts out) (meant (Number 71 0 0 0)) tokens code words texts tokens code words texts
    unfolding meant
    draw_refused = performed_nothing drawing draws program width height g tokens code words texts out ok e t

    pub out_refused : out ≡ out_after (called drawing program width height g tokens code words texts out)
    unfolding meant
    out_refused = sym (numbers_write_nothing call 71 0 0 0 (sym draw_refused.answered))

  module _ (t : not ok ≡ false) where
    pub draw_ready : Ready g tokens code texts words
    draw_ready = ready drawing draws program width height g tokens code words texts out ok e t

    module _ (f : SFits w32 width) (f₂ : SFits w32 height) (r : Declared.Answer) (out' : List ℕ) (h : Drawn program (held width) (held height) g out (meant r) out') where
      as_drawn : Drawn program width height g out (meant r) out'
      as_drawn = rw (to_z-of_z f, to_z-of_z f₂) at h

      pub draw_performed : (tokens' code' words' texts' : List ℕ) (k l m n : ℕ) → k ≡ length tokens → tokens' ≡ replicate k 0 → l ≡ length code → code' ≡ replicate l 0
          → m ≡ length words → words' ≡ replicate m 0 → n ≡ length texts → texts' ≡ replicate n 0
          → Performed (called drawing program width height g tokens code words texts out) (meant r) tokens code words texts tokens' code' words' texts'
      draw_performed = performed drawing draws program width height g tokens code words texts out ok e t (meant r) as_drawn.answered

      pub out_performed : out' ≡ out_after (called drawing program width height g tokens code words texts out)
      out_performed = as_drawn.written ∙ written program width height g tokens code words texts out ok e t
