-- One law for each way through each function.
use Prim.Native.Nat.{ℕ, zero, suc, ◌+◌, ◌-◌, ◌≤◌, ◌<◌}
use native.Mathlib.Omega.{arith}
use native.Mathlib.Nat.{add-mul}
use mathlib.Core.Path.{◌≡◌, refl, ap, ◌∙◌}
use mathlib.Core.List.{List, ◌++◌}
use lib.ListN.{get_or, set, length, take, drop, replicate, length-append, length-set, length-drop, length-replicate, get_or-append}
use lib.Seq.{length-take-le, get_or-take, get_or-append-add}
use lib.IntN.{ℤ}
use mir.Syntax.{w32}
use mir.Val.{to_z, of_z, SFits}
use mir.Facts.{to_z-of_z}
use borrow.Author.Tests.{not-true, not-false, eq-eqb, ne_eqb}
use lib.Dec.{eqb}
use borrow.Rule.Slice.PartMut.{mid_of, put_mid, mid_len}
use Rattle.std.specs.Prelude.{Result, Ok, Err}
use Rattle.machine.specs.declared.Fault.{Fault}
use Rattle.machine.specs.Fault.{number_of, place_of}
use Rattle.machine.specs.declared.Value.TheVariants.{Integer}
use Rattle.machine.specs.Words.{packed}
use Rattle.machine.specs.Layout.{calls_used, shapes_granted, entries_granted, calls_granted, argument_place, shape_place, entry_place, component_place, Room}
use Rattle.machine.specs.Act.{raw, go_on, ◌>>=◌, give, fail, refuse, store, Gives, out_of, Does, spend}
use Rattle.machine.specs.Variables.{set_variable}
use Rattle.machine.specs.Procedures.{open_frame}
use Rattle.machine.specs.Show.{show_scene}
use Rattle.scene.specs.Measuring.{size_with}
use Rattle.prologue.specs.Prologue.{main_begins, main_ends, Blank}
use Rattle.std.specs.Prelude.{Result, Ok, Err}
use Rattle.machine.specs.declared.Fault.{Fault}
use Rattle.machine.specs.declared.Fault.TheVariants.{DeclaredTwice}

-- a signed number handed over, as its bits
abbrev held : ℤ → ℤ
held z = to_z w32 (of_z w32 z)

-- ---- `clear_first`
zero_at : (n i : ℕ) → ◌≡◌ {A = ℕ} (get_or (replicate n 0) i 0) 0
zero_at zero i = refl
zero_at (suc n) zero = refl
zero_at (suc n) (suc i) = zero_at n i

-- the words with zeros e in front, and then with zeros f from a to b
module _ (g ws e f : List ℕ) (a b : ℕ) (room : Room g ws) (from : a ≡ shape_place (shapes_granted g)) (to : b ≡ component_place g 0) (c : e ≡ replicate (length (take (argument_place 0) ws)) 0)
    (d : f ≡ replicate (length (mid_of a (b - a) (e ++ drop (argument_place 0) ws))) 0) where
  abbrev half : List ℕ
  half = e ++ drop (argument_place 0) ws

  long : component_place g 0 ≤ length ws
  long = omega (arith, room.words, add-mul 5 (calls_granted g) (entries_granted g))

  as_many : length e ≡ argument_place 0
  as_many = ap length c ∙ length-replicate (length (take (argument_place 0) ws)) 0 ∙ length-take-le (argument_place 0) ws (omega (arith, long))

  half_long : length half ≡ length ws
  half_long = length-append e (drop (argument_place 0) ws) ∙ rw (as_many, length-drop (argument_place 0) ws) (omega (arith, long))

  front_long : length (take a half) ≡ a
  front_long = length-take-le a half (omega (arith, half_long, long, from))

  f_long : length f ≡ b - a
  f_long = ap length d ∙ length-replicate (length (mid_of a (b - a) half)) 0 ∙ mid_len a b half (omega (arith, half_long, long, to))

  abbrev done : List ℕ
  done = put_mid a (b - a) half f

  abbrev rest : List ℕ
  rest = drop (b - a) (drop a half)

  in_front : (i : ℕ) → i < argument_place 0 → get_or done i 0 ≡ 0
  in_front i l =
      get_or-append (take a half) (f ++ rest) 0 i (omega (arith, front_long, from))
      ∙ get_or-take a half i 0 (omega (arith, from)) ∙ get_or-append e (drop (argument_place 0) ws) 0 i (omega (arith, as_many)) ∙ rw c (zero_at (length (take (argument_place 0) ws)) i)

  in_entries : (i : ℕ) → entry_place g 0 ≤ i → i < component_place g 0 → get_or done i 0 ≡ 0
  in_entries i l m =
      let k : i ≡ length (take a half) + (i - a) = omega (arith, front_long, from) in
      ap (λ (j : ℕ). get_or (take a half ++ (f ++ rest)) j 0) k ∙ get_or-append-add (take a half) (f ++ rest) (i - a) 0
      ∙ get_or-append f rest 0 (i - a) (omega (arith, f_long, from, to)) ∙ rw d (zero_at (length (mid_of a (b - a) half)) (i - a))

  pub both_cleared : Blank g done
  both_cleared = record { front = in_front; entries = in_entries }

-- ---- `enter`
module _ (g : List ℕ) (n : ℕ) (width height : ℤ) (ws : List ℕ) where
  pub one_name : n ≡ 0 → Does ws (main_begins g n width height) (Err (DeclaredTwice 0)) ws
  unfolding main_begins out_of refuse fail ◌>>=◌ go_on
  one_name z = record { equal = λ ts. rw (eq-eqb n 0 z) }

  pub begins : (n ≡ 0 → ⊥) → SFits w32 width → SFits w32 height → {r : Result (Unit {0}) Fault} {ws' : List ℕ}
      → Does ws (spend calls_used (calls_granted g) 1 81 0 >>= λ _. open_frame 0 2 n 0 >>= λ _. set_variable 0 (packed (Integer (held width))) >>= λ _. set_variable 1 (packed (Integer (held height)))) r ws'
      → Does ws (main_begins g n width height) r ws'
  unfolding main_begins refuse give ◌>>=◌ go_on
  begins z f f₂ h = record { equal = λ ts. h.equal ts ∙ rw (ne_eqb n 0 z, to_z-of_z f, to_z-of_z f₂) refl }

-- ---- `leave`
pub left_room : {g : List ℕ} (ws : List ℕ) (x : ℕ) → Room g ws → Room g (set ws calls_used x)
left_room ws x h = record { steps = h.steps; shapes = h.shapes; entries = h.entries; text = h.text; calls = h.calls; words = rw (length-set ws calls_used x) h.words }

pub left : (program ts g : List ℕ) {ws ws₁ : List ℕ} {r : Result (Unit {0}) Fault} {ws₂ : List ℕ} → ws₁ ≡ set ws calls_used 0 → Does ws₁ (show_scene (size_with program ts) g) r ws₂ → Does ws (main_ends program ts g) r ws₂
unfolding main_ends ◌>>=◌ go_on store
left program ts g e f = record { equal = λ us. f.equal us ∙ rw e }
