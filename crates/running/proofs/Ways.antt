-- One law for each way through each function.
use Prim.Native.Nat.{ℕ, ◌+◌, ◌^◌, ◌≤◌, ◌<◌}
use native.Mathlib.Omega.{arith}
use mathlib.Core.Path.{◌≡◌, refl, ap, sym, ◌∙◌}
use mathlib.Core.Bool.{Bool, true, false, not, ◌&&◌}
use mathlib.Core.List.{List}
use lib.ListN.{length}
use lib.IntN.{ℤ, pos}
use lib.Signed.{lt_z}
use mir.Syntax.{w32}
use mir.Val.{to_z, of_z, SFits}
use mir.Facts.{to_z-of_z}
use borrow.Author.Tests.{not-true, not-false}
use Rattle.meaning.specs.Grammar.{reading}
use Rattle.std.specs.Prelude.{Ok, Err}
use Rattle.reader.specs.declared.Program.{Program}
use Rattle.reader.specs.declared.Malformed.{Malformed}
use Rattle.reader.specs.Reading.{seen, coded, tokens_in, Kept}
use Rattle.reader.proofs.Whole.{whole}
use Rattle.numbering.specs.Pass.{pass, number_all}
use Rattle.machine.specs.Opcodes.{start_in, parameters_in, body_in, frame_in}
use Rattle.machine.specs.Layout.{steps_used, Room, Lent}
use Rattle.machine.specs.Act.{◌>>=◌, give, Does, DoesIn}
use Rattle.machine.specs.Evaluate.{setting}
use Rattle.machine.specs.Interpret.{body_at}
use Rattle.interpreter.specs.Asked.{Body}
use Rattle.interpreter.proofs.ExpressionLaws.{still_lent}
use Rattle.std.specs.Prelude.{Result, Ok, Err}
use Rattle.machine.specs.declared.Fault.{Fault}
use Rattle.machine.specs.declared.Fault.TheVariants.{Misuse, NoSheet, TooLong, NotRead}
use Rattle.machine.proofs.Acts.{goes_in, fails_in}
use Rattle.lending.specs.Lending.{Ready}
use Rattle.prologue.specs.Prologue.{main_begins, main_ends, Blank}
use Rattle.painting.specs.Running.{main_fuel, body_run, main_run, Ran, painting_run, reading_run, ReadyToRead}
use Rattle.painting.proofs.Painting.{read_malformed, read_parameters, read_body, no_sheet, too_long, as_read}

-- a signed number handed over, as its bits
abbrev held : ℤ → ℤ
held z = to_z w32 (of_z w32 z)

-- ---- `is_sheet`
module _ {width height : ℤ} (f : SFits w32 width) (h : SFits w32 height) where
  pub sheet_if : lt_z (pos 0) (held width) ≡ true → lt_z (pos 0) (held height) ≡ (lt_z (pos 0) width && lt_z (pos 0) height)
  sheet_if e = rw (to_z-of_z h, rw (to_z-of_z f) at e)

  pub no_sheet_if : lt_z (pos 0) (held width) ≡ false → lt_z (pos 0) (held width) ≡ (lt_z (pos 0) width && lt_z (pos 0) height)
  no_sheet_if e = e ∙ rw (rw (to_z-of_z f) at e)

-- ---- `run_body`
module _ (program code g : List ℕ) (main : ℕ) (width height : ℤ) (f : SFits w32 width) (f₂ : SFits w32 height) (a n : ℕ) (ea : a ≡ start_in main) (en : n ≡ frame_in main)
    {r : Result (Unit {0}) Fault} {ts ws ts' ws' : List ℕ} where
  pub body_by : (size : ℕ) → size ≡ body_in main
      → DoesIn ts ws (main_begins g n (held width) (held height) >>= λ _. body_at main_fuel (setting program code g) (a + 2) size >>= λ _. give tt) r ts' ws'
      → DoesIn ts ws (body_run (setting program code g) main width height) r ts' ws'
  unfolding body_run
  body_by size es h = rw (ea, en, es, to_z-of_z f, to_z-of_z f₂) at h

-- what the interpreter asks
pub body_starts : (g ts ws ws₁ : List ℕ) (a n : ℕ) → Lent g ts ws → length ws₁ ≡ length ws → a < 2 ^ 16 → n < 2 ^ 32 → Body g ts ws₁ main_fuel (a + 2) n
body_starts g ts ws ws₁ a n l j i k = record { lent = record { lent = still_lent g ts ws ts ws₁ l refl j; deep = omega arith }; place = omega arith; small = k }

-- ---- `run_main`
pub still_room : (g ts ws ts₁ ws₁ : List ℕ) → Lent g ts ws → length ts₁ ≡ length ts → length ws₁ ≡ length ws → Room g ws₁
still_room g ts ws ts₁ ws₁ l i j = (still_lent g ts ws ts₁ ws₁ l i j).room

module _ (program code g : List ℕ) (main : ℕ) (width height : ℤ) (f : SFits w32 width) (f₂ : SFits w32 height) {x : Result (Unit {0}) Fault} {ts ws ts₁ ws₁ : List ℕ}
    (body : DoesIn ts ws (body_run (setting program code g) main (held width) (held height)) x ts₁ ws₁) where
  ran_so : DoesIn ts ws (body_run (setting program code g) main width height) x ts₁ ws₁
  ran_so = rw (to_z-of_z f, to_z-of_z f₂) at body

  pub main_stopped : {e : Fault} → x ≡ Err e → DoesIn ts ws (main_run (setting program code g) main width height) (Err e) ts₁ ws₁
  unfolding main_run
  main_stopped q = fails_in _ (rw q at ran_so)

  pub main_left : x ≡ Ok tt → {y : Result (Unit {0}) Fault} {ws₂ : List ℕ} → Does ws₁ (main_ends program ts₁ g) y ws₂
      → DoesIn ts ws (main_run (setting program code g) main width height) y ts₁ ws₂
  unfolding main_run
  main_left q b = goes_in _ (rw q at ran_so) record { equal = b.equal ts₁ }

-- ---- `run_read`
-- how many tokens a program has that was read
counted : (program tokens₁ : List ℕ) (r : Program) → Kept (Ok r) (tokens_in program) tokens₁ → r.tokens ≡ length (tokens_in program)
unfolding Kept
counted program tokens₁ r kept = kept.0

pub few_tokens : (program code tokens₁ : List ℕ) (r : Program) → seen (Ok r) code ≡ coded (tokens_in program) (reading program) → Kept (Ok r) (tokens_in program) tokens₁
    → r.tokens ≤ 8192
few_tokens program code tokens₁ r left kept =
    let w = whole program code r left in
    omega (arith, counted program tokens₁ r kept, w.1.read.few)

module _ (program code g tokens unread ts ws : List ℕ) (ready : ReadyToRead program g tokens unread ts ws) (width height : ℤ) where
  pub way_malformed : (r : Malformed) → seen (Err r) code ≡ coded (tokens_in program) (reading program)
      → Ran program g (reading_run program width height g) (Err (NotRead r.number r.place)) ts ws
  way_malformed r left = read_malformed program code g ts ws ready.short width height (ready.blank.front steps_used (omega arith)) r left

  module _ (r : Program) (left : seen (Ok r) code ≡ coded (tokens_in program) (reading program)) (k : ℕ) (q : k ≡ parameters_in r.main) where
    pub way_parameters : (k ≡ 2 → ⊥) → Ran program g (reading_run program width height g) (Err (Misuse 0)) ts ws
    way_parameters h = read_parameters program code g ts ws ready.short width height r left (ready.blank.front steps_used (omega arith)) (λ p. h (q ∙ p))

    -- its variables numbered, with the slice of tokens as a table
    module _ (tokens₁ : List ℕ) (kept : Kept (Ok r) (tokens_in program) tokens₁) where
      pub way_main : k ≡ 2 → length tokens₁ ≡ length tokens → (code₁ tokens₂ : List ℕ) (word : ℕ) → pass code₁ tokens₂ word ≡ number_all r.main r.tokens code tokens₁
          → SFits w32 width → SFits w32 height → (x : Result (Unit {0}) Fault) (ts₁ ws₁ : List ℕ)
          → DoesIn ts ws (main_run (setting program code₁ g) word (held width) (held height)) x ts₁ ws₁
          → Ran program g (reading_run program width height g) x ts₁ ws₁
      way_main two long code₁ tokens₂ word numbered f f₂ x ts₁ ws₁ h =
          read_body program code g ts ws ready.short width height r left tokens₁ code₁ tokens₂ word (counted program tokens₁ r kept) (omega (arith, long, ready.ready.tokens_long)) numbered
          (sym q ∙ two) ready.ready.lent ready.blank f.sfits f₂.sfits x ts₁ ws₁ (rw (to_z-of_z f, to_z-of_z f₂) at h).equal

-- ---- `run`
module _ (program g tokens code ts ws₀ ws : List ℕ) (ready : Ready g tokens code ts ws₀) (long : length ws ≡ length ws₀) (blank : Blank g ws) (width height : ℤ)
    (f : SFits w32 width) (f₂ : SFits w32 height) (ok : Bool) (sheet : ok ≡ (lt_z (pos 0) (held width) && lt_z (pos 0) (held height))) where
  is : ok ≡ (lt_z (pos 0) width && lt_z (pos 0) height)
  is = sheet ∙ rw (to_z-of_z f, to_z-of_z f₂)

  pub run_no_sheet : not ok ≡ true → Ran program g (painting_run program width height g) (Err (NoSheet 0)) ts ws
  run_no_sheet t = no_sheet program g ts ws width height (blank.front steps_used (omega arith)) (sym is ∙ not-true ok t)

  module _ (t : not ok ≡ false) where
    a_sheet : lt_z (pos 0) width && lt_z (pos 0) height ≡ true
    a_sheet = sym is ∙ not-false ok t

    pub run_too_long : 32768 < length program → Ran program g (painting_run program width height g) (Err (TooLong 0)) ts ws
    run_too_long l = too_long program g ts ws width height a_sheet (blank.front steps_used (omega arith)) l

    module _ (short : length program ≤ 32768) where
      pub run_ready : ReadyToRead program g tokens code ts ws
      run_ready = record {
        ready = record { tokens_long = ready.tokens_long; code_long = ready.code_long; lent = still_lent g ts ws₀ ts ws ready.lent refl long };
        short = short;
        blank = blank;
      }

      pub run_as_read : (x : Result (Unit {0}) Fault) (ts₁ ws₁ : List ℕ)
          → Ran program g (reading_run program (held width) (held height) g) x ts₁ ws₁
          → Ran program g (painting_run program width height g) x ts₁ ws₁
      run_as_read x ts₁ ws₁ h = as_read program g ts₁ ws₁ width height a_sheet short x (rw (to_z-of_z f, to_z-of_z f₂) at h)
