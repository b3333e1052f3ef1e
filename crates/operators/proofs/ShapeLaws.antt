-- Shapes made of figures moved and scaled.
use Prim.Native.Nat.{ℕ}
use mathlib.Core.Path.{◌≡◌, ◌∙◌, refl, sym}
use mathlib.Core.Bool.{Bool, true, false}
use mathlib.Core.List.{List}
use borrow.Author.Tests.{ne_eqb, eqb-true}
use lib.Dec.{eqb}
use lib.IntN.{ℤ}
use mir.Syntax.{w32}
use mir.Val.{SFits}
use mir.Facts.{to_z-of_z}
use Rattle.meaning.specs.Basics.{if◌then◌otherwise◌}
use Rattle.meaning.specs.Integer.{is_zero}
use Rattle.machine.specs.declared.Value.{Value}
use Rattle.machine.specs.declared.Value.TheVariants.{Integer, Shape}
use Rattle.std.specs.Prelude.{Result, Ok, Err}
use Rattle.std.specs.Result.{IsErrAnd}
use Rattle.machine.specs.declared.Fault.{Fault}
use Rattle.machine.specs.declared.Fault.TheVariants.{Misuse, DivisionByZero}
use Rattle.machine.specs.Fault.{number_of, place_of}
use Rattle.machine.proofs.Acts.{last}
use Rattle.machine.specs.declared.Figure.{Figure}
use Rattle.machine.specs.Act.{Raw, raw, Act, go_on, ◌>>=◌, give, fail, refuse, out_of, Does}
use Rattle.machine.specs.Act as Act
use Rattle.machine.specs.Shapes.{is_group_at, figure_at, new_shape}
use Rattle.machine.specs.Groups.{remake, remake_group}
use Rattle.machine.specs.Operate.{with_integer, with_text, calculated, compared, remaindered, joined, equality, answered, equated, operate_on}
use Rattle.figures.specs.Changes.{refusal, unless, changed}
use Rattle.values.proofs.Held.{held, by_number}
use Rattle.remaking.specs.Remaking.{changing}
use Rattle.operators.specs.Parts.{Draws}

-- ---- a shape and an integer
unfoldable settled_by : Result (Unit {0}) Fault → Act Value → Act Value
settled_by (Ok a) act = act
settled_by (Err e) act = fail (number_of e) (place_of e)

unfoldable drawing : List ℕ → ℕ → ℕ → ℕ → ℤ → Act Value
drawing grants tag p i n = settled_by (unless (refusal tag n) p) (remake grants p (changing tag n) i)

shape_drawn : (program grants : List ℕ) (tag p i : ℕ) (n : ℤ) (r : Raw) → operate_on program grants tag p (Shape i) (Integer n) r ≡ drawing grants tag p i n r
unfolding operate_on if◌then◌otherwise◌ drawing settled_by unless refusal changing changed calculated with_integer with_text joined compared remaindered equated equality answered ◌>>=◌ go_on refuse give fail
shape_drawn program grants tag p i n r =
    by_number P tag 16 refl λ a. by_number P tag 17 refl λ b. by_number P tag 18 refl λ c. by_number P tag 19 refl λ d. by_number P tag 20 (divided (is_zero n) refl) λ e.
    by_number P tag 21 refl λ f. by_number P tag 22 refl λ g. by_number P tag 23 refl λ h. by_number P tag 24 refl λ k. by_number P tag 25 refl λ l.
    by_number P tag 26 refl λ m. by_number P tag 27 refl λ o.
    rw (ne_eqb _ _ a, ne_eqb _ _ b, ne_eqb _ _ c, ne_eqb _ _ d, ne_eqb _ _ e, ne_eqb _ _ f)
    (rw (ne_eqb _ _ g, ne_eqb _ _ h, ne_eqb _ _ k, ne_eqb _ _ l, ne_eqb _ _ m, ne_eqb _ _ o) refl)
  where
    P : ℕ → Type 0
    P tag = operate_on program grants tag p (Shape i) (Integer n) r ≡ drawing grants tag p i n r

    divided : (b : Bool) → is_zero n ≡ b → P 20
    divided true e = rw e
    divided false e = rw e

-- what is allowed is not refused
pub no_refusal : (m p : ℕ) → Ok tt ≡ unless m p → m ≡ 0
unfolding unless if◌then◌otherwise◌
no_refusal m p e = go (eqb m 0) (eqb m 70) refl e
  where
    go : (a b : Bool) → eqb m 0 ≡ a → ◌≡◌ {A = Result (Unit {0}) Fault} (Ok tt) (if a then (λ _. Ok tt) otherwise λ _. if b then (λ _. Err (DivisionByZero p)) otherwise λ _. Err (Misuse p)) → m ≡ 0
    go true b q e = eqb-true m 0 q
    go false true q e = cc
    go false false q e = cc

module _ {ws g : List ℕ} {tag : ℕ} (p : ℕ) {i : ℕ} {n : ℤ} (j : SFits w32 n) where
  pub refuses : {e : Fault} {s : Result Value Fault} → Err e ≡ unless (refusal tag (held n)) p → IsErrAnd s (λ y. y ≡ e) → Draws g ws tag p (Shape i) (Integer n) s ws
  unfolding drawing settled_by fail out_of
  refuses {e} {s} h k = record {
    does = λ program. last {e = e} (record { equal = λ ts. sym (shape_drawn program g tag p i n _ ∙ rw (rw (to_z-of_z j) at (sym h)) refl) }) k;
  }

made_so : (g ws : List ℕ) (tag p i : ℕ) {n : ℤ} → SFits w32 n → Ok tt ≡ unless (refusal tag (held n)) p → (program ts : List ℕ)
    → operate_on program g tag p (Shape i) (Integer n) (raw ts ws) ≡ remake g p (changing tag n) i (raw ts ws)
unfolding drawing settled_by
made_so g ws tag p i {n} j h program ts = shape_drawn program g tag p i n (raw ts ws) ∙ rw (rw (to_z-of_z j) at (sym h)) refl

module _ {ws g : List ℕ} {tag : ℕ} (p : ℕ) {i : ℕ} {n : ℤ} (j : SFits w32 n) (h : Ok tt ≡ unless (refusal tag (held n)) p) {r : Result Value Fault} {ws' : List ℕ} (b : Bool)
    (s : b ≡ is_group_at ws i) where
  pub draws : (f fs : Figure) → b ≡ false → fs ≡ figure_at ws i → f ≡ changed tag fs (held n) → Does ws (new_shape g p f) r ws' → Draws g ws tag p (Shape i) (Integer n) r ws'
  unfolding remake changing ◌>>=◌ go_on Act.held if◌then◌otherwise◌
  draws f fs u t v a = record { does = λ program. record { equal = λ ts. a.equal ts ∙ sym (made_so g ws tag p i j h program ts ∙ rw (← s, u, v, t, to_z-of_z j)) } }

  pub draws_group : b ≡ true → Does ws (remake_group g p (changing tag (held n)) i) r ws' → Draws g ws tag p (Shape i) (Integer n) r ws'
  unfolding remake ◌>>=◌ go_on Act.held if◌then◌otherwise◌
  draws_group u a = record { does = λ program. record { equal = λ ts. (rw (to_z-of_z j) at a).equal ts ∙ sym (made_so g ws tag p i j h program ts ∙ rw (← s, u)) } }
