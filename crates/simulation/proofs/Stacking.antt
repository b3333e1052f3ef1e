-- Arguments evaluated, each pushed.
use Prim.Native.Nat.{ℕ, suc, ◌+◌, ◌≤◌, ◌<◌}
use native.Mathlib.Omega.{arith}
use native.Mathlib.Nat.{le_refl}
use native.Mathlib.Numerals.{add-one}
use mathlib.Core.Path.{◌≡◌, refl, ap, ap₂, sym, ◌∙◌}
use mathlib.Core.Logic.{◌≢◌}
use mathlib.Core.Bool.{Bool, true, false}
use mathlib.Core.List.{List, [], ◌∷◌}
use lib.ListN.{get_or}
use lib.Dec.{eqb}
use borrow.Author.Tests.{eqb-true, eqb-false}
use Rattle.meaning.specs.Token.{Token}
use Rattle.meaning.specs.Value as Value
use Rattle.meaning.specs.State.{State}
use Rattle.meaning.specs.Book.{Amounts}
use Rattle.machine.specs.declared.Value.{Value}
use Rattle.machine.specs.Words.{packed, unpacked}
use Rattle.machine.specs.Act.{Raw}
use Rattle.machine.specs.Stack.{argument_at}
use Rattle.machine.specs.Layout.{steps_used, tables_made, arguments_held}
use Rattle.simulation.specs.Meant.{meant_value, meant_word, listed}
use Rattle.simulation.specs.Sound.{Valid}
use Rattle.simulation.specs.Follows.{Related, Later}
use Rattle.simulation.proofs.Frames.{later_refl, later_trans, untouched_refl, untouched_trans, valid_later, meant_later}
use Rattle.simulation.proofs.Results.{Untouched, AfterValue}
use Rattle.simulation.proofs.Arguments.{Pushed}
use Rattle.simulation.proofs.Keys.{back_again}
use Rattle.simulation.proofs.Library.{Stacked, Above}

-- some more arguments are held, on top of those that were
module _ (program : List ℕ) (ts : List Token) (g : List ℕ) where
  pub record AfterArguments (r : Raw) (us : List Value.Value) (r' : Raw) (s : State) (total : Amounts) : Type 0 where
    pub many : ℕ
    pub related : Related program ts g r' s total
    pub later : Later program r r'
    pub spare : get_or r'.words tables_made 0 + get_or r.words steps_used 0 ≤ get_or r.words tables_made 0 + get_or r'.words steps_used 0
    pub held : get_or r'.words arguments_held 0 ≡ get_or r.words arguments_held 0 + many
    pub untouched : Untouched program ts g r r'
    pub above : Above program ts r' (get_or r.words arguments_held 0)
    pub stacked : Stacked program r' (get_or r.words arguments_held 0) many us

module _ {program : List ℕ} {ts : List Token} {g : List ℕ} where
  pub no_more : {r : Raw} {s : State} {total : Amounts} → Related program ts g r s total → AfterArguments program ts g r [] r s total
  unfolding listed
  no_more {r} h = record {
    many = 0;
    related = h;
    later = later_refl program r;
    spare = le_refl _;
    held = omega arith;
    untouched = untouched_refl program ts g r;
    above = h.sound.variables.within;
    stacked = record { within = omega arith; valid = λ k x y. absurd (omega arith); packs = λ k x y. absurd (omega arith); are = refl };
  }

  module _ {r r₁ r₂ r₃ : Raw} {v : Value} {u : Value.Value} {us : List Value.Value} {s₁ s₃ : State} {total₁ total₃ : Amounts}
      (a : AfterValue program ts g r v u r₁ s₁ total₁) (b : Pushed program ts g r₁ (packed v) r₂ s₁ total₁) (c : AfterArguments program ts g r₂ us r₃ s₃ total₃) where
    base : get_or r₂.words arguments_held 0 ≡ suc (get_or r.words arguments_held 0)
    base = b.held ∙ ap (λ n. n + 1) a.after.held ∙ add-one (get_or r.words arguments_held 0)

    later₃ : Later program r₁ r₃
    later₃ = later_trans b.later c.later

    -- they stand above the frame
    above₁ : Above program ts r₁ (get_or r.words arguments_held 0)
    above₁ = rw a.after.held at a.after.related.sound.variables.within

    above₂ : Above program ts r₂ (get_or r.words arguments_held 0)
    above₂ = rw (b.untouched.frame, b.untouched.running) above₁

    own : argument_at r₃.words (get_or r.words arguments_held 0) ≡ packed v
    own =
        c.untouched.above (get_or r.words arguments_held 0) above₂ (omega (arith, base)) ∙ ap (argument_at r₂.words) (sym a.after.held) ∙ b.newest

    own_value : unpacked (argument_at r₃.words (get_or r.words arguments_held 0)) ≡ v
    own_value = rw own (back_again a.after.related.sound v a.valid)

    now_valid : Valid program r₃.words v
    now_valid = valid_later later₃ v a.valid

    pub one_more : AfterArguments program ts g r (u ∷ us) r₃ s₃ total₃
    unfolding listed
    one_more = record {
      many = suc c.many;
      related = c.related;
      later = later_trans a.after.later later₃;
      spare = omega (arith, a.after.spare, b.steps, b.tables, c.spare);
      held = omega (arith, c.held, base);
      untouched = untouched_trans (rw a.after.held (le_refl _)) a.after.untouched (untouched_trans (omega (arith, b.held)) b.untouched c.untouched);
      above = rw (c.untouched.frame, c.untouched.running) above₂;
      stacked = record {
        within = omega (arith, c.held, base);
        valid = λ k x y. at k x y (eqb k (get_or r.words arguments_held 0)) refl;
        packs = λ k x y. packed_at k x y (eqb k (get_or r.words arguments_held 0)) refl;
        are = ap₂ ◌∷◌ (a.means ∙ sym (meant_later later₃ v a.valid) ∙ ap (meant_value program r₃.texts) (sym own_value))
            (c.stacked.are ∙ ap (λ n. listed (λ k. meant_word program r₃ (argument_at r₃.words k)) n c.many) base);
      };
    }
      where
        at : (k : ℕ) → get_or r.words arguments_held 0 ≤ k → k < get_or r.words arguments_held 0 + suc c.many → (t : Bool) → eqb k (get_or r.words arguments_held 0) ≡ t
            → Valid program r₃.words (unpacked (argument_at r₃.words k))
        at k x y true e = rw (eqb-true k (get_or r.words arguments_held 0) e, own_value) now_valid
        at k x y false e = let d : k ≢ get_or r.words arguments_held 0 = eqb-false k (get_or r.words arguments_held 0) e in c.stacked.valid k (omega (arith, base)) (omega (arith, base))

        packed_at : (k : ℕ) → get_or r.words arguments_held 0 ≤ k → k < get_or r.words arguments_held 0 + suc c.many → (t : Bool) → eqb k (get_or r.words arguments_held 0) ≡ t
            → packed (unpacked (argument_at r₃.words k)) ≡ argument_at r₃.words k
        packed_at k x y true e = rw (eqb-true k (get_or r.words arguments_held 0) e, own_value, own)
        packed_at k x y false e = let d : k ≢ get_or r.words arguments_held 0 = eqb-false k (get_or r.words arguments_held 0) e in c.stacked.packs k (omega (arith, base)) (omega (arith, base))
