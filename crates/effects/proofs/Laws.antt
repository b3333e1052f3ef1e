-- One law for each way through each function.
use Prim.Native.Nat.{ℕ, ◌*◌, ◌%◌}
use mathlib.Core.Path.{◌≡◌, refl, sym, ◌∙◌}
use mathlib.Core.Bool.{Bool, true, false, not}
use mathlib.Core.List.{List}
use native.Mathlib.Omega.{arith}
use lib.ListN.{get_or, set}
use borrow.Author.Tests.{ne_eqb}
use Rattle.meaning.specs.Basics.{if◌then◌otherwise◌}
use Rattle.machine.specs.Opcodes.{tag_in, extra_in, tag_assign, tag_return}
use Rattle.machine.specs.declared.Value.{Value}
use Rattle.std.specs.Prelude.{Result, Ok, Err}
use Rattle.machine.specs.declared.Fault.{Fault}
use Rattle.machine.specs.declared.Fault.TheVariants.{Misuse, Destroyed, Undeclared}
use Rattle.machine.specs.Words.{kind_in, number_in, truth_in, packed, unpacked, kind_truth, kind_shape}
use Rattle.machine.specs.Layout.{loop_unit}
use Rattle.machine.specs.Act.{held, go_on, ◌>>=◌, give, fail, refuse, out_of, Does, Gives}
use Rattle.machine.specs.Shapes.{is_group_at, destroyed_at}
use Rattle.machine.specs.Groups.{copy_shape}
use Rattle.machine.specs.Operate.{with_shape, with_group}
use Rattle.machine.specs.Loops.{inner_unit}
use Rattle.effects.specs.Looped.{opening, Enters}
use Rattle.machine.specs.Variables.{is_dead, usable, is_declared, declare_once, set_variable}
use Rattle.machine.specs.declared.Flow.{Flow}
use Rattle.machine.specs.declared.Flow.TheVariants.{Onward, Returned}
use Rattle.machine.specs.Effects.{copied, assigning, finishing, saying}
use Rattle.frames.proofs.VariableLaws.{not_dead}

-- ---- assignments
module _ (ws g : List ℕ) (slot k p : ℕ) (ok : Bool) (d : ok ≡ is_declared ws slot) where
  known_is : ok ≡ true → not (is_declared ws slot) ≡ false
  known_is t = rw (← d, t)

  pub unknown : ok ≡ false → Does ws (assigning g p slot k) (Err (Undeclared p)) ws
  unfolding assigning ◌>>=◌ go_on held refuse fail out_of
  unknown t = record { equal = λ ts. rw (← d, t) }

  pub word_put : (ws₁ : List ℕ) → ok ≡ true → (kind_in k ≡ kind_shape → ⊥) → Gives ws (set_variable slot k) tt ws₁ → Does ws (assigning g p slot k) (Ok Onward) ws₁
  unfolding assigning copied usable if◌then◌otherwise◌ ◌>>=◌ go_on held refuse give out_of
  word_put ws₁ t n s = record { equal = λ ts. rw (known_is t, ← not_dead ws k n, ne_eqb _ _ n, ← s.equal ts) }

  pub shape_dead : (b : Bool) → ok ≡ true → b ≡ is_dead ws (unpacked k) → b ≡ true → Does ws (assigning g p slot k) (Err (Destroyed p)) ws
  unfolding assigning usable ◌>>=◌ go_on held refuse fail give out_of
  shape_dead b t e u = record { equal = λ ts. rw (known_is t, ← e, u) }

  module _ (t : ok ≡ true) (l : Bool) (d₁ : l ≡ is_dead ws (unpacked k)) (u : l ≡ false) (i : kind_in k ≡ kind_shape) (n : ℕ) (m : n ≡ number_in k)
      (a : Result Value Fault) (ws₁ : List ℕ) (o : Does ws (copy_shape g p n) a ws₁) where
    pub no_copy : (f : Fault) → a ≡ Err f → Does ws (assigning g p slot k) (Err f) ws₁
    unfolding assigning copied usable if◌then◌otherwise◌ ◌>>=◌ go_on held refuse give out_of
    no_copy f b = record { equal = λ ts. sym (rw (known_is t, ← d₁, u, i, ← m, ← o.equal ts, b)) }

    pub copy_put : (v : Value) (c : ℕ) (ws₂ : List ℕ) → a ≡ Ok v → c ≡ packed v → Gives ws₁ (set_variable slot c) tt ws₂ → Does ws (assigning g p slot k) (Ok Onward) ws₂
    unfolding assigning copied usable if◌then◌otherwise◌ ◌>>=◌ go_on held refuse give out_of
    copy_put v c ws₂ b r s = record { equal = λ ts. sym (rw (known_is t, ← d₁, u, i, ← m, ← o.equal ts, b, ← r, ← s.equal ts)) }

-- ---- statements of one expression
module _ (ws g : List ℕ) (w k p tag : ℕ) (i : tag ≡ tag_in w) where
  pub is_assignment : (slot : ℕ) (r : Result Flow Fault) (ws₁ : List ℕ) → tag ≡ tag_assign → slot ≡ extra_in w → Does ws (assigning g p slot k) r ws₁ → Does ws (finishing g w k p) r ws₁
  unfolding finishing if◌then◌otherwise◌
  is_assignment slot r ws₁ t e h = record { equal = λ ts. h.equal ts ∙ rw (← i, t, e) }

  pub is_return : (v : Value) → tag ≡ tag_return → v ≡ unpacked k → Gives ws (finishing g w k p) (Returned v) ws
  unfolding finishing if◌then◌otherwise◌ give
  is_return v t e = record { equal = λ ts. rw (← i, t, e) }

  pub is_act : (tag ≡ tag_assign → ⊥) → (tag ≡ tag_return → ⊥) → Gives ws (finishing g w k p) Onward ws
  unfolding finishing if◌then◌otherwise◌ give
  is_act a b = record { equal = λ ts. rw (← i, ne_eqb _ _ a, ne_eqb _ _ b) }

-- ---- tests
module _ (k p n : ℕ) (i : n ≡ kind_in k) (ws : List ℕ) where
  pub no_truth : (n ≡ kind_truth → ⊥) → Does ws (saying k p) (Err (Misuse p)) ws
  unfolding saying if◌then◌otherwise◌ fail out_of
  no_truth o = record { equal = λ ts. rw (← i, ne_eqb _ _ o) }

  pub says : (b : Bool) → n ≡ kind_truth → b ≡ truth_in k → Does ws (saying k p) (Ok b) ws
  unfolding saying if◌then◌otherwise◌ give out_of
  says b s e = record { equal = λ ts. rw (← i, s, ← e) }

-- ---- loops over groups
module _ (ws : List ℕ) (slot i p : ℕ) (b : Bool) (d : b ≡ destroyed_at ws i) where
  pub loop_dead : b ≡ true → Does ws (opening slot i p) (Err (Destroyed p)) ws
  unfolding opening usable is_dead fail ◌>>=◌ go_on refuse out_of
  loop_dead t = record { equal = λ ts. rw (← d, t) }

  module _ (t : b ≡ false) (c : Bool) (e : c ≡ is_group_at ws i) where
    pub loop_figure : c ≡ false → Does ws (opening slot i p) (Err (Misuse p)) ws
    unfolding opening usable is_dead with_group with_shape fail if◌then◌otherwise◌ ◌>>=◌ go_on refuse give held out_of
    loop_figure o = record { equal = λ ts. rw (← d, t, ← e, o) }

    pub loop_opens : (ws₁ : List ℕ) → c ≡ true → Gives ws (declare_once slot) tt ws₁ → Does ws (opening slot i p) (Ok tt) ws₁
    unfolding opening usable is_dead with_group with_shape if◌then◌otherwise◌ ◌>>=◌ go_on refuse give held out_of
    loop_opens ws₁ o g = record { equal = λ ts. rw (← d, t, ← e, o, ← g.equal ts) }

pub outermost : (u : ℕ) → u ≡ 0 → 1 ≡ inner_unit u
unfolding inner_unit if◌then◌otherwise◌
outermost u z = rw z

pub inside_another : (u : ℕ) → (u ≡ 0 → ⊥) → u % 9223372036854775808 * 2 ≡ inner_unit u
unfolding inner_unit if◌then◌otherwise◌
inside_another u z = rw (ne_eqb _ _ z) (omega arith)

pub enters : (ws : List ℕ) (v : ℕ) → v ≡ inner_unit (get_or ws loop_unit 0) → Enters ws (get_or ws loop_unit 0) (set ws loop_unit v)
enters ws v e = record { outer = refl; words = rw e }
