-- Values of one kind: every other kind is refused alike.
use Prim.Native.Nat.{ℕ, ◌^◌, ◌<◌}
use mathlib.Core.Path.{◌≡◌, refl}
use mathlib.Core.Bool.{Bool, true, false}
use mathlib.Core.List.{List}
use lib.ListN.{get_or}
use lib.IntN.{ℤ}
use lib.Signed.{mag}
use Rattle.meaning.specs.Basics.{if◌then◌otherwise◌}
use Rattle.meaning.specs.Figure as Meaning
use Rattle.meaning.specs.State.{State, content_of, by_content}
use Rattle.meaning.specs.Token.{Token}
use Rattle.meaning.specs.Run.{Action}
use Rattle.meaning.specs.Run as Run
use Rattle.meaning.specs.Book.{Amounts}
use Rattle.meaning.specs.Operator as Operator
use Rattle.machine.specs.declared.Value.{Value}
use Rattle.machine.specs.declared.Value.TheVariants.{Integer, Text, Boolean, Nothing, Table, Shape}
use Rattle.machine.specs.Act.{Raw, Act}
use Rattle.machine.specs.Act as Act
use Rattle.machine.specs.Texts.{text_of}
use Rattle.machine.specs.Operate.{with_integer, with_text, with_boolean, with_table, with_shape, with_group}
use Rattle.machine.specs.Layout.{shapes_used, text_used, tables_made}
use Rattle.machine.specs.declared.Figure.{Figure}
use Rattle.machine.specs.Shapes.{is_group_at, figure_at}
use Rattle.machine.specs.Library.{with_figure}
use Rattle.simulation.specs.Meant.{meant_value, meant_figure, components_of}
use Rattle.simulation.specs.Sound.{Held, Valid}
use Rattle.simulation.specs.Follows.{Related, Follows}
use Rattle.simulation.proofs.Binding.{Relation}
use Rattle.simulation.proofs.Results.{failed, steps_told}
use Rattle.simulation.proofs.Usable.{figure_found, group_found}

module _ {granted : Amounts} {A B : Type 0} {R : Relation A B} {program : List ℕ} {ts : List Token} {g : List ℕ} {r : Raw} {s : State} {total : Amounts}
    (h : Related program ts g r s total) (p : ℕ) where
  pub with_integer_lem : (v : Value) → Valid program r.words v → (k : ℤ → Act A) (k' : ℤ → Action B) → ((z : ℤ) → mag z < 2 ^ 31 → Follows granted total R (k z r) (k' z s))
      → Follows granted total R (with_integer p v k r) (Operator.with_integer p (meant_value program r.texts v) k' s)
  unfolding with_integer Operator.with_integer meant_value Valid Act.fail Run.fail
  with_integer_lem (Integer z) x k k' f = f z x
  with_integer_lem (Text t) x k k' f = failed 20 p r (steps_told h)
  with_integer_lem (Boolean b) x k k' f = failed 20 p r (steps_told h)
  with_integer_lem Nothing x k k' f = failed 20 p r (steps_told h)
  with_integer_lem (Table t) x k k' f = failed 20 p r (steps_told h)
  with_integer_lem (Shape i) x k k' f = failed 20 p r (steps_told h)

  pub with_text_lem : (v : Value) → Valid program r.words v → (k : ℕ → Act A) (k' : List ℕ → Action B)
      → ((t : ℕ) → Held program (get_or r.words text_used 0) t → Follows granted total R (k t r) (k' (text_of program r.texts t) s))
      → Follows granted total R (with_text p v k r) (Operator.with_string p (meant_value program r.texts v) k' s)
  unfolding with_text Operator.with_string meant_value Valid Act.fail Run.fail
  with_text_lem (Integer z) x k k' f = failed 20 p r (steps_told h)
  with_text_lem (Text t) x k k' f = f t x
  with_text_lem (Boolean b) x k k' f = failed 20 p r (steps_told h)
  with_text_lem Nothing x k k' f = failed 20 p r (steps_told h)
  with_text_lem (Table t) x k k' f = failed 20 p r (steps_told h)
  with_text_lem (Shape i) x k k' f = failed 20 p r (steps_told h)

  pub with_boolean_lem : (v : Value) → Valid program r.words v → (k : Bool → Act A) (k' : Bool → Action B) → ((b : Bool) → Follows granted total R (k b r) (k' b s))
      → Follows granted total R (with_boolean p v k r) (Operator.with_boolean p (meant_value program r.texts v) k' s)
  unfolding with_boolean Operator.with_boolean meant_value Valid Act.fail Run.fail
  with_boolean_lem (Integer z) x k k' f = failed 20 p r (steps_told h)
  with_boolean_lem (Text t) x k k' f = failed 20 p r (steps_told h)
  with_boolean_lem (Boolean b) x k k' f = f b
  with_boolean_lem Nothing x k k' f = failed 20 p r (steps_told h)
  with_boolean_lem (Table t) x k k' f = failed 20 p r (steps_told h)
  with_boolean_lem (Shape i) x k k' f = failed 20 p r (steps_told h)

  pub with_table_lem : (v : Value) → Valid program r.words v → (k : ℕ → Act A) (k' : ℕ → Action B) → ((t : ℕ) → t < get_or r.words tables_made 0 → Follows granted total R (k t r) (k' t s))
      → Follows granted total R (with_table p v k r) (Operator.with_table p (meant_value program r.texts v) k' s)
  unfolding with_table Operator.with_table meant_value Valid Act.fail Run.fail
  with_table_lem (Integer z) x k k' f = failed 20 p r (steps_told h)
  with_table_lem (Text t) x k k' f = failed 20 p r (steps_told h)
  with_table_lem (Boolean b) x k k' f = failed 20 p r (steps_told h)
  with_table_lem Nothing x k k' f = failed 20 p r (steps_told h)
  with_table_lem (Table t) x k k' f = f t x
  with_table_lem (Shape i) x k k' f = failed 20 p r (steps_told h)

  pub with_shape_lem : (v : Value) → Valid program r.words v → (k : ℕ → Act A) (k' : ℕ → Action B) → ((i : ℕ) → i < get_or r.words shapes_used 0 → Follows granted total R (k i r) (k' i s))
      → Follows granted total R (with_shape p v k r) (Operator.with_shape_number p (meant_value program r.texts v) k' s)
  unfolding with_shape Operator.with_shape_number meant_value Valid Act.fail Run.fail
  with_shape_lem (Integer z) x k k' f = failed 20 p r (steps_told h)
  with_shape_lem (Text t) x k k' f = failed 20 p r (steps_told h)
  with_shape_lem (Boolean b) x k k' f = failed 20 p r (steps_told h)
  with_shape_lem Nothing x k k' f = failed 20 p r (steps_told h)
  with_shape_lem (Table t) x k k' f = failed 20 p r (steps_told h)
  with_shape_lem (Shape i) x k k' f = f i x

  -- a figure, not a group; a group, not a figure
  pub with_figure_lem : (v : Value) → Valid program r.words v → (k : Figure → Act A) (k' : Meaning.Figure → Action B)
      → ((i : ℕ) → i < get_or r.words shapes_used 0 → is_group_at r.words i ≡ false
      → Follows granted total R (k (figure_at r.words i) r) (k' (meant_figure program r.texts (figure_at r.words i)) s))
      → Follows granted total R (with_figure p v k r) (Operator.with_figure p (meant_value program r.texts v) k' s)
  unfolding with_figure Operator.with_figure by_content if◌then◌otherwise◌ Act.◌>>=◌ Act.go_on Act.held Act.fail Run.◌>>=◌ Run.go_on Run.current Run.fail
  with_figure_lem v x k k' f = with_shape_lem v x _ _ (λ i l. go i l (is_group_at r.words i) refl)
    where
      go : (i : ℕ) (l : i < get_or r.words shapes_used 0) (t : Bool) → is_group_at r.words i ≡ t
          → Follows granted total R (Act.◌>>=◌ Act.held (λ ws. if is_group_at ws i then (λ _. Act.fail 20 p) otherwise λ _. k (figure_at ws i)) r)
          (Run.◌>>=◌ Run.current (λ s. by_content (content_of s i) k' (λ cs. Run.fail 20 p)) s)
      go i l true e = rw (e, group_found h i l e) (failed 20 p r (steps_told h))
      go i l false e = rw (e, figure_found h i l e) (f i l e)

  pub with_group_lem : (v : Value) → Valid program r.words v → (k : ℕ → Act A) (k' : List ℕ → Action B)
      → ((i : ℕ) → i < get_or r.words shapes_used 0 → is_group_at r.words i ≡ true → Follows granted total R (k i r) (k' (components_of g r.words i) s))
      → Follows granted total R (with_group p v k r) (Operator.with_group p (meant_value program r.texts v) k' s)
  unfolding with_group Operator.with_group by_content if◌then◌otherwise◌ Act.◌>>=◌ Act.go_on Act.held Act.fail Run.◌>>=◌ Run.go_on Run.current Run.fail
  with_group_lem v x k k' f = with_shape_lem v x _ _ (λ i l. go i l (is_group_at r.words i) refl)
    where
      go : (i : ℕ) (l : i < get_or r.words shapes_used 0) (t : Bool) → is_group_at r.words i ≡ t
          → Follows granted total R (Act.◌>>=◌ Act.held (λ ws. if is_group_at ws i then (λ _. k i) otherwise λ _. Act.fail 20 p) r)
          (Run.◌>>=◌ Run.current (λ s. by_content (content_of s i) (λ a. Run.fail 20 p) k') s)
      go i l true e = rw (e, group_found h i l e) (f i l e)
      go i l false e = rw (e, figure_found h i l e) (failed 20 p r (steps_told h))
