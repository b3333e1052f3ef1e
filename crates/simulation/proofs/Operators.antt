-- Operators do what the meaning says.
use Prim.Native.Nat.{ℕ, suc, ◌-◌, ◌^◌, ◌<◌}
use native.Mathlib.Omega.{arith}
use native.Mathlib.Nat.{le_refl, le_trans}
use mathlib.Core.Path.{◌≡◌, refl, ap, sym, ◌∙◌, subst}
use mathlib.Core.Bool.{Bool, true, false, not, ◌&&◌}
use mathlib.Core.List.{List}
use lib.ListN.{get_or}
use lib.IntN.{ℤ}
use lib.Signed.{mag, lt_z}
use Rattle.meaning.specs.Basics.{if◌then◌otherwise◌}
use Rattle.meaning.specs.Token.{Token}
use Rattle.meaning.specs.Integer.{sum, difference, product, quotient, shifted_left, shifted_right, is_zero}
use Rattle.meaning.proofs.IntegerLaws.{sum_range, difference_range, product_range, quotient_range, remainder_range, shifted_left_range, shifted_right_range, product_zero, quotient_zero}
use Rattle.meaning.specs.Figure as Meaning
use Rattle.meaning.specs.Tree.{Operator, concatenate, add, subtract, multiply, divide, remainder, shift_right, shift_left, equal, unequal, greater, less}
use Rattle.meaning.specs.Value as Value
use Rattle.meaning.specs.State.{State}
use Rattle.meaning.specs.Run as Run
use Rattle.meaning.specs.Book.{Amounts}
use Rattle.meaning.specs.Group.{alike}
use Rattle.meaning.specs.Operator as Operator
use Rattle.machine.specs.Opcodes.{tag_of}
use Rattle.machine.specs.declared.Value.{Value}
use Rattle.machine.specs.declared.Value.TheVariants.{Integer, Text, Boolean, Nothing, Table, Shape}
use Rattle.machine.specs.Act.{Raw}
use Rattle.machine.specs.Act as Act
use Rattle.machine.specs.declared.Figure.{Figure}
use Rattle.machine.specs.Layout.{shapes_granted}
use Rattle.machine.specs.Groups.{alike_at}
use Rattle.machine.specs.Operate.{
  with_integer,
  with_text,
  plus_x,
  plus_y,
  minus_x,
  minus_y,
  scaled_up,
  scaled_down,
  calculated,
  compared,
  remaindered,
  joined,
  Comparison,
  refused,
  settled,
  of_shapes,
  equality,
  figures_same,
  answered,
  equated,
  operate_on,
  operate,
}
use Rattle.machine.specs.Evaluate.{Setting}
use Rattle.simulation.specs.Meant.{meant_value, meant_figure}
use Rattle.simulation.specs.Sound.{Valid, Proper}
use Rattle.simulation.specs.Follows.{Grants, Related, Follows}
use Rattle.simulation.proofs.Binding.{bind, give_after}
use Rattle.simulation.proofs.Frames.{valid_later, meant_later}
use Rattle.simulation.proofs.Results.{given, failed, Values, unmoved, onward, from_here, steps_told}
use Rattle.simulation.proofs.Results as Results
use Rattle.simulation.proofs.Usable.{uses}
use Rattle.simulation.proofs.Texts.{joins}
use Rattle.simulation.proofs.Figures.{moved_meant, moved_proper, scaled_meant, scaled_proper}
use Rattle.simulation.proofs.Equality.{meant_comparison, equal_alike, Fine, fine}
use Rattle.simulation.proofs.Remaking.{remakes}
use Rattle.simulation.proofs.Alike.{AfterAlike}
use Rattle.simulation.proofs.Alike as Alike

-- a figure made from a figure and an integer, as the meaning makes it
pub record Makes (G : Figure → ℤ → Figure) (G' : Meaning.Figure → ℤ → Meaning.Figure) : Type 0 where
  pub proper : {program : List ℕ} {used : ℕ} (f : Figure) (n : ℤ) → Proper program used f → Proper program used (G f n)
  pub meant : (program texts : List ℕ) (f : Figure) (n : ℤ) → f.kind < 4 → meant_figure program texts (G f n) ≡ G' (meant_figure program texts f) n

module _ (e : Setting) {ts : List Token} {granted : Amounts} (gr : Grants e.grants granted) {r : Raw} {s : State} {total : Amounts}
    (h : Related e.program ts e.grants r s total) (p : ℕ) where
  no : {A B : Type 0} {R : A → B → Raw → State → Amounts → Type 0} → Follows granted total R (Act.fail 20 p r) (Run.fail 20 p s)
  unfolding Act.fail Run.fail
  no = failed 20 p r (steps_told h)

  -- ---- arithmetic
  module _ (divides : Bool) (f : ℤ → ℤ → ℤ) (G : Figure → ℤ → Figure) (G' : Meaning.Figure → ℤ → Meaning.Figure)
      (range : (a b : ℤ) → mag a < 2 ^ 31 → mag (f a b) < 2 ^ 31) (makes : Makes G G') where
    numbers : (a b : ℤ) → mag a < 2 ^ 31 → Follows granted total (Values e.program ts e.grants r)
        (calculated e.grants divides f G p (Integer a) (Integer b) r) (Operator.calculated divides f G' p (Value.integer a) (Value.integer b) s)
    unfolding calculated Operator.calculated with_integer Operator.with_integer Act.◌>>=◌ Run.◌>>=◌ Act.give Run.give Valid meant_value
    numbers a b v =
        bind (Results.refused h (divides && is_zero b) (divides && is_zero b) refl 70 p) (λ _ _ r' s' total' q. given (record { after = q; valid = range a b v; means = refl }))

    shaped : (i : ℕ) (b : ℤ) → i < get_or r.words 1 0 → Follows granted total (Values e.program ts e.grants r)
        (calculated e.grants divides f G p (Shape i) (Integer b) r) (Operator.calculated divides f G' p (Value.shape i) (Value.integer b) s)
    unfolding calculated Operator.calculated with_integer Operator.with_integer Act.◌>>=◌ Run.◌>>=◌
    shaped i b l =
        bind (Results.refused h (divides && is_zero b) (divides && is_zero b) refl 70 p) (λ _ _ r' s' total' q.
        from_here q (give_after Value.shape (λ v j r₁ s₁ total₁ x. x)
        (remakes e.program ts e.grants gr p (λ a. G a b) (λ a. G' a b) (λ used a v. makes.proper a b v) (λ texts a k. makes.meant e.program texts a b k)
        q.related i (le_trans l q.later.shapes))))

    pub calculates : (v w : Value) → Valid e.program r.words v → Valid e.program r.words w
        → Follows granted total (Values e.program ts e.grants r) (calculated e.grants divides f G p v w r)
        (Operator.calculated divides f G' p (meant_value e.program r.texts v) (meant_value e.program r.texts w) s)
    unfolding calculated Operator.calculated with_integer Operator.with_integer meant_value Valid
    calculates (Integer a) (Integer b) x y = numbers a b x
    calculates (Integer a) (Text b) x y = no
    calculates (Integer a) (Boolean b) x y = no
    calculates (Integer a) Nothing x y = no
    calculates (Integer a) (Table b) x y = no
    calculates (Integer a) (Shape b) x y = no
    calculates (Text a) w x y = no
    calculates (Boolean a) w x y = no
    calculates Nothing w x y = no
    calculates (Table a) w x y = no
    calculates (Shape a) (Integer b) x y = shaped a b x
    calculates (Shape a) (Text b) x y = no
    calculates (Shape a) (Boolean b) x y = no
    calculates (Shape a) Nothing x y = no
    calculates (Shape a) (Table b) x y = no
    calculates (Shape a) (Shape b) x y = no

  -- ---- the other operators
  pub compares : (f : ℤ → ℤ → Bool) (v w : Value) → Follows granted total (Values e.program ts e.grants r) (compared f p v w r)
      (Operator.compared f p (meant_value e.program r.texts v) (meant_value e.program r.texts w) s)
  unfolding compared Operator.compared with_integer Operator.with_integer meant_value Valid Act.give Run.give
  compares f (Integer a) (Integer b) = given (record { after = unmoved h; valid = tt; means = refl })
  compares f (Integer a) (Text b) = no
  compares f (Integer a) (Boolean b) = no
  compares f (Integer a) Nothing = no
  compares f (Integer a) (Table b) = no
  compares f (Integer a) (Shape b) = no
  compares f (Text a) w = no
  compares f (Boolean a) w = no
  compares f Nothing w = no
  compares f (Table a) w = no
  compares f (Shape a) w = no

  pub remainders : (v w : Value) → Follows granted total (Values e.program ts e.grants r) (remaindered p v w r)
      (Operator.remaindered p (meant_value e.program r.texts v) (meant_value e.program r.texts w) s)
  unfolding remaindered Operator.remaindered with_integer Operator.with_integer meant_value Valid Act.◌>>=◌ Run.◌>>=◌ Act.give Run.give
  remainders (Integer a) (Integer b) = bind (Results.refused h (is_zero b) (is_zero b) refl 70 p) (λ _ _ r' s' total' q. given (record { after = q; valid = remainder_range a b; means = refl }))
  remainders (Integer a) (Text b) = no
  remainders (Integer a) (Boolean b) = no
  remainders (Integer a) Nothing = no
  remainders (Integer a) (Table b) = no
  remainders (Integer a) (Shape b) = no
  remainders (Text a) w = no
  remainders (Boolean a) w = no
  remainders Nothing w = no
  remainders (Table a) w = no
  remainders (Shape a) w = no

  pub concatenates : (v w : Value) → Valid e.program r.words v → Valid e.program r.words w
      → Follows granted total (Values e.program ts e.grants r) (joined e.program e.grants p v w r)
      (Operator.joined p (meant_value e.program r.texts v) (meant_value e.program r.texts w) s)
  unfolding joined Operator.joined with_text Operator.with_string meant_value Valid
  concatenates (Integer a) w x y = no
  concatenates (Text a) (Integer b) x y = no
  concatenates (Text a) (Text b) x y = joins gr h a b x y p
  concatenates (Text a) (Boolean b) x y = no
  concatenates (Text a) Nothing x y = no
  concatenates (Text a) (Table b) x y = no
  concatenates (Text a) (Shape b) x y = no
  concatenates (Boolean a) w x y = no
  concatenates Nothing w x y = no
  concatenates (Table a) w x y = no
  concatenates (Shape a) w x y = no

  -- two shapes
  shapes_compared : (f : Bool → Bool) (i j : ℕ) → i < get_or r.words 1 0 → j < get_or r.words 1 0
      → Follows granted total (Values e.program ts e.grants r) (answered e.program e.grants p f (of_shapes i j) r) (Operator.answered p f (Operator.of_shapes i j) s)
  unfolding answered Operator.answered Act.◌>>=◌ Act.give Run.◌>>=◌ Run.give meant_value Valid
  shapes_compared f i j l m =
      let q : suc (shapes_granted e.grants - 1) ≡ shapes_granted e.grants = omega (arith, h.sound.counted.shapes) in
      bind (subst (λ b. Follows granted total (λ x x' r' s' total'. AfterAlike e.program ts e.grants r s x x' r' s' total')
      (alike_at (figures_same e.program) b e.grants p 0 i j r) (alike (suc i) p i j s)) q
      (Alike.compares e.program ts e.grants gr p (shapes_granted e.grants - 1) i 0 i (omega (arith, q)) (omega (arith, h.sound.counted.shapes)) (le_refl i) j r s total h l m))
      (λ x x' r' s' total' a. given (record { after = a.after; valid = tt; means = ap (λ b. Value.boolean (f b)) (sym a.same) }))

  answers : (f : Bool → Bool) (o : Comparison) → Fine r.words o
      → Follows granted total (Values e.program ts e.grants r) (answered e.program e.grants p f o r) (Operator.answered p f (meant_comparison o) s)
  unfolding answered Operator.answered meant_comparison Fine Act.give Run.give meant_value Valid
  answers f refused l = no
  answers f (settled b) l = given (record { after = unmoved h; valid = tt; means = refl })
  answers f (of_shapes i j) l = shapes_compared f i j l.0 l.1

  pub equates : (f : Bool → Bool) (v w : Value) → Valid e.program r.words v → Valid e.program r.words w
      → Follows granted total (Values e.program ts e.grants r) (equated e.program e.grants f p v w r)
      (Operator.equated f p (meant_value e.program r.texts v) (meant_value e.program r.texts w) s)
  unfolding equated Operator.equated
  equates f v w x y = rw (equal_alike e.program r v w) (answers f (equality e.program r v w) (fine e.program r v w x y))

-- ---- figures moved and scaled
own : (z : ℤ) → mag z < 2 ^ 31 → mag z < 2 ^ 31
own z l = l

makes_plus_y : Makes plus_y Meaning.plus_y
unfolding plus_y Meaning.plus_y
makes_plus_y = record {
  proper = λ f n v. moved_proper Meaning.kept (λ y. sum y n) f own (λ z l. sum_range z n) v;
  meant = λ program texts f n l. moved_meant Meaning.kept (λ y. sum y n) f program texts l;
}

makes_minus_y : Makes minus_y Meaning.minus_y
unfolding minus_y Meaning.minus_y
makes_minus_y = record {
  proper = λ f n v. moved_proper Meaning.kept (λ y. difference y n) f own (λ z l. difference_range z n) v;
  meant = λ program texts f n l. moved_meant Meaning.kept (λ y. difference y n) f program texts l;
}

makes_plus_x : Makes plus_x Meaning.plus_x
unfolding plus_x Meaning.plus_x
makes_plus_x = record {
  proper = λ f n v. moved_proper (λ x. sum x n) Meaning.kept f (λ z l. sum_range z n) own v;
  meant = λ program texts f n l. moved_meant (λ x. sum x n) Meaning.kept f program texts l;
}

makes_minus_x : Makes minus_x Meaning.minus_x
unfolding minus_x Meaning.minus_x
makes_minus_x = record {
  proper = λ f n v. moved_proper (λ x. difference x n) Meaning.kept f (λ z l. difference_range z n) own v;
  meant = λ program texts f n l. moved_meant (λ x. difference x n) Meaning.kept f program texts l;
}

makes_scaled_up : Makes scaled_up Meaning.scaled_up
unfolding scaled_up Meaning.scaled_up
makes_scaled_up = record {
  proper = λ f n v. scaled_proper (λ z. product z n) f (λ z. product_range z n) (product_zero n) v;
  meant = λ program texts f n l. scaled_meant (λ z. product z n) f program texts l;
}

makes_scaled_down : Makes scaled_down Meaning.scaled_down
unfolding scaled_down Meaning.scaled_down
makes_scaled_down = record {
  proper = λ f n v. scaled_proper (λ z. quotient z n) f (λ z. quotient_range z n) (quotient_zero n) v;
  meant = λ program texts f n l. scaled_meant (λ z. quotient z n) f program texts l;
}

-- ---- all operators
module _ (e : Setting) {ts : List Token} {granted : Amounts} (gr : Grants e.grants granted) where
  pub operates_on : (o : Operator) (p : ℕ) {r : Raw} {s : State} {total : Amounts} → Related e.program ts e.grants r s total
      → (v w : Value) → Valid e.program r.words v → Valid e.program r.words w
      → Follows granted total (Values e.program ts e.grants r) (operate_on e.program e.grants (tag_of o) p v w r)
      (Operator.operate_on o p (meant_value e.program r.texts v) (meant_value e.program r.texts w) s)
  unfolding operate_on Operator.operate_on tag_of if◌then◌otherwise◌
  operates_on concatenate p h v w x y = concatenates e gr h p v w x y
  operates_on add p h v w x y = calculates e gr h p false sum plus_y Meaning.plus_y (λ a b l. sum_range a b) makes_plus_y v w x y
  operates_on subtract p h v w x y = calculates e gr h p false difference minus_y Meaning.minus_y (λ a b l. difference_range a b) makes_minus_y v w x y
  operates_on multiply p h v w x y = calculates e gr h p false product scaled_up Meaning.scaled_up (λ a b l. product_range a b) makes_scaled_up v w x y
  operates_on divide p h v w x y = calculates e gr h p true quotient scaled_down Meaning.scaled_down (λ a b l. quotient_range a b) makes_scaled_down v w x y
  operates_on remainder p h v w x y = remainders e gr h p v w
  operates_on shift_right p h v w x y = calculates e gr h p false shifted_right plus_x Meaning.plus_x (λ a b l. shifted_right_range a b l) makes_plus_x v w x y
  operates_on shift_left p h v w x y = calculates e gr h p false shifted_left minus_x Meaning.minus_x (λ a b l. shifted_left_range a b) makes_minus_x v w x y
  operates_on equal p h v w x y = equates e gr h p (λ b. b) v w x y
  operates_on unequal p h v w x y = equates e gr h p not v w x y
  operates_on greater p h v w x y = compares e gr h p (λ a b. lt_z b a) v w
  operates_on less p h v w x y = compares e gr h p lt_z v w

  pub operates : (o : Operator) (p : ℕ) {r : Raw} {s : State} {total : Amounts} → Related e.program ts e.grants r s total
      → (v w : Value) → Valid e.program r.words v → Valid e.program r.words w → (u u' : Value.Value)
      → u ≡ meant_value e.program r.texts v → u' ≡ meant_value e.program r.texts w
      → Follows granted total (Values e.program ts e.grants r) (operate e.program e.grants (tag_of o) p v w r) (Operator.operate o p u u' s)
  unfolding operate Operator.operate Act.◌>>=◌ Run.◌>>=◌
  operates o p {r} h v w x y u u' m m' =
      bind (uses h v u x m p) (λ _ _ r₁ s₁ total₁ a.
      from_here a (bind (uses a.related w u' (valid_later a.later w y) (m' ∙ sym (meant_later a.later w y)) p) (λ _ _ r₂ s₂ total₂ b.
      let l = onward a b in
      from_here b (rw (m ∙ sym (meant_later l.later v x), m' ∙ sym (meant_later l.later w y))
      (operates_on o p b.related v w (valid_later l.later v x) (valid_later l.later w y))))))
