-- Expressions: evaluating their code follows what they mean.
use Prim.Native.Nat.{ℕ, suc, ◌+◌, ◌-◌, ◌*◌, ◌/◌, ◌%◌, ◌^◌, ◌≤◌, ◌<◌}
use native.Mathlib.Omega.{arith}
use native.Mathlib.Nat.{le_refl}
use mathlib.Core.Path.{◌≡◌, refl, ap, sym, ◌∙◌, subst}
use mathlib.Core.Logic.{◌≢◌}
use mathlib.Core.Bool.{Bool, true, false, not, cond}
use mathlib.Core.List.{List, [], ◌∷◌}
use mathlib.Core.Option.{Option, some}
use lib.ListN.{get_or, length, length-append}
use lib.IntN.{ℤ}
use lib.Signed.{mag}
use lib.Dec.{eqb}
use mir.Syntax.{w32}
use mir.Val.{to_z}
use borrow.Author.Tests.{eqb-true, eqb-false, ne_eqb, lt-ltb, le-ltb}
use Rattle.meaning.specs.Basics.{bytes, if◌then◌otherwise◌, same_text}
use Rattle.meaning.specs.Token.{Token, a_name, a_string}
use Rattle.meaning.specs.Integer.{bits, wrap}
use Rattle.meaning.proofs.IntegerLaws.{wrap_range}
use Rattle.meaning.specs.Tree.{
  Operator,
  concatenate,
  add,
  subtract,
  multiply,
  divide,
  remainder,
  shift_right,
  shift_left,
  equal,
  unequal,
  greater,
  less,
  Expression,
  number,
  string,
  nothing,
  truth,
  name,
  table,
  entry,
  operation,
  call,
  paren,
  Arguments,
  no_argument,
  argument,
  Procedure,
}
use Rattle.meaning.specs.Grammar.{procedure_named}
use Rattle.meaning.specs.Value as Value
use Rattle.meaning.specs.State.{State}
use Rattle.meaning.specs.Run as Run
use Rattle.meaning.specs.Book.{Amounts}
use Rattle.meaning.specs.Library.{Library, library_of}
use Rattle.meaning.specs.Evaluate.{evaluate, evaluate_all}
use Rattle.meaning.specs.Execute.{execute_all}
use Rattle.meaning.specs.Procedure.{found, calling}
use Rattle.names.specs.Prepared.{number_of, library_number, procedure_number}
use Rattle.machine.specs.Opcodes.{word, size_in, number_in, argument_root, first_operator, tag_of, tag_number, tag_string, tag_none, tag_truth, tag_name, tag_table, tag_entry, tag_call, tag_argument}
use Rattle.code.specs.Code.{slot_of, part_of, truth_number, arguments_with, code_with}
use Rattle.reader.proofs.Homes.{Occurs}
use Rattle.reader.proofs.Fields.{procedure_small, Told, word_told, tag_small, code_some_with}
use Rattle.reader.proofs.Known.{Known, KnownAll}
use Rattle.reader.proofs.Walk.{Stands, Ends, Joint, Argument, ends_word, ends_front, ends_start, ends_joined, stands_argument}
use Rattle.numbering.specs.Numbers as Numbers
use Rattle.machine.specs.declared.Value.{Value}
use Rattle.machine.specs.declared.Value.TheVariants.{Integer, Text, Boolean, Nothing}
use Rattle.machine.specs.Words.{kind_in, kind_table, packed, unpacked}
use Rattle.machine.specs.Words as Words
use Rattle.values.proofs.Laws.{by_kind, unpacked_table}
use Rattle.machine.specs.Layout.{arguments_held, steps_used, tables_made, stack_words}
use Rattle.machine.specs.Act.{Raw, Act}
use Rattle.machine.specs.Act as Act
use Rattle.machine.specs.Texts.{text_of}
use Rattle.machine.specs.Variables.{variable}
use Rattle.machine.specs.Stack.{push, drop_to}
use Rattle.machine.specs.Tables.{read_entry}
use Rattle.machine.specs.Operate.{with_table, operate}
use Rattle.machine.specs.Library.{call_library}
use Rattle.machine.specs.Primaries.{leaf, sized, applied, called}
use Rattle.machine.specs.Evaluate.{Setting, Evaluator, Invoke, argument_after, arguments_from, invoked, call_at, second_of, first_of, operands_at, expression_by}
use Rattle.machine.specs.Interpret.{expression_at, body_at, invoke_at}
use Rattle.simulation.specs.Scope.{scope_of}
use Rattle.simulation.specs.Meant.{meant_value}
use Rattle.simulation.specs.Sound.{Held, Valid}
use Rattle.simulation.specs.Follows.{Grants, Related, Follows}
use Rattle.simulation.proofs.Binding.{bind, give_after, act_after}
use Rattle.simulation.proofs.Frames.{later_trans, untouched_trans, valid_later}
use Rattle.simulation.proofs.Results.{given, failed, Values, onward, still, from_here, steps_told}
use Rattle.simulation.proofs.Counting.{AfterStep, counts, stepped_on, makes_table}
use Rattle.simulation.proofs.Arguments.{pushed_on, pushed, pushes, dropped, drop_later, drops}
use Rattle.simulation.proofs.Variables.{reads_variable}
use Rattle.simulation.proofs.Operators.{operates}
use Rattle.simulation.proofs.Keys.{back_again}
use Rattle.simulation.proofs.Lookup.{reads_entry}
use Rattle.simulation.proofs.Asked.{with_integer_lem, with_table_lem}
use Rattle.simulation.proofs.Library.{Stacked, Above, calls}
use Rattle.simulation.proofs.Chaining.{pushed_then}
use Rattle.simulation.proofs.Stacking.{AfterArguments, no_more, one_more}
use Rattle.simulation.proofs.Under.{steps_left, Under, under_later, stays, Invokes}

-- ---- words of code
pub told : {w tag size n : ℕ} → w ≡ word tag size n → tag < 256 → size < 16777216 → Told w tag size n
told {w} {tag} {size} {n} e a b = subst (λ v. Told v tag size n) (sym e) (word_told tag size n a b)

-- the first part of a table read, by its word
entered : {A : Type 0} (p a : ℕ) (k : ℕ → Act A) → Act.◌>>◌ (Act.refuse (not (eqb (kind_in a) kind_table)) 20 p) (k (Words.number_in a)) ≡ with_table p (unpacked a) k
unfolding Act.◌>>=◌ Act.go_on Act.refuse Act.fail Act.give with_table
entered p a k = go (eqb (kind_in a) kind_table) refl
  where
    go : (b : Bool) → eqb (kind_in a) kind_table ≡ b → Act.◌>>◌ (Act.refuse (not (eqb (kind_in a) kind_table)) 20 p) (k (Words.number_in a)) ≡ with_table p (unpacked a) k
    go true q = rw (q, unpacked_table a (eqb-true _ _ q))
    go false q =
        rw q (by_kind a (λ v. Act.fail 20 p ≡ with_table p v k) (λ _. refl) (λ _. refl) (λ _. refl) refl (λ h. absurd (eqb-false _ _ q h)) (λ _. refl))

module _ (inner : Evaluator) (invoke : Invoke) (e : Setting) (w x p size n : ℕ) where
  by_number : Told w tag_number size n → expression_by inner invoke e w x p ≡ Act.give (Integer (to_z w32 n))
  unfolding expression_by leaf if◌then◌otherwise◌
  by_number t = rw (t.tag_is, t.number_is)

  by_string : Told w tag_string size n → expression_by inner invoke e w x p ≡ Act.give (Text (2 * n))
  unfolding expression_by leaf if◌then◌otherwise◌
  by_string t = rw (t.tag_is, t.number_is)

  by_none : Told w tag_none size n → expression_by inner invoke e w x p ≡ Act.give Nothing
  unfolding expression_by leaf if◌then◌otherwise◌
  by_none t = rw t.tag_is

  by_truth : Told w tag_truth size n → expression_by inner invoke e w x p ≡ Act.give (Boolean (eqb n 1))
  unfolding expression_by leaf if◌then◌otherwise◌
  by_truth t = rw (t.tag_is, t.number_is)

  by_name : Told w tag_name size n → expression_by inner invoke e w x p ≡ variable p n
  unfolding expression_by leaf if◌then◌otherwise◌
  by_name t = rw (t.tag_is, t.number_is)

  by_table : Told w tag_table size 0 → expression_by inner invoke e w x p ≡ Act.◌>>=◌ (inner (x - 1) p) (λ v. sized p (packed v))
  unfolding expression_by operands_at first_of if◌then◌otherwise◌
  by_table t =
      let z : x - 1 - 0 ≡ x - 1 = omega arith in
      rw (t.tag_is, t.number_is, z)

  by_entry : Told w tag_entry size n → expression_by inner invoke e w x p
      ≡ Act.◌>>=◌ (inner (x - 1 - n) p) (λ v. with_table p (unpacked (packed v)) λ t. Act.◌>>=◌ (inner (x - 1) p) (λ k. read_entry e.program e.grants p t (packed k)))
  unfolding expression_by operands_at first_of second_of applied if◌then◌otherwise◌
  by_entry t =
      rw (t.tag_is, t.number_is)
      (ap (λ f. Act.◌>>=◌ (inner (x - 1 - n) p) f) (λ i v. entered p (packed v) (λ u. Act.◌>>=◌ (inner (x - 1) p) (λ k. read_entry e.program e.grants p u (packed k))) i))

  by_call : Told w tag_call size n → expression_by inner invoke e w x p ≡ call_at inner invoke e w x p
  unfolding expression_by if◌then◌otherwise◌
  by_call t = rw t.tag_is

  by_operator : (tag : ℕ) → first_operator ≤ tag → Told w tag size n → expression_by inner invoke e w x p
      ≡ Act.◌>>=◌ (inner (x - 1 - n) p) (λ v. Act.◌>>=◌ (inner (x - 1) p) (λ u. operate e.program e.grants tag p (unpacked (packed v)) (unpacked (packed u))))
  unfolding expression_by operands_at first_of second_of applied if◌then◌otherwise◌ Act.◌>>=◌ Act.go_on Act.refuse Act.give
  by_operator tag l t =
      rw (t.tag_is, t.number_is, le-ltb tag tag_table (omega arith), ne_eqb tag tag_call (λ q. omega arith))
      (rw (ne_eqb tag tag_table (λ q. omega arith), le-ltb tag first_operator l, ne_eqb tag tag_entry (λ q. omega arith)))

operator_tag : (o : Operator) → first_operator ≤ tag_of o
unfolding tag_of
operator_tag concatenate = omega arith
operator_tag add = omega arith
operator_tag subtract = omega arith
operator_tag multiply = omega arith
operator_tag divide = omega arith
operator_tag remainder = omega arith
operator_tag shift_right = omega arith
operator_tag shift_left = omega arith
operator_tag equal = omega arith
operator_tag unequal = omega arith
operator_tag greater = omega arith
operator_tag less = omega arith

truth_back : (b : Bool) → eqb (truth_number b) 1 ≡ b
truth_back true = refl
truth_back false = refl

-- ---- strings stand in the program
pub record Strings (program : List ℕ) (ts : List Token) : Type 0 where
  pub held : (t : List ℕ) → Occurs ts a_string t → (used : ℕ) → Held program used (2 * part_of ts t)
  pub text : (t : List ℕ) → Occurs ts a_string t → (texts : List ℕ) → text_of program texts (2 * part_of ts t) ≡ t

-- ---- arguments in code
module _ (inner : Evaluator) (e : Setting) (rounds a x p len : ℕ) where
  root_is : Told (get_or e.code a 0) tag_argument len 0 → a + len < x → argument_after e a x ≡ a + len
  unfolding argument_root if◌then◌otherwise◌
  root_is t l = rw (t.size_is, lt-ltb (a + len) x l)

  by_argument : Told (get_or e.code a 0) tag_argument len 0 → a + len < x
      → arguments_from (suc rounds) inner e (argument_after e a x) x p
      ≡ Act.◌>>=◌ (inner (a + len) p) (λ v. Act.◌>>◌ (push (packed v) p) (arguments_from rounds inner e (argument_after e (a + len + 1) x) x p))
  unfolding arguments_from if◌then◌otherwise◌
  by_argument t l = rw (root_is t l, lt-ltb (a + len) x l) (pushed_then inner (a + len) p (arguments_from rounds inner e (argument_after e (a + len + 1) x) x p))

  by_no_argument : x ≤ a → arguments_from (suc rounds) inner e (argument_after e a x) x p ≡ Act.give tt
  unfolding arguments_from argument_root if◌then◌otherwise◌
  by_no_argument l = rw (le-ltb (a + size_in (get_or e.code a 0)) x (omega arith), le-ltb x x (le_refl x))

-- ---- calls by the word's number
by_own : (invoke : Invoke) (e : Setting) (w p base slot : ℕ) → number_in w ≡ 11 + 16 * slot → invoked invoke e w p base ≡ invoke slot p base
unfolding invoked if◌then◌otherwise◌
by_own invoke e w p base slot q =
    let a : (11 + 16 * slot) % 16 ≡ 11 = omega arith in
    let b : (11 + 16 * slot) / 16 ≡ slot = omega arith in
    rw (q, a, b)

by_library : (invoke : Invoke) (e : Setting) (w p base n slot : ℕ) → n < 16 → n ≢ 11 → number_in w ≡ n + 16 * slot → invoked invoke e w p base ≡ called e.grants n p base
unfolding invoked if◌then◌otherwise◌
by_library invoke e w p base n slot l d q =
    let a : (n + 16 * slot) % 16 ≡ n = omega arith in
    rw (q, a, ne_eqb n 11 d)

-- ---- expressions of a call under way, by its procedure and how many calls there are
-- Twice what the stack holds and the words of the expression's code are at most `room`: an argument is one word of the stack and two of code or more.
module _ (e : Setting) {ts : List Token} (strings : Strings e.program ts) {granted : Amounts} (gr : Grants e.grants granted)
    (fs : List Procedure) (apart : (f : List ℕ) (l : Library) → library_of f ≡ some l → procedure_named f fs ≡ Option.none)
    (limit w c room reserve : ℕ) (enough : room ≤ 2 * stack_words) (invokes : (fuel : ℕ) → reserve ≤ fuel → Invokes e ts granted fs limit w c room fuel) where
  abbrev Here : Raw → State → Amounts → Type 0
  Here r s total = Related e.program ts e.grants r s total

  -- code with the numbers of the procedure's variables
  abbrev numbered : List ℕ → ℕ
  numbered x = Numbers.number_in (scope_of e.program ts w) x

  abbrev code_in : Expression → List ℕ
  code_in x = code_with numbered x ts

  abbrev code_in_all : Arguments → List ℕ
  code_in_all es = arguments_with numbered es ts

  some_code : (x : Expression) → 0 < length (code_in x)
  some_code x = code_some_with numbered x ts

  -- what evaluating the code whose root stands at a place comes to
  abbrev Evaluates : Expression → ℕ → ℕ → ℕ → Type 0
  Evaluates x fuel at p = (r : Raw) (s : State) (total : Amounts) → Here r s total → Under e.grants w c limit r
      → 2 * get_or r.words arguments_held 0 + length (code_in x) ≤ room
      → Follows granted total (Values e.program ts e.grants r) (expression_at fuel e at p r) (evaluate (calling limit fs) x p s)

  -- ---- each kind of expression, its parts evaluated so
  module _ (fuel at p : ℕ) {r : Raw} {s : State} {total : Amounts} (h : Here r s total) where
    -- a step, and then the root
    begun : {m : Run.Action Value.Value}
        → ((r₁ : Raw) (s₁ : State) (total₁ : Amounts) → AfterStep e.program ts e.grants r r₁ s₁ total₁
        → Follows granted total₁ (Values e.program ts e.grants r) (expression_by (expression_at fuel e) (invoke_at fuel e) e (get_or e.code at 0) at p r₁) (m s₁))
        → Follows granted total (Values e.program ts e.grants r) (expression_at (suc fuel) e at p r) (Run.◌>>◌ (Run.count p) m s)
    unfolding expression_at body_at Act.◌>>=◌ Run.◌>>=◌
    begun f = bind (counts gr h p) (λ _ _ r₁ s₁ total₁ a. f r₁ s₁ total₁ a)

    at_once : (o : Act Value) (v : Value) (u : Value.Value) → o ≡ Act.give v
        → expression_by (expression_at fuel e) (invoke_at fuel e) e (get_or e.code at 0) at p ≡ o
        → ((r₁ : Raw) → Valid e.program r₁.words v) → ((r₁ : Raw) → u ≡ meant_value e.program r₁.texts v)
        → Follows granted total (Values e.program ts e.grants r) (expression_at (suc fuel) e at p r) (Run.◌>>◌ (Run.count p) (Run.give u) s)
    unfolding Act.give Run.give
    at_once o v u g q x y = begun (λ r₁ s₁ total₁ a. rw (q, g) (given (record { after = a.after; valid = x r₁; means = y r₁ })))

  number_follows : (z : ℤ) → wrap z ≡ z → (fuel at p : ℕ) → Ends e.code at (code_in (number z)) → Evaluates (number z) (suc fuel) at p
  unfolding code_with evaluate Valid meant_value wrap
  number_follows z k fuel at p en r s total h un l =
      at_once fuel at p h _ (Integer z) (Value.integer z) (ap (λ y. Act.give (Integer y)) k)
      (by_number _ _ e _ at p 1 (bits z) (told (ends_word [] _ en) (omega arith) (omega arith)))
      (λ r₁. subst (λ y. mag y < 2 ^ 31) k (wrap_range z)) (λ r₁. refl)

  string_follows : (t : List ℕ) → Occurs ts a_string t → (fuel at p : ℕ) → Ends e.code at (code_in (string t)) → Evaluates (string t) (suc fuel) at p
  unfolding code_with evaluate Valid meant_value
  string_follows t k fuel at p en r s total h un l =
      at_once fuel at p h _ (Text (2 * part_of ts t)) (Value.string t) refl
      (by_string _ _ e _ at p 1 (part_of ts t) (told (ends_word [] _ en) (omega arith) (omega arith)))
      (λ r₁. strings.held t k _) (λ r₁. ap Value.string (sym (strings.text t k r₁.texts)))

  none_follows : (fuel at p : ℕ) → Ends e.code at (code_in nothing) → Evaluates nothing (suc fuel) at p
  unfolding code_with evaluate Valid meant_value
  none_follows fuel at p en r s total h un l =
      at_once fuel at p h _ Nothing Value.none refl (by_none _ _ e _ at p 1 0 (told (ends_word [] _ en) (omega arith) (omega arith))) (λ r₁. tt) (λ r₁. refl)

  truth_follows : (b : Bool) (fuel at p : ℕ) → Ends e.code at (code_in (truth b)) → Evaluates (truth b) (suc fuel) at p
  unfolding code_with evaluate Valid meant_value
  truth_follows b fuel at p en r s total h un l =
      at_once fuel at p h _ (Boolean b) (Value.boolean b) (ap (λ y. Act.give (Boolean y)) (truth_back b))
      (by_truth _ _ e _ at p 1 (truth_number b) (told (ends_word [] _ en) (omega arith) (omega arith))) (λ r₁. tt) (λ r₁. refl)

  name_follows : (x : List ℕ) (fuel at p : ℕ) → Ends e.code at (code_in (name x)) → Evaluates (name x) (suc fuel) at p
  unfolding code_with evaluate
  name_follows x fuel at p en r s total h un l =
      begun fuel at p h (λ r₁ s₁ total₁ a.
      rw (by_name (expression_at fuel e) (invoke_at fuel e) e (get_or e.code at 0) at p 1 (numbered x) (told (ends_word [] _ en) (omega arith) (omega arith)))
      (from_here a.after (rw (stays a.after un).procedure at (reads_variable a.after.related x {granted = granted} p))))

  table_follows : (x : Expression) (fuel at p : ℕ) → Ends e.code at (code_in (table x)) → Evaluates x fuel (at - 1) p → Evaluates (table x) (suc fuel) at p
  unfolding code_with evaluate sized Act.◌>>=◌ Run.◌>>=◌
  table_follows x fuel at p en inner r s total h un l =
      let long = simp length-append at l in
      begun fuel at p h (λ r₁ s₁ total₁ a.
      rw (by_table (expression_at fuel e) (invoke_at fuel e) e (get_or e.code at 0) at p (length (code_in x) + 1) 0
      (told (ends_word (code_in x) _ en) (omega arith) (omega arith)))
      (bind (inner r₁ s₁ total₁ a.after.related (stays a.after un) (omega (arith, a.after.held))) (λ v u r₂ s₂ total₂ b.
      rw (back_again b.after.related.sound v b.valid, b.means) (with_integer_lem b.after.related p v b.valid _ _ (λ z w. makes_table (stepped_on a b.after) p z)))))

  entry_follows : (x y : Expression) (fuel at p : ℕ) → Joint e.code at tag_entry (code_in x) (code_in y)
      → Evaluates x fuel (at - 1 - length (code_in y)) p → Evaluates y fuel (at - 1) p → Evaluates (entry x y) (suc fuel) at p
  unfolding code_with evaluate Act.◌>>=◌ Run.◌>>=◌
  entry_follows x y fuel at p joint left right r s total h un l =
      let long = simp length-append at l in
      begun fuel at p h (λ r₁ s₁ total₁ a.
      rw (by_entry (expression_at fuel e) (invoke_at fuel e) e (get_or e.code at 0) at p _ (length (code_in y)) (told joint.root (omega arith) (omega arith)))
      (bind (left r₁ s₁ total₁ a.after.related (stays a.after un) (omega (arith, a.after.held))) (λ v u r₂ s₂ total₂ b.
      rw (back_again b.after.related.sound v b.valid, b.means) (with_table_lem b.after.related p v b.valid _ _ (λ t w.
      bind (right r₂ s₂ total₂ b.after.related (stays b.after (stays a.after un)) (omega (arith, a.after.held, b.after.held))) (λ k q r₃ s₃ total₃ c.
      rw c.means (from_here (onward a.after (onward b.after c.after)) (reads_entry c.after.related k c.valid t p))))))))

  operation_follows : (o : Operator) (x y : Expression) (fuel at p : ℕ) → Joint e.code at (tag_of o) (code_in x) (code_in y)
      → Evaluates x fuel (at - 1 - length (code_in y)) p → Evaluates y fuel (at - 1) p → Evaluates (operation o x y) (suc fuel) at p
  unfolding code_with evaluate Act.◌>>=◌ Run.◌>>=◌
  operation_follows o x y fuel at p joint left right r s total h un l =
      let long = simp length-append at l in
      begun fuel at p h (λ r₁ s₁ total₁ a.
      rw (by_operator (expression_at fuel e) (invoke_at fuel e) e (get_or e.code at 0) at p _ (length (code_in y)) (tag_of o) (operator_tag o)
      (told joint.root (tag_small o) (omega arith)))
      (bind (left r₁ s₁ total₁ a.after.related (stays a.after un) (omega (arith, a.after.held))) (λ v u r₂ s₂ total₂ b.
      bind (right r₂ s₂ total₂ b.after.related (stays b.after (stays a.after un)) (omega (arith, a.after.held, b.after.held))) (λ w q r₃ s₃ total₃ c.
      let b' = still b c.after in
      rw (back_again c.after.related.sound v b'.valid, back_again c.after.related.sound w c.valid)
      (from_here (onward a.after (onward b.after c.after))
      (operates e gr o p c.after.related v w b'.valid c.valid u q b'.means c.means))))))

  -- ---- arguments and calls
  -- they leave room for what is behind them
  abbrev Argued : Arguments → Raw → List Value.Value → Raw → State → Amounts → Type 0
  Argued es r us r' s total = AfterArguments e.program ts e.grants r us r' s total × (2 * get_or r'.words arguments_held 0 ≤ 2 * get_or r.words arguments_held 0 + length (code_in_all es))

  abbrev Pushes : Arguments → ℕ → ℕ → ℕ → ℕ → ℕ → Type 0
  Pushes es fuel rounds a x p = (r : Raw) (s : State) (total : Amounts) → Here r s total → Under e.grants w c limit r
      → 2 * get_or r.words arguments_held 0 + length (code_in_all es) ≤ room
      → Follows granted total (λ _ us r' s' total'. Argued es r us r' s' total')
      (arguments_from rounds (expression_at fuel e) e (argument_after e a x) x p r) (evaluate_all (calling limit fs) es p s)

  no_argument_follows : (fuel rounds a p : ℕ) → Pushes no_argument fuel (suc rounds) a a p
  unfolding arguments_with evaluate_all Act.give Run.give
  no_argument_follows fuel rounds a p r s total h un l =
      rw (by_no_argument (expression_at fuel e) e rounds a a p 0 (le_refl a)) (given (no_more h, omega arith))

  argument_follows : (y : Expression) (es : Arguments) (fuel rounds a at p : ℕ) → Argument e.code a (code_in y) (code_in_all es)
      → a + length (code_in y) < at → Evaluates y fuel (a + length (code_in y)) p → Pushes es fuel rounds (a + length (code_in y) + 1) at p
      → Pushes (argument y es) fuel (suc rounds) a at p
  unfolding arguments_with evaluate_all Act.◌>>=◌ Act.go_on Run.◌>>=◌
  argument_follows y es fuel rounds a at p here below one more r s total h un l =
      let long = simp length-append at l in
      rw (by_argument (expression_at fuel e) e rounds a at p (length (code_in y)) (told here.before (omega arith) (omega arith)) below)
      (bind (one r s total h un (omega arith)) (λ v x r₁ s₁ total₁ b.
      let free : get_or r₁.words arguments_held 0 < stack_words = omega (arith, b.after.held, enough, some_code y) in
      let q = pushed b.after.related free (packed v) in
      rw (pushes b.after.related free (packed v) p)
      (give_after (λ us. x ∷ us) (λ _ us r₃ s₃ total₃ c. (one_more b q c.0, omega (arith, c.1, q.held, b.after.held, some_code y, length-append (code_in y) (code_in_all es))))
      (more (pushed_on b.after.related free (packed v)) s₁ total₁ q.related (under_later q.untouched q.later (stays b.after un))
      (omega (arith, q.held, b.after.held, some_code y))))))

  -- a name that is main's or in the library
  performs : (f : List ℕ) → procedure_number f ≢ 11 → 0 < limit → (p base n : ℕ) {r : Raw} {s : State} {total : Amounts} → Here r s total
      → Above e.program ts r base → (us : List Value.Value) → Stacked e.program r base n us
      → Follows granted total (Values e.program ts e.grants r) (call_library e.grants (procedure_number f) p base n r) (calling limit fs f p us s)
  unfolding procedure_number library_number number_of calling found call_library if◌then◌otherwise◌ Act.fail Run.fail
  performs f d pos p base n {r} {s} {total} h up us st = at (limit - 1) (omega arith)
    where
      by_library_name : (m : ℕ) (l : Option Library) → library_of f ≡ l → number_of l ≢ 11
          → Follows granted total (Values e.program ts e.grants r) (call_library e.grants (number_of l) p base n r)
          (found (λ ss. execute_all (calling m fs) ss m) (procedure_named f fs) f p us s)
      by_library_name m (some l) q k = rw (apart f l q, q) (calls e gr (some l) p base n h up us st)
      by_library_name m Option.none q k = absurd (k refl)

      by_name : (m : ℕ) (b : Bool) → same_text f (bytes "main") ≡ b → cond b 12 (library_number f) ≢ 11
          → Follows granted total (Values e.program ts e.grants r) (call_library e.grants (cond b 12 (library_number f)) p base n r) (calling (suc m) fs f p us s)
      by_name m true q k = rw q (failed 20 p r (steps_told h))
      by_name m false q k = rw q (by_library_name m (library_of f) refl k)

      at : (m : ℕ) → suc m ≡ limit
          → Follows granted total (Values e.program ts e.grants r) (call_library e.grants (procedure_number f) p base n r) (calling limit fs f p us s)
      at m q = rw (← q) (by_name m (same_text f (bytes "main")) refl d)

  call_ends : (f : List ℕ) → procedure_number f ≢ 11 → 0 < limit → (p : ℕ) {r₁ r₂ : Raw} {us : List Value.Value} {s₂ : State} {total₁ total₂ : Amounts} {s₁ : State} → Here r₁ s₁ total₁
      → (c : AfterArguments e.program ts e.grants r₁ us r₂ s₂ total₂)
      → Follows granted total₂ (Values e.program ts e.grants r₁) (called e.grants (procedure_number f) p (get_or r₁.words arguments_held 0) r₂) (calling limit fs f p us s₂)
  unfolding called Act.◌>>=◌ Act.go_on Act.load Act.give Act.store drop_to
  call_ends f d pos p {r₁} {r₂} {us} h c =
      let n : get_or r₂.words arguments_held 0 - get_or r₁.words arguments_held 0 ≡ c.many = omega (arith, c.held) in
      rw n (act_after (λ v. Act.◌>>◌ (drop_to (get_or r₁.words arguments_held 0)) (Act.give v))
      (λ v u r₃ s₃ total₃ w.
      let l = later_trans c.later w.after.later in
      let spare : get_or r₃.words tables_made 0 + get_or r₁.words steps_used 0 ≤ get_or r₁.words tables_made 0 + get_or r₃.words steps_used 0 = omega (arith, c.spare, w.after.spare) in
      let low : get_or r₁.words arguments_held 0 ≤ get_or r₃.words arguments_held 0 = omega (arith, c.held, w.after.held) in
      let same = untouched_trans (omega (arith, c.held)) c.untouched w.after.untouched in
      record {
        result = v;
        slices = dropped w.after.related l spare low same h.sound.variables;
        is = refl;
        holds = record {
          after = drops w.after.related l spare low same h.sound.variables;
          valid = valid_later (drop_later w.after.related l spare low same h.sound.variables) v w.valid;
          means = w.means;
        };
      })
      (performs f d pos p (get_or r₁.words arguments_held 0) c.many c.related c.above us c.stacked))

  call_follows : (f : List ℕ) (es : Arguments) (fuel at p : ℕ) → Occurs ts a_name f → reserve ≤ fuel → Ends e.code at (code_in (call f es))
      → Pushes es fuel (suc at) (at + 1 - (length (code_in_all es) + 1)) at p → Evaluates (call f es) (suc fuel) at p
  unfolding code_with evaluate call_at Act.◌>>=◌ Act.go_on Act.load Run.◌>>=◌
  call_follows f es fuel at p o spare en all r s total h un l =
      let long = simp length-append at l in
      let t = told (ends_word (code_in_all es) _ en) (omega arith) (omega arith) in
      let begins : at - (length (code_in_all es) + 1 - 1) ≡ at + 1 - (length (code_in_all es) + 1) = omega arith in
      begun fuel at p h (λ r₁ s₁ total₁ a.
      from_here a.after
      (rw (by_call (expression_at fuel e) (invoke_at fuel e) e (get_or e.code at 0) at p _ _ t, t.size_is, begins)
      (bind (all r₁ s₁ total₁ a.after.related (stays a.after un) (omega (arith, a.after.held))) (λ _ us r₂ s₂ total₂ c.
      let fewer : suc (steps_left e.grants r₂) < limit =
      omega (arith, a.spare, a.after.later.tables, c.0.later.steps, c.0.related.sound.counted.steps, un.turns) in
      by_number_of (procedure_number f) refl r₁ s₁ total₁ r₂ s₂ total₂ us a.after.related c.0 (under_later c.0.untouched c.0.later (stays a.after un)) fewer
      (omega (arith, a.after.held, c.1)) t.number_is))))
    where
      by_number_of : (n : ℕ) → procedure_number f ≡ n → (r₁ : Raw) (s₁ : State) (total₁ : Amounts) (r₂ : Raw) (s₂ : State) (total₂ : Amounts) (us : List Value.Value)
          → Here r₁ s₁ total₁ → (c' : AfterArguments e.program ts e.grants r₁ us r₂ s₂ total₂) → Under e.grants w c limit r₂ → suc (steps_left e.grants r₂) < limit
          → 2 * get_or r₂.words arguments_held 0 ≤ room → number_in (get_or e.code at 0) ≡ procedure_number f + 16 * slot_of ts f
          → Follows granted total₂ (Values e.program ts e.grants r₁) (invoked (invoke_at fuel e) e (get_or e.code at 0) p (get_or r₁.words arguments_held 0) r₂) (calling limit fs f p us s₂)
      by_number_of n q r₁ s₁ total₁ r₂ s₂ total₂ us h₁ c' u' fewer fits k = go (eqb n 11) refl
        where
          go : (b : Bool) → eqb n 11 ≡ b
              → Follows granted total₂ (Values e.program ts e.grants r₁) (invoked (invoke_at fuel e) e (get_or e.code at 0) p (get_or r₁.words arguments_held 0) r₂) (calling limit fs f p us s₂)
          go true z =
              let own : procedure_number f ≡ 11 = q ∙ eqb-true n 11 z in
              rw (by_own (invoke_at fuel e) e (get_or e.code at 0) p (get_or r₁.words arguments_held 0) (slot_of ts f) (rw own at k))
              ((invokes fuel spare).follows f o own p h₁ c' u' fewer fits)
          go false z =
              let other : procedure_number f ≢ 11 = λ y. eqb-false n 11 z (sym q ∙ y) in
              rw (by_library (invoke_at fuel e) e (get_or e.code at 0) p (get_or r₁.words arguments_held 0) (procedure_number f) (slot_of ts f) (omega (arith, procedure_small f)) other k)
              (call_ends f other (omega arith) p h₁ c')

  -- ---- all expressions
  deeper : (x : Expression) (fuel at p : ℕ) → length (code_in x) + reserve ≤ fuel → Evaluates x (suc (fuel - 1)) at p → Evaluates x fuel at p
  deeper x fuel at p l f =
      let z : suc (fuel - 1) ≡ fuel = omega (arith, some_code x) in
      subst (λ d. Evaluates x d at p) z f

  longer : (es : Arguments) (fuel rounds a at p : ℕ) → length (code_in_all es) < rounds → Pushes es fuel (suc (rounds - 1)) a at p → Pushes es fuel rounds a at p
  longer es fuel rounds a at p l f =
      let z : suc (rounds - 1) ≡ rounds = omega arith in
      subst (λ d. Pushes es fuel d a at p) z f

  mutual
    unfolding code_with arguments_with Known KnownAll evaluate

    pub evaluates : (x : Expression) → Known x ts → (fuel at p : ℕ) → Ends e.code at (code_in x) → length (code_in x) + reserve ≤ fuel → Evaluates x fuel at p
    evaluates (number z) k fuel at p en l = deeper (number z) fuel at p l (number_follows z k (fuel - 1) at p en)
    evaluates (string t) k fuel at p en l = deeper (string t) fuel at p l (string_follows t k (fuel - 1) at p en)
    evaluates nothing k fuel at p en l = deeper nothing fuel at p l (none_follows (fuel - 1) at p en)
    evaluates (truth b) k fuel at p en l = deeper (truth b) fuel at p l (truth_follows b (fuel - 1) at p en)
    evaluates (name x) k fuel at p en l = deeper (name x) fuel at p l (name_follows x (fuel - 1) at p en)
    evaluates (table x) k fuel at p en l =
        let long = simp length-append at l in
        deeper (table x) fuel at p l (table_follows x (fuel - 1) at p en
        (evaluates x k (fuel - 1) (at - 1) p (ends_front (code_in x) _ en (some_code x)) (omega arith)))
    evaluates (entry x y) k fuel at p en l =
        let long = simp length-append at l in
        let joint = ends_joined tag_entry (code_in x) (code_in y) (some_code x) (some_code y) en in
        deeper (entry x y) fuel at p l (entry_follows x y (fuel - 1) at p joint
        (evaluates x k.0 (fuel - 1) (at - 1 - length (code_in y)) p joint.left (omega arith))
        (evaluates y k.1 (fuel - 1) (at - 1) p joint.right (omega arith)))
    evaluates (operation o x y) k fuel at p en l =
        let long = simp length-append at l in
        let joint = ends_joined (tag_of o) (code_in x) (code_in y) (some_code x) (some_code y) en in
        deeper (operation o x y) fuel at p l (operation_follows o x y (fuel - 1) at p joint
        (evaluates x k.0 (fuel - 1) (at - 1 - length (code_in y)) p joint.left (omega arith))
        (evaluates y k.1 (fuel - 1) (at - 1) p joint.right (omega arith)))
    evaluates (call f es) k fuel at p en l =
        let long = simp length-append at l in
        let last = simp length-append at en.last in
        deeper (call f es) fuel at p l (call_follows f es (fuel - 1) at p k.0 (omega arith) en
        (pushes_all es k.1 (fuel - 1) (suc at) (at + 1 - (length (code_in_all es) + 1)) at p (ends_start (code_in_all es) _ en) (omega arith) (omega arith) (omega arith)))
    evaluates (paren x) k fuel at p en l = evaluates x k fuel at p en l

    pub pushes_all : (es : Arguments) → KnownAll es ts → (fuel rounds a at p : ℕ) → Stands e.code a (code_in_all es) → length (code_in_all es) + reserve ≤ fuel
        → length (code_in_all es) < rounds → a + length (code_in_all es) ≡ at → Pushes es fuel rounds a at p
    pushes_all no_argument k fuel rounds a at p st l m q =
        let z : a ≡ at = omega arith in
        longer no_argument fuel rounds a at p m (subst (λ i. Pushes no_argument fuel (suc (rounds - 1)) a i p) z (no_argument_follows fuel (rounds - 1) a p))
    pushes_all (argument x es) k fuel rounds a at p st l m q =
        let long = simp length-append at l in
        let long' = simp length-append at m in
        let long'' = simp length-append at q in
        let here = stands_argument (code_in x) (code_in_all es) st in
        longer (argument x es) fuel rounds a at p m (argument_follows x es fuel (rounds - 1) a at p here (omega arith)
        (evaluates x k.0 fuel (a + length (code_in x)) p here.one (omega arith))
        (pushes_all es k.1 fuel (rounds - 1) (a + length (code_in x) + 1) at p here.more (omega arith) (omega arith) (omega arith)))
