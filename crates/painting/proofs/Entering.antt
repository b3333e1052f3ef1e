-- Main begins: it is the first call, and its two parameters hold the width and the height.
use Prim.Native.Nat.{ℕ, suc, ◌+◌, ◌^◌, ◌≤◌, ◌<◌}
use native.Mathlib.Omega.{arith}
use mathlib.Core.Path.{◌≡◌, refl, ap, ◌∙◌, subst}
use mathlib.Core.Logic.{◌≢◌}
use mathlib.Core.Bool.{true, false}
use mathlib.Core.List.{List, [], ◌∷◌}
use mathlib.Core.Option.{some}
use mathlib.Core.Option as Option
use lib.ListN.{get_or, set}
use lib.IntN.{ℤ}
use lib.Signed.{mag}
use borrow.Author.Tests.{ne_eqb}
use Rattle.meaning.specs.Basics.{if◌then◌otherwise◌, same_text}
use Rattle.meaning.specs.Token.{Token}
use Rattle.meaning.specs.Value.{integer}
use Rattle.meaning.specs.Value as Value
use Rattle.meaning.specs.State.{State, Variable, value_in, assigned, with_variables, fresh}
use Rattle.meaning.specs.Run as Run
use Rattle.meaning.specs.Book.{Amounts, nothing_yet}
use Rattle.meaning.specs.Program.{empty, entering}
use Rattle.arithmetic.proofs.Ranges.{bits_below}
use Rattle.reader.proofs.Homes.{text_same}
use Rattle.numbering.specs.Numbers.{number_in}
use Rattle.machine.specs.declared.Value.TheVariants.{Integer}
use Rattle.machine.specs.Words.{packed, unpacked}
use Rattle.values.proofs.Laws.{InRange, unpacked_packed}
use Rattle.machine.specs.Layout.{steps_used, arguments_held, calls_used, running, loop_unit, frame, argument_place, Lent}
use Rattle.machine.specs.Act.{Raw, raw, done}
use Rattle.machine.specs.Act as Act
use Rattle.machine.specs.Stack.{argument_at}
use Rattle.machine.specs.Variables.{with_word, holding, set_variable}
use Rattle.simulation.specs.Meant.{meant_value, meant_word}
use Rattle.simulation.specs.Scope.{scope_of}
use Rattle.simulation.specs.Sound.{Valid, size_of}
use Rattle.simulation.specs.Follows.{Grants, Related, Follows}
use Rattle.simulation.proofs.Results.{given, failed, After}
use Rattle.simulation.proofs.Variables.{undeclared}
use Rattle.simulation.proofs.Declaring.{put_after}
use Rattle.simulation.proofs.Beginning.{Called, opens_main}
use Rattle.prologue.specs.Prologue.{main_begins, Blank}

some_none : {u : Value.Value} {A : Type 0} → some u ≡ Option.none → A
some_none e = let z : ◌≡◌ {A = ℕ} 0 1 = cc in absurd (omega arith)

-- ---- a number in a variable
module _ (program : List ℕ) (z : ℤ) (small : mag z < 2 ^ 31) where
  back : unpacked (packed (Integer z)) ≡ Integer z
  unfolding InRange
  back = unpacked_packed (Integer z) small

  number_meant : (r : Raw) → meant_word program r (packed (Integer z)) ≡ integer z
  unfolding meant_value
  number_meant r = rw back

  number_valid : (ws : List ℕ) → Valid program ws (unpacked (packed (Integer z)))
  unfolding Valid
  number_valid ws = rw back small

  number_there : packed (Integer z) ≢ 0
  unfolding packed
  number_there e = omega arith

  number_narrow : packed (Integer z) < 2 ^ 48
  unfolding packed
  number_narrow = omega (arith, bits_below z)

-- ---- two names
abbrev variable : List ℕ → Value.Value → Variable
variable x u = record { name = x; holds = u }

module _ (x y : List ℕ) (u v : Value.Value) where
  first_assigned : assigned (variable x Value.none ∷ variable y Value.none ∷ []) x u ≡ variable x u ∷ variable y Value.none ∷ []
  unfolding assigned if◌then◌otherwise◌
  first_assigned = rw (text_same x)

  second_assigned : same_text x y ≡ false → assigned (variable x u ∷ variable y Value.none ∷ []) y v ≡ variable x u ∷ variable y v ∷ []
  unfolding assigned if◌then◌otherwise◌
  second_assigned e = rw (e, text_same y)

-- a variable set, by its number
sets : (n w : ℕ) (r : Raw) → set_variable n w r ≡ done tt (raw r.texts (set r.words (argument_place (get_or r.words frame 0 + n))
    (with_word (argument_at r.words (get_or r.words frame 0 + n)) w)))
unfolding set_variable Act.◌>>=◌ Act.go_on Act.load Act.store
sets n w r = refl

-- main has begun
pub record Entered (program : List ℕ) (ts : List Token) (g : List ℕ) (r : Raw) (s : State) (total : Amounts) : Type 0 where
  pub related : Related program ts g r s total
  pub calls : get_or r.words calls_used 0 ≡ 1
  pub procedure : get_or r.words running 0 ≡ 0
  pub stack : get_or r.words arguments_held 0 ≡ suc (size_of program ts 0)
  pub unit : get_or r.words loop_unit 0 ≡ 0

module _ (program : List ℕ) (ts : List Token) (g : List ℕ) (texts words : List ℕ) (lent : Lent g texts words) (blank : Blank g words) (x y : List ℕ)
    (width height : ℤ) (w-small : mag width < 2 ^ 31) (h-small : mag height < 2 ^ 31) where
  -- ---- two parameters of one name
  pub enters_not : same_text x y ≡ true → {granted : Amounts} → Follows granted nothing_yet (λ _ _ r s total. Entered program ts g r s total)
      (main_begins g 0 width height (raw texts words)) (entering (x ∷ y ∷ []) width height empty)
  unfolding main_begins entering Act.◌>>=◌ Act.go_on Act.refuse Act.fail Run.◌>>=◌ Run.go_on Run.refuse Run.fail
  enters_not same = rw same (failed 60 0 (raw texts words) (blank.front steps_used (omega arith)))

  -- ---- two parameters
  module _ (apart : same_text x y ≡ false) (brief : size_of program ts 0 < 8192) (few : 2 ≤ size_of program ts 0)
      (names : (k : ℕ) → k < 2 → get_or (scope_of program ts 0) k [] ≡ get_or (x ∷ y ∷ []) k [])
      (number-x : number_in (scope_of program ts 0) x ≡ 0) (number-y : number_in (scope_of program ts 0) y ≡ 1) where
    abbrev both : List Variable
    both = variable x Value.none ∷ variable y Value.none ∷ []

    abbrev half : List Variable
    half = variable x (integer width) ∷ variable y Value.none ∷ []

    abbrev full : List Variable
    full = variable x (integer width) ∷ variable y (integer height) ∷ []

    module _ {r : Raw} {total : Amounts} (c : Called program ts g (x ∷ y ∷ []) r total) where
      begun : Related program ts g r (with_variables empty both) total
      unfolding fresh
      begun = c.related

      there_first : holding r.words (number_in (scope_of program ts (get_or r.words running 0)) x) ≢ 0
      unfolding value_in if◌then◌otherwise◌
      there_first z =
          let q : value_in both x ≡ Option.none = undeclared begun x z in
          some_none (rw (text_same x) at q)

      abbrev one : Raw
      one = raw r.texts (set r.words (argument_place (get_or r.words frame 0 + number_in (scope_of program ts (get_or r.words running 0)) x))
          (with_word (argument_at r.words (get_or r.words frame 0 + number_in (scope_of program ts (get_or r.words running 0)) x)) (packed (Integer width))))

      first : After program ts g r one (with_variables empty half) total
      first =
          subst (λ (vs : List Variable). After program ts g r one (with_variables empty vs) total)
          (ap (assigned both x) (number_meant program width w-small r) ∙ first_assigned x y (integer width) (integer height))
          (put_after begun x (packed (Integer width)) there_first (number_there program width w-small) (number_valid program width w-small r.words)
          (number_narrow program width w-small))

      sets_first : set_variable 0 (packed (Integer width)) r ≡ done tt one
      sets_first =
          let q : number_in (scope_of program ts (get_or r.words running 0)) x ≡ 0 = rw c.procedure number-x in
          rw q (sets 0 (packed (Integer width)) r)

      under_way : get_or one.words running 0 ≡ 0
      under_way = first.untouched.running ∙ c.procedure

      there_second : holding one.words (number_in (scope_of program ts (get_or one.words running 0)) y) ≢ 0
      unfolding value_in if◌then◌otherwise◌
      there_second z =
          let q : value_in half y ≡ Option.none = undeclared first.related y z in
          some_none (rw (apart, text_same y) at q)

      abbrev two : Raw
      two = raw r.texts (set one.words (argument_place (get_or one.words frame 0 + number_in (scope_of program ts (get_or one.words running 0)) y))
          (with_word (argument_at one.words (get_or one.words frame 0 + number_in (scope_of program ts (get_or one.words running 0)) y)) (packed (Integer height))))

      second : After program ts g one two (with_variables empty full) total
      second =
          subst (λ (vs : List Variable). After program ts g one two (with_variables empty vs) total)
          (ap (assigned half y) (number_meant program height h-small one) ∙ second_assigned x y (integer width) (integer height) apart)
          (put_after first.related y (packed (Integer height)) there_second (number_there program height h-small) (number_valid program height h-small one.words)
          (number_narrow program height h-small))

      sets_second : set_variable 1 (packed (Integer height)) one ≡ done tt two
      sets_second =
          let q : number_in (scope_of program ts (get_or one.words running 0)) y ≡ 1 = rw under_way number-y in
          rw q (sets 1 (packed (Integer height)) one)

      all : Entered program ts g two (with_variables empty full) total
      all = record {
        related = second.related;
        calls = second.untouched.calls ∙ first.untouched.calls ∙ c.calls;
        procedure = second.untouched.running ∙ under_way;
        stack = second.held ∙ first.held ∙ c.held;
        unit = second.untouched.unit ∙ first.untouched.unit ∙ c.unit;
      }

      set_both : {granted : Amounts} → Follows granted total (λ _ _ r s total. Entered program ts g r s total)
          (Act.◌>>◌ (set_variable 0 (packed (Integer width))) (set_variable 1 (packed (Integer height))) r) (Run.become (with_variables empty full) empty)
      unfolding Act.◌>>=◌ Act.go_on Run.become
      set_both = rw (sets_first, sets_second) (given all)

    -- THE LAW
    pub enters : {granted : Amounts} → Grants g granted → Follows granted nothing_yet (λ _ _ r s total. Entered program ts g r s total)
        (main_begins g (suc (size_of program ts 0)) width height (raw texts words)) (entering (x ∷ y ∷ []) width height empty)
    unfolding main_begins entering Act.◌>>=◌ Act.go_on Act.refuse Act.give Run.◌>>=◌ Run.go_on Run.refuse Run.give
    enters gr =
        rw (ne_eqb (suc (size_of program ts 0)) 0 (λ e. omega arith), apart)
        (opens_main program ts g texts words lent blank.front blank.entries (x ∷ y ∷ []) brief few names 0 gr
        (Act.◌>>◌ (set_variable 0 (packed (Integer width))) (set_variable 1 (packed (Integer height)))) (Run.become (with_variables empty full)) (λ r total c. set_both c))
