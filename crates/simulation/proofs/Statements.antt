-- Statements: executing their code follows what they mean.
use Prim.Native.Nat.{ℕ, zero, suc, ◌+◌, ◌-◌, ◌*◌, ◌≤◌, ◌<◌}
use native.Mathlib.Omega.{arith}
use native.Mathlib.Nat.{le_trans}
use mathlib.Core.Path.{◌≡◌, refl, ap, ◌∙◌, subst}
use mathlib.Core.Bool.{Bool, true, false}
use mathlib.Core.List.{List, [], ◌∷◌, ◌++◌}
use mathlib.Core.Option.{some}
use mathlib.Core.Option as Option
use lib.ListN.{get_or, length, length-append}
use borrow.Author.Tests.{lt-ltb, le-ltb}
use Rattle.meaning.specs.Basics.{if◌then◌otherwise◌}
use Rattle.meaning.specs.Token.{Token}
use Rattle.meaning.specs.Tree.{Expression, Statement, declare, assign, update, when, while, foreach, return, block, act, Statements, only, first, Procedure}
use Rattle.meaning.specs.Grammar.{procedure_named}
use Rattle.meaning.specs.State.{State}
use Rattle.meaning.specs.Run as Run
use Rattle.meaning.specs.Book.{Amounts}
use Rattle.meaning.specs.Operator as Operator
use Rattle.meaning.specs.Evaluate.{evaluate}
use Rattle.meaning.specs.Execute.{onward, execute}
use Rattle.meaning.specs.Execute as Execute
use Rattle.meaning.specs.Library.{Library, library_of}
use Rattle.meaning.specs.Procedure.{is_among, calling}
use Rattle.machine.specs.Opcodes.{word, size_at, tag_update, tag_block}
use Rattle.code.specs.Code.{code_with, statement_with, statements_with}
use Rattle.reader.specs.Sane.{Sane}
use Rattle.reader.specs.Declarations.{declared_in, declared_by}
use Rattle.reader.proofs.Homes.{text_same}
use Rattle.reader.proofs.Fields.{code_rooted_with, statement_headed_with, statement_some_with}
use Rattle.reader.proofs.Known.{Placed, Known, KnownStatement, KnownStatements}
use Rattle.reader.proofs.Walk as Walk
use Rattle.reader.proofs.Walk.{Stands, stands_front, stands_back, stands_first, stands_rest, ends_word}
use Rattle.numbering.specs.Numbers.{number_in}
use Rattle.machine.specs.Words.{packed}
use Rattle.machine.specs.Layout.{arguments_held, steps_granted, stack_words}
use Rattle.machine.specs.Act.{Raw, Act}
use Rattle.machine.specs.Act as Act
use Rattle.machine.specs.Tables.{store_entry}
use Rattle.machine.specs.Operate.{with_boolean, with_table}
use Rattle.machine.specs.Evaluate.{Setting}
use Rattle.machine.specs.declared.Flow.{Flow}
use Rattle.machine.specs.declared.Flow.TheVariants.{Onward, Returned}
use Rattle.machine.specs.Execute.{update_value, update_in, update_at, continue, looping, statements_from}
use Rattle.machine.specs.Interpret.{expression_at, statement_at}
use Rattle.simulation.specs.Scope.{scope_of}
use Rattle.simulation.specs.Follows.{Grants, Related, Follows}
use Rattle.simulation.proofs.Binding.{bind, Succeeds, act_after}
use Rattle.simulation.proofs.Results.{given, After, Values, unmoved, still}
use Rattle.simulation.proofs.Results as Results
use Rattle.simulation.proofs.Counting.{AfterStep, counts}
use Rattle.simulation.proofs.Asked.{with_boolean_lem, with_table_lem, with_group_lem}
use Rattle.simulation.proofs.Usable.{uses}
use Rattle.simulation.proofs.Chaining.{turning_then}
use Rattle.simulation.proofs.Scopes.{among_left, among_right}
use Rattle.simulation.proofs.Under.{steps_left, Under, stays, Invokes}
use Rattle.simulation.proofs.Expressions.{told, Strings, evaluates}
use Rattle.simulation.specs.Nesting.{Nests, NestsAll}
use Rattle.simulation.proofs.Flows.{SameFlow, both_onward, both_returned, AfterFlow, Flows, flow_from, Turned, Turns, turned, turned_from, ended}
use Rattle.simulation.proofs.Declaring.{declares}
use Rattle.simulation.proofs.Assigning.{assigns}
use Rattle.simulation.proofs.Storing.{stores}
use Rattle.simulation.proofs.Keys.{back_again}
use Rattle.simulation.proofs.Dispatching.{Heads, heads, by_declare, by_assign, by_update, by_when, by_while, by_foreach, by_return, by_block, by_act}
use Rattle.simulation.proofs.Inside.{Room, room_stays, iterates}

-- ---- how a statement ends
flow_done : {program : List ℕ} {ts : List Token} {g : List ℕ} {r₀ r : Raw} {f : Flow} {f' : Execute.Flow} {s : State} {total : Amounts} → SameFlow program r f f'
    → Turned program ts g r₀ f f' r s total → Succeeds (Turns program ts g r₀) (continue f (Act.give Onward) r) f' s total
unfolding continue Act.give
flow_done {r = r} both_onward w = record { result = Onward; slices = r; is = refl; holds = w }
flow_done {r = r} (both_returned {v = v} x y) w = record { result = Returned v; slices = r; is = refl; holds = w }

module _ {program : List ℕ} {ts : List Token} {g : List ℕ} {granted : Amounts} {r₀ : Raw} where
  continues : {r : Raw} {f : Flow} {f' : Execute.Flow} {s : State} {total : Amounts} (k : Act Flow) (k' : Run.Action Execute.Flow) → AfterFlow program ts g r₀ f f' r s total
      → Follows granted total (Flows program ts g r₀) (k r) (k' s) → Follows granted total (Flows program ts g r₀) (continue f k r) (Execute.continue f' k' s)
  unfolding continue Execute.continue Act.give Run.give
  continues k k' a h = go a.flow h a
    where
      go : {r : Raw} {f : Flow} {f' : Execute.Flow} {s : State} {total : Amounts} → SameFlow program r f f'
          → Follows granted total (Flows program ts g r₀) (k r) (k' s) → AfterFlow program ts g r₀ f f' r s total
          → Follows granted total (Flows program ts g r₀) (continue f k r) (Execute.continue f' k' s)
      go both_onward h a = h
      go (both_returned x y) h a = given a

-- the same of statements
module _ {program : List ℕ} {ts : List Token} {g : List ℕ} {granted : Amounts} {r₀ : Raw} where
  goes_on : {r : Raw} {f : Flow} {f' : Execute.Flow} {s : State} {total : Amounts} (k : Act Flow) (k' : Run.Action Execute.Flow) → SameFlow program r f f'
      → Follows granted total (Turns program ts g r₀) (k r) (k' s) → Turned program ts g r₀ f f' r s total
      → Follows granted total (Turns program ts g r₀) (continue f k r) (Execute.continue f' k' s)
  unfolding continue Execute.continue Act.give Run.give
  goes_on k k' both_onward h a = h
  goes_on k k' (both_returned x y) h a = given a

-- ---- statements of a call under way, whose stack has so many words before each statement
module _ (e : Setting) {ts : List Token} (sane : Sane ts) (strings : Strings e.program ts) {granted : Amounts} (gr : Grants e.grants granted)
    (fs : List Procedure) (apart : (f : List ℕ) (l : Library) → library_of f ≡ some l → procedure_named f fs ≡ Option.none)
    (limit w c room reserve : ℕ) (enough : room ≤ 2 * stack_words) (invokes : (fuel : ℕ) → reserve ≤ fuel → Invokes e ts granted fs limit w c room fuel) (base : ℕ)
    (busy : 0 < c) where
  abbrev Here : Raw → State → Amounts → Type 0
  Here r s total = Related e.program ts e.grants r s total

  -- code with the numbers of the procedure's variables
  abbrev numbered : List ℕ → ℕ
  numbered x = number_in (scope_of e.program ts w) x

  abbrev code_in : Expression → List ℕ
  code_in x = code_with numbered x ts

  abbrev statement_in : Statement → List ℕ
  statement_in d = statement_with numbered d ts

  abbrev statements_in : Statements → List ℕ
  statements_in ds = statements_with numbered ds ts

  some_code : (d : Statement) → 0 < length (statement_in d)
  some_code d = statement_some_with numbered d ts

  placed : {p : ℕ} → Placed ts p → p < 65536
  placed q = omega (arith, sane.places q.index, q.begins)

  -- so much code has room
  abbrev Fits : ℕ → Type 0
  Fits n = 2 * base + n ≤ room

  -- an expression by its root
  valued : (x : Expression) → Known x ts → (fuel a at p : ℕ) → length (code_in x) + reserve ≤ fuel → Stands e.code a (code_in x) → a + length (code_in x) ≡ at + 1
      → {r : Raw} {s : State} {total : Amounts} → Here r s total → Under e.grants w c limit r → get_or r.words arguments_held 0 ≡ base → Fits (length (code_in x))
      → Follows granted total (Values e.program ts e.grants r) (expression_at fuel e at p r) (evaluate (calling limit fs) x p s)
  valued x k fuel a at p deep st q {r} {s} {total} h un z l =
      evaluates e strings gr fs apart limit w c room reserve enough invokes x k fuel at p (record { start = a; stands = st; last = q }) deep r s total h un (omega (arith, z, l))

  -- how many words it has
  sized_at : (x : Expression) (a at : ℕ) → Stands e.code a (code_in x) → a + length (code_in x) ≡ at + 1 → Fits (length (code_in x))
      → size_at e.code at ≡ length (code_in x)
  sized_at x a at st q l =
      let c = code_rooted_with numbered x ts in
      let en : Walk.Ends e.code at (c.front ++ (word c.tag (length (code_in x)) c.number ∷ [])) =
      subst (Walk.Ends e.code at) c.whole (record { start = a; stands = st; last = q }) in
      (told (ends_word c.front _ en) c.small (omega (arith, enough))).size_is

  -- what executing the code from a place on comes to, with at most n foreach inside one another
  abbrev Executes : ℕ → Act Flow → Run.Action Execute.Flow → Type 0
  Executes n o m = (r : Raw) (s : State) (total : Amounts) → Here r s total → Under e.grants w c limit r → get_or r.words arguments_held 0 ≡ base → Room n r
      → Follows granted total (Turns e.program ts e.grants r) (o r) (m s)

  -- or of what a statement does besides
  abbrev Ends : ℕ → Act Flow → Run.Action Execute.Flow → Type 0
  Ends n o m = (r : Raw) (s : State) (total : Amounts) → Here r s total → Under e.grants w c limit r → get_or r.words arguments_held 0 ≡ base → Room n r
      → Follows granted total (Flows e.program ts e.grants r) (o r) (m s)

  -- ---- loops
  module _ (x : Expression) (known : Known x ts) (fuel a at p : ℕ) (deep : length (code_in x) + reserve ≤ fuel) (st : Stands e.code a (code_in x))
      (q : a + length (code_in x) ≡ at + 1) (short : Fits (length (code_in x))) (body : Act Flow) (body' : Run.Action Execute.Flow)
      {n : ℕ} (does : Executes n body body') where
    turn : (turns m : ℕ) (r₀ r : Raw) (s : State) (total : Amounts)
        → ((r' : Raw) (s' : State) (total' : Amounts) → Here r' s' total' → Under e.grants w c limit r' → get_or r'.words arguments_held 0 ≡ base → Room n r'
        → steps_left e.grants r' < steps_left e.grants r₀
        → Follows granted total' (Turns e.program ts e.grants r') (looping turns (expression_at fuel e) e at p body r') (Execute.looping m p (evaluate (calling limit fs) x p) body' s'))
        → AfterStep e.program ts e.grants r₀ r s total → Under e.grants w c limit r₀ → get_or r₀.words arguments_held 0 ≡ base → Room n r₀
        → Follows granted total (Turns e.program ts e.grants r₀)
        (Act.◌>>=◌ (expression_at fuel e at p) (λ v. with_boolean p v λ b.
        if b then (λ _. Act.◌>>=◌ body (λ f. continue f (looping turns (expression_at fuel e) e at p body))) otherwise λ _. Act.give Onward) r)
        (Run.◌>>=◌ (evaluate (calling limit fs) x p)
        (λ v. Operator.with_boolean p v λ b. if b then (λ _. Run.◌>>=◌ body' (λ f. Execute.continue f (Execute.looping m p (evaluate (calling limit fs) x p) body'))) otherwise λ _. Run.give onward) s)
    unfolding Act.◌>>=◌ Run.◌>>=◌ if◌then◌otherwise◌ Act.give Run.give
    turn turns m r₀ r s total again b un z low =
        turned b
        (bind (valued x known fuel a at p deep st q b.after.related (stays b.after un) (b.after.held ∙ z) short) (λ v u r₁ s₁ total₁ d.
        rw d.means (with_boolean_lem d.after.related p v d.valid _ _ (λ t. branch t r₁ s₁ total₁ d.after))))
      where
        branch : (t : Bool) (r₁ : Raw) (s₁ : State) (total₁ : Amounts) → After e.program ts e.grants r r₁ s₁ total₁
            → Follows granted total₁ (Flows e.program ts e.grants r)
            ((if t then (λ _. Act.◌>>=◌ body (λ f. continue f (looping turns (expression_at fuel e) e at p body))) otherwise λ _. Act.give Onward) r₁)
            ((if t then (λ _. Run.◌>>=◌ body' (λ f. Execute.continue f (Execute.looping m p (evaluate (calling limit fs) x p) body'))) otherwise λ _. Run.give onward) s₁)
        branch true r₁ s₁ total₁ d =
            bind (does r₁ s₁ total₁ d.related (stays d (stays b.after un)) (d.held ∙ b.after.held ∙ z) (room_stays d (room_stays b.after low))) (λ f f' r₂ s₂ total₂ w.
            let g = w.ends in
            continues (looping turns (expression_at fuel e) e at p body) (Execute.looping m p (evaluate (calling limit fs) x p) body') (record { after = Results.onward d g.after; flow = g.flow })
            (flow_from (Results.onward d g.after)
            (ended (again r₂ s₂ total₂ g.after.related (stays g.after (stays d (stays b.after un))) (g.after.held ∙ d.held ∙ b.after.held ∙ z)
            (room_stays g.after (room_stays d (room_stays b.after low)))
            (omega (arith, d.later.steps, g.after.later.steps, b.spare, b.after.later.tables, g.after.related.sound.counted.steps))))))
        branch false r₁ s₁ total₁ d = given (record { after = d; flow = both_onward })

    by_turn : (turns : ℕ) → looping (suc turns) (expression_at fuel e) e at p body
        ≡ Act.◌>>◌ (Act.count e.grants p) (Act.◌>>=◌ (expression_at fuel e at p) (λ v. with_boolean p v λ b.
        if b then (λ _. Act.◌>>=◌ body (λ f. continue f (looping turns (expression_at fuel e) e at p body))) otherwise λ _. Act.give Onward))
    unfolding looping
    by_turn turns = turning_then (expression_at fuel e) e at p (λ b. if b then (λ _. Act.◌>>=◌ body (λ f. continue f (looping turns (expression_at fuel e) e at p body))) otherwise λ _. Act.give Onward)

    loops : (m turns : ℕ) (r : Raw) (s : State) (total : Amounts) → Here r s total → Under e.grants w c limit r → get_or r.words arguments_held 0 ≡ base → Room n r
        → steps_left e.grants r < m → steps_left e.grants r < turns
        → Follows granted total (Turns e.program ts e.grants r) (looping turns (expression_at fuel e) e at p body r) (Execute.looping m p (evaluate (calling limit fs) x p) body' s)
    unfolding Act.◌>>=◌ Run.◌>>=◌ Execute.looping
    loops zero turns r s total h un z low i j = absurd (omega arith)
    loops (suc m) turns r s total h un z low i j =
        let n : suc (turns - 1) ≡ turns = omega arith in
        subst (λ n. Follows granted total (Turns e.program ts e.grants r) (looping n (expression_at fuel e) e at p body r) (Execute.looping (suc m) p (evaluate (calling limit fs) x p) body' s)) n
        (rw (by_turn (turns - 1)) (bind (counts gr h p) (λ _ _ r₁ s₁ total₁ b.
        turn (turns - 1) m r r₁ s₁ total₁ (λ r' s' total' h' un' z' low' few. loops m (turns - 1) r' s' total' h' un' z' low' (omega arith) (omega arith)) b un z low)))

  -- ---- each kind of statement
  abbrev Does : ℕ → Statement → ℕ → ℕ → Type 0
  Does n d fuel at = Executes n (statement_at fuel e at) (execute (calling limit fs) d limit)

  -- the procedure under way may declare these names
  abbrev Owns : List (List ℕ) → Type 0
  Owns xs = (x : List ℕ) → is_among x xs ≡ true → is_among x (scope_of e.program ts w) ≡ true

  owned : (x : List ℕ) → Owns (x ∷ []) → is_among x (scope_of e.program ts w) ≡ true
  unfolding is_among
  owned x own = own x (rw (text_same x))

  module _ (fuel at : ℕ) where
    declare_does : {n : ℕ} (p : ℕ) (x : List ℕ) → Placed ts p → Owns (x ∷ []) → Stands e.code at (statement_in (declare p x)) → Does n (declare p x) (suc fuel) at
    unfolding statement_with execute statement_at Act.◌>>=◌ Run.◌>>=◌
    declare_does p x pl own st r s total h un z low =
        let t = heads (stands_first st) (omega arith) (omega (arith, enough)) (placed pl) in
        rw (t.place_is, by_declare (expression_at fuel e) (statement_at fuel e) e (get_or e.code at 0) at p _ p (numbered x) t)
        (bind (counts gr h p) (λ _ _ r₁ s₁ total₁ a.
        let q = (stays a.after un).procedure in
        turned a (rw q at (declares a.after.related x {granted = granted} (rw q (owned x own)) p))))

    -- an expression behind the word
    module _ (x : Expression) (known : Known x ts) (short : Fits (length (code_in x))) (deep : length (code_in x) + reserve ≤ fuel) (st : Stands e.code (at + 1) (code_in x)) (p : ℕ) where
      behind : {r : Raw} {s : State} {total : Amounts} → Here r s total → Under e.grants w c limit r → get_or r.words arguments_held 0 ≡ base
          → Follows granted total (Values e.program ts e.grants r) (expression_at fuel e (at + (length (code_in x) + 1) - 1) p r) (evaluate (calling limit fs) x p s)
      behind h un z = valued x known fuel (at + 1) (at + (length (code_in x) + 1) - 1) p deep st (omega arith) h un z short

    assign_does : {n : ℕ} (p : ℕ) (x : List ℕ) (y : Expression) → Placed ts p → Known y ts → Fits (length (code_in y)) → length (code_in y) + reserve ≤ fuel
        → Stands e.code at (statement_in (assign p x y)) → Does n (assign p x y) (suc fuel) at
    unfolding statement_with execute statement_at Act.◌>>=◌ Run.◌>>=◌
    assign_does p x y pl k short deep st r s total h un z low =
        let t = heads (stands_first st) (omega arith) (omega (arith, enough)) (placed pl) in
        rw (t.place_is, by_assign (expression_at fuel e) (statement_at fuel e) e (get_or e.code at 0) at p _ p (numbered x) t)
        (bind (counts gr h p) (λ _ _ r₁ s₁ total₁ a.
        turned a (bind (behind y k short deep (stands_rest st) p a.after.related (stays a.after un) (a.after.held ∙ z)) (λ v u r₂ s₂ total₂ b.
        let q = (stays b.after (stays a.after un)).procedure in
        rw b.means (flow_from b.after (rw q at (assigns e gr x p b.after.related v b.valid)))))))

    return_does : {n : ℕ} (p : ℕ) (y : Expression) → Placed ts p → Known y ts → Fits (length (code_in y)) → length (code_in y) + reserve ≤ fuel
        → Stands e.code at (statement_in (return p y)) → Does n (return p y) (suc fuel) at
    unfolding statement_with execute statement_at Act.◌>>=◌ Run.◌>>=◌ Act.give Run.give
    return_does p y pl k short deep st r s total h un z low =
        let t = heads (stands_first st) (omega arith) (omega (arith, enough)) (placed pl) in
        rw (t.place_is, by_return (expression_at fuel e) (statement_at fuel e) e (get_or e.code at 0) at p _ p 0 t)
        (bind (counts gr h p) (λ _ _ r₁ s₁ total₁ a.
        turned a (bind (behind y k short deep (stands_rest st) p a.after.related (stays a.after un) (a.after.held ∙ z)) (λ v u r₂ s₂ total₂ b.
        rw (back_again b.after.related.sound v b.valid) (given (record { after = b.after; flow = both_returned b.valid b.means }))))))

    act_does : {n : ℕ} (p : ℕ) (y : Expression) → Placed ts p → Known y ts → Fits (length (code_in y)) → length (code_in y) + reserve ≤ fuel
        → Stands e.code at (statement_in (act p y)) → Does n (act p y) (suc fuel) at
    unfolding statement_with execute statement_at Act.◌>>=◌ Run.◌>>=◌ Act.give Run.give
    act_does p y pl k short deep st r s total h un z low =
        let t = heads (stands_first st) (omega arith) (omega (arith, enough)) (placed pl) in
        rw (t.place_is, by_act (expression_at fuel e) (statement_at fuel e) e (get_or e.code at 0) at p _ p 0 t)
        (bind (counts gr h p) (λ _ _ r₁ s₁ total₁ a.
        turned a (bind (behind y k short deep (stands_rest st) p a.after.related (stays a.after un) (a.after.held ∙ z)) (λ v u r₂ s₂ total₂ b.
        given (record { after = b.after; flow = both_onward })))))

    when_does : {n : ℕ} (p : ℕ) (y : Expression) (d : Statement) → Placed ts p → Known y ts → Fits (length (code_in y) + length (statement_in d)) → length (code_in y) + reserve ≤ fuel
        → Stands e.code at (statement_in (when p y d)) → Does n d fuel (at + length (code_in y) + 1) → Does n (when p y d) (suc fuel) at
    unfolding statement_with execute statement_at Act.◌>>=◌ Run.◌>>=◌ if◌then◌otherwise◌ Act.give Run.give
    when_does {n} p y d pl k short deep st inner r s total h un z low =
        let rest = stands_rest st in
        let size : length (code_in y ++ statement_in d) ≡ length (code_in y) + length (statement_in d) = length-append (code_in y) (statement_in d) in
        let t = heads (stands_first st) (omega arith) (omega (arith, size, enough)) (placed pl) in
        rw (t.place_is, by_when (expression_at fuel e) (statement_at fuel e) e (get_or e.code at 0) at p _ p (length (code_in y)) t)
        (bind (counts gr h p) (λ _ _ r₁ s₁ total₁ a.
        turned a (bind (valued y k fuel (at + 1) (at + length (code_in y)) p deep (stands_front (code_in y) (statement_in d) rest) (omega arith)
        a.after.related (stays a.after un) (a.after.held ∙ z) (omega arith)) (λ v u r₂ s₂ total₂ b.
        rw b.means (flow_from b.after (with_boolean_lem b.after.related p v b.valid _ _ (λ t.
        branch t r₂ s₂ total₂ b.after.related (stays b.after (stays a.after un)) (b.after.held ∙ a.after.held ∙ z)
        (room_stays b.after (room_stays a.after low)))))))))
      where
        branch : (t : Bool) → Ends n (if t then (λ _. statement_at fuel e (at + length (code_in y) + 1)) otherwise λ _. Act.give Onward)
            (if t then (λ _. execute (calling limit fs) d limit) otherwise λ _. Run.give onward)
        branch true = λ r s total h un z low. ended (inner r s total h un z low)
        branch false = λ r s total h un z low. given (record { after = unmoved h; flow = both_onward })

    while_does : {n : ℕ} (p : ℕ) (y : Expression) (d : Statement) → Placed ts p → Known y ts → Fits (length (code_in y) + length (statement_in d)) → length (code_in y) + reserve ≤ fuel
        → Stands e.code at (statement_in (while p y d)) → Does n d fuel (at + length (code_in y) + 1) → Does n (while p y d) (suc fuel) at
    unfolding statement_with execute statement_at
    while_does p y d pl k short deep st inner r s total h un z low =
        let rest = stands_rest st in
        let size : length (code_in y ++ statement_in d) ≡ length (code_in y) + length (statement_in d) = length-append (code_in y) (statement_in d) in
        let t = heads (stands_first st) (omega arith) (omega (arith, size, enough)) (placed pl) in
        rw (t.place_is, by_while (expression_at fuel e) (statement_at fuel e) e (get_or e.code at 0) at p _ p (length (code_in y)) t)
        (loops y k fuel (at + 1) (at + length (code_in y)) p deep (stands_front (code_in y) (statement_in d) rest) (omega arith) (omega arith)
        (statement_at fuel e (at + length (code_in y) + 1)) (execute (calling limit fs) d limit) inner limit (steps_granted e.grants + 1) r s total h un z low un.turns (omega arith))

    foreach_does : {n : ℕ} (p : ℕ) (x : List ℕ) (y : Expression) (d : Statement) → 0 < n → Placed ts p → Known y ts → Owns (x ∷ [])
        → Fits (length (code_in y) + length (statement_in d)) → length (code_in y) + reserve ≤ fuel → Stands e.code at (statement_in (foreach p x y d))
        → Does (n - 1) d fuel (at + (length (code_in y) + 1) + 1) → Does n (foreach p x y d) (suc fuel) at
    unfolding statement_with execute statement_at Act.◌>>=◌ Run.◌>>=◌
    foreach_does {n} p x y d any pl k own short deep st inner r s total h un z low =
        let rest = stands_rest st in
        let size : length (code_in y ++ statement_in d) ≡ length (code_in y) + length (statement_in d) = length-append (code_in y) (statement_in d) in
        let t = heads (stands_first st) (omega arith) (omega (arith, size, enough)) (placed pl) in
        rw (t.place_is, by_foreach (expression_at fuel e) (statement_at fuel e) e (get_or e.code at 0) at p _ p (length (code_in y) + 1) (numbered x) (stands_first rest) t)
        (bind (counts gr h p) (λ _ _ r₁ s₁ total₁ a.
        let un₁ = stays a.after un in
        turned a (bind (valued y k fuel (at + 1 + 1) (at + (length (code_in y) + 1)) p deep (stands_front (code_in y) (statement_in d) (stands_rest rest)) (omega arith)
        a.after.related un₁ (a.after.held ∙ z) (omega arith)) (λ v u r₂ s₂ total₂ b.
        flow_from b.after (bind (uses b.after.related v u b.valid b.means p) (λ _ _ r₃ s₃ total₃ f.
        let b₃ = still b f in
        rw b₃.means (flow_from f (with_group_lem f.related p v b₃.valid _ _ (λ i l grouped.
        iterates gr x w c limit base n busy any (owned x own) (statement_at fuel e (at + (length (code_in y) + 1) + 1)) (execute (calling limit fs) d limit) inner p
        f.related (stays b₃.after un₁) (b₃.after.held ∙ a.after.held ∙ z) (room_stays b₃.after (room_stays a.after low)) i l grouped)))))))))

    -- a.b = c
    update_by : (y p n m : ℕ) → size_at e.code y ≡ n → size_at e.code (y - n) ≡ m → update_at (expression_at fuel e) e y p
        ≡ Act.◌>>=◌ (expression_at fuel e (y - n - m) p) (λ v. with_table p v λ t. Act.◌>>=◌ (expression_at fuel e (y - n) p) (λ k. Act.◌>>=◌ (expression_at fuel e y p) (λ u.
        Act.◌>>◌ (store_entry e.program e.grants t (packed k) (packed u) p) (Act.give Onward))))
    unfolding update_at update_in update_value
    update_by y p n m i j = rw (i, j)

    update_does : {n : ℕ} (p : ℕ) (x y v : Expression) → Placed ts p → Known x ts → Known y ts → Known v ts
        → Fits (length (code_in x) + length (code_in y) + length (code_in v)) → length (code_in x) + length (code_in y) + length (code_in v) + reserve ≤ fuel
        → Stands e.code at (statement_in (update p x y v)) → Does n (update p x y v) (suc fuel) at
    unfolding statement_with execute statement_at Act.◌>>=◌ Run.◌>>=◌
    update_does p x y v pl kx ky kv short deep st r s total h un z low =
        let a = code_in x in
        let b = code_in y in
        let d = code_in v in
        let rest = stands_rest st in
        let more = stands_back a (b ++ d) rest in
        let size : length (a ++ (b ++ d)) ≡ length a + (length b + length d) = length-append a (b ++ d) ∙ ap (λ n. length a + n) (length-append b d) in
        let t : Heads (get_or e.code at 0) tag_update (length (a ++ (b ++ d)) + 1) p 0 = heads (stands_first st) (omega arith) (omega (arith, size, enough)) (placed pl) in
        let root : at + (length (a ++ (b ++ d)) + 1) - 1 ≡ at + length a + length b + length d = omega (arith, size) in
        let sd = stands_back b d more in
        let sb = stands_front b d more in
        let sa = stands_front a (b ++ d) rest in
        let i : at + length a + length b + length d - length d ≡ at + length a + length b = omega arith in
        let j : at + length a + length b + length d - length d - length b ≡ at + length a = omega arith in
        let zd = sized_at v (at + 1 + length a + length b) (at + length a + length b + length d) sd (omega arith) (omega arith) in
        let zb : size_at e.code (at + length a + length b + length d - length d) ≡ length b = rw i (sized_at y (at + 1 + length a) (at + length a + length b) sb (omega arith) (omega arith)) in
        rw (t.place_is, by_update (expression_at fuel e) (statement_at fuel e) e (get_or e.code at 0) at p _ p 0 t, root)
        (rw (update_by (at + length a + length b + length d) p (length d) (length b) zd zb, j, i)
        (bind (counts gr h p) (λ _ _ r₁ s₁ total₁ f.
        let un₁ = stays f.after un in
        turned f (bind (valued x kx fuel (at + 1) (at + length a) p (omega arith) sa (omega arith) f.after.related un₁ (f.after.held ∙ z) (omega arith)) (λ v₂ u r₂ s₂ total₂ f₂.
        let un₂ = stays f₂.after un₁ in
        rw f₂.means (with_table_lem f₂.after.related p v₂ f₂.valid _ _ (λ n made.
        bind (valued y ky fuel (at + 1 + length a) (at + length a + length b) p (omega arith) sb (omega arith) f₂.after.related un₂
        (f₂.after.held ∙ f.after.held ∙ z) (omega arith)) (λ k u₃ r₃ s₃ total₃ f₃.
        bind (valued v kv fuel (at + 1 + length a + length b) (at + length a + length b + length d) p (omega arith) sd (omega arith) f₃.after.related (stays f₃.after un₂)
        (f₃.after.held ∙ f₂.after.held ∙ f.after.held ∙ z) (omega arith)) (λ v₄ u₄ r₄ s₄ total₄ f₄.
        let k' = still f₃ f₄.after in
        rw (k'.means, f₄.means)
        (flow_from (Results.onward f₂.after (Results.onward f₃.after f₄.after))
        (stores f₄.after.related n (le_trans made (le_trans f₃.after.later.tables f₄.after.later.tables)) k k'.valid v₄ f₄.valid gr p)))))))))))

  -- ---- statements one after the other
  abbrev DoesAll : ℕ → Statements → ℕ → ℕ → ℕ → ℕ → Type 0
  DoesAll n ds fuel rounds a end = Executes n (statements_from rounds (statement_at fuel e) e a end) (Execute.execute_all (calling limit fs) ds limit)

  -- one of them: it counts its words
  statement_size : (d : Statement) (a : ℕ) → Stands e.code a (statement_in d) → Fits (length (statement_in d)) → size_at e.code a ≡ length (statement_in d)
  statement_size d a st l =
      let c = statement_headed_with numbered d ts in
      (told (stands_first (subst (Stands e.code a) c.whole st)) c.small (omega (arith, enough))).size_is

  none_left : (fuel rounds end : ℕ) → statements_from rounds (statement_at fuel e) e end end ≡ Act.give Onward
  unfolding statements_from if◌then◌otherwise◌
  none_left fuel zero end = refl
  none_left fuel (suc rounds) end = rw (le-ltb end end (omega arith))

  by_first : (fuel rounds a end size : ℕ) → size_at e.code a ≡ size → a < end → statements_from (suc rounds) (statement_at fuel e) e a end
      ≡ Act.◌>>=◌ (statement_at fuel e a) (λ f. continue f (statements_from rounds (statement_at fuel e) e (a + size) end))
  unfolding statements_from if◌then◌otherwise◌
  by_first fuel rounds a end size x l = rw (lt-ltb a end l, x)

  only_does : {n : ℕ} (d : Statement) (fuel rounds a end : ℕ) → Stands e.code a (statement_in d) → Fits (length (statement_in d))
      → a + length (statement_in d) ≡ end → Does n d fuel a → DoesAll n (only d) fuel (suc rounds) a end
  unfolding Execute.execute_all Act.◌>>=◌
  only_does d fuel rounds a end st l q does r s total h un z low =
      rw (by_first fuel rounds a end (length (statement_in d)) (statement_size d a st l) (omega (arith, some_code d)), q, none_left fuel rounds end)
      (act_after (λ f. continue f (Act.give Onward)) (λ f f' r₁ s₁ total₁ w. done_with f f' r₁ s₁ total₁ w) (does r s total h un z low))
    where
      done_with : (f : Flow) (f' : Execute.Flow) (r₁ : Raw) (s₁ : State) (total₁ : Amounts) → Turned e.program ts e.grants r f f' r₁ s₁ total₁
          → Succeeds (Turns e.program ts e.grants r) (continue f (Act.give Onward) r₁) f' s₁ total₁
      done_with f f' r₁ s₁ total₁ w = flow_done w.ends.flow w

  first_does : {n : ℕ} (d : Statement) (ds : Statements) (fuel rounds a end : ℕ) → Stands e.code a (statement_in d) → Fits (length (statement_in d))
      → a + length (statement_in d) < end → Does n d fuel a → DoesAll n ds fuel rounds (a + length (statement_in d)) end
      → DoesAll n (first d ds) fuel (suc rounds) a end
  unfolding Execute.execute_all Act.◌>>=◌ Run.◌>>=◌
  first_does d ds fuel rounds a end st l q does more r s total h un z low =
      rw (by_first fuel rounds a end (length (statement_in d)) (statement_size d a st l) (omega arith))
      (bind (does r s total h un z low) (λ f f' r₁ s₁ total₁ w.
      let a = w.ends.after in
      goes_on _ _ w.ends.flow (turned_from a (more r₁ s₁ total₁ a.related (stays a un) (a.held ∙ z) (room_stays a low))) w))

  block_does : {n : ℕ} (p : ℕ) (ds : Statements) (fuel at : ℕ) → Placed ts p → Fits (length (statements_in ds)) → Stands e.code at (statement_in (block p ds))
      → DoesAll n ds fuel (length (statements_in ds) + 1 + 1) (at + 1) (at + (length (statements_in ds) + 1)) → Does n (block p ds) (suc fuel) at
  unfolding statement_with execute statement_at Act.◌>>=◌ Run.◌>>=◌
  block_does p ds fuel at pl short st inner r s total h un z low =
      let t : Heads (get_or e.code at 0) tag_block (length (statements_in ds) + 1) p 0 = heads (stands_first st) (omega arith) (omega (arith, enough)) (placed pl) in
      rw (t.place_is, by_block (expression_at fuel e) (statement_at fuel e) e (get_or e.code at 0) at p _ p 0 t)
      (bind (counts gr h p) (λ _ _ r₁ s₁ total₁ a.
      turned a (ended (inner r₁ s₁ total₁ a.after.related (stays a.after un) (a.after.held ∙ z) (room_stays a.after low)))))

  -- ---- all statements
  deeper : {n : ℕ} (d : Statement) (fuel at : ℕ) → length (statement_in d) + reserve ≤ fuel → Does n d (suc (fuel - 1)) at → Does n d fuel at
  deeper {n} d fuel at l f =
      let m : suc (fuel - 1) ≡ fuel = omega (arith, some_code d) in
      subst (λ k. Does n d k at) m f

  longer : {n : ℕ} (ds : Statements) (fuel rounds a end : ℕ) → 0 < rounds → DoesAll n ds fuel (suc (rounds - 1)) a end → DoesAll n ds fuel rounds a end
  longer {n} ds fuel rounds a end l f =
      let m : suc (rounds - 1) ≡ rounds = omega arith in
      subst (λ k. DoesAll n ds fuel k a end) m f

  all_some : (ds : Statements) → 0 < length (statements_in ds)
  unfolding statements_with
  all_some (only d) = some_code d
  all_some (first d ds) = simp length-append (omega (arith, some_code d))

  mutual
    unfolding statement_with statements_with KnownStatement KnownStatements declared_in declared_by Nests NestsAll

    pub executes : (n : ℕ) (d : Statement) → Nests n d → KnownStatement d ts → Owns (declared_in d) → (fuel at : ℕ) → Stands e.code at (statement_in d)
        → length (statement_in d) + reserve ≤ fuel → Fits (length (statement_in d)) → Does n d fuel at
    executes n (declare p x) ne k own fuel at st l m = deeper (declare p x) fuel at l (declare_does (fuel - 1) at p x k.0 own st)
    executes n (assign p x y) ne k own fuel at st l m =
        deeper (assign p x y) fuel at l (assign_does (fuel - 1) at p x y k.0 k.2 (omega arith) (omega arith) st)
    executes n (update p x y v) ne k own fuel at st l m =
        let long = simp length-append at m in
        let long' = simp length-append at l in
        deeper (update p x y v) fuel at l (update_does (fuel - 1) at p x y v k.0 k.1 k.2 k.3 (omega arith) (omega arith) st)
    executes n (when p y d) ne k own fuel at st l m =
        let long = simp length-append at m in
        let long' = simp length-append at l in
        let there : at + 1 + length (code_in y) ≡ at + length (code_in y) + 1 = omega arith in
        let here = subst (λ i. Stands e.code i (statement_in d)) there (stands_back (code_in y) (statement_in d) (stands_rest st)) in
        deeper (when p y d) fuel at l (when_does (fuel - 1) at p y d k.0 k.1 (omega arith) (omega arith) st
        (executes n d ne k.2 own (fuel - 1) (at + length (code_in y) + 1) here (omega arith) (omega arith)))
    executes n (while p y d) ne k own fuel at st l m =
        let long = simp length-append at m in
        let long' = simp length-append at l in
        let there : at + 1 + length (code_in y) ≡ at + length (code_in y) + 1 = omega arith in
        let here = subst (λ i. Stands e.code i (statement_in d)) there (stands_back (code_in y) (statement_in d) (stands_rest st)) in
        deeper (while p y d) fuel at l (while_does (fuel - 1) at p y d k.0 k.1 (omega arith) (omega arith) st
        (executes n d ne k.2 own (fuel - 1) (at + length (code_in y) + 1) here (omega arith) (omega arith)))
    executes n (foreach p x y d) ne k own fuel at st l m =
        let long = simp length-append at m in
        let long' = simp length-append at l in
        let there : at + 1 + 1 + length (code_in y) ≡ at + (length (code_in y) + 1) + 1 = omega arith in
        let here = subst (λ i. Stands e.code i (statement_in d)) there (stands_back (code_in y) (statement_in d) (stands_rest (stands_rest st))) in
        deeper (foreach p x y d) fuel at l (foreach_does (fuel - 1) at p x y d ne.0 k.0 k.2 (λ z i. own z (among_left z (x ∷ []) (declared_in d) i))
        (omega arith) (omega arith) st
        (executes (n - 1) d ne.1 k.3 (λ z i. own z (among_right z (x ∷ []) (declared_in d) i)) (fuel - 1) (at + (length (code_in y) + 1) + 1) here
        (omega arith) (omega arith)))
    executes n (return p y) ne k own fuel at st l m = deeper (return p y) fuel at l (return_does (fuel - 1) at p y k.0 k.1 (omega arith) (omega arith) st)
    executes n (block p ds) ne k own fuel at st l m =
        deeper (block p ds) fuel at l (block_does p ds (fuel - 1) at k.0 (omega arith) st
        (executes_all n ds ne k.1 own (fuel - 1) (length (statements_in ds) + 1 + 1) (at + 1) (at + (length (statements_in ds) + 1)) (stands_rest st)
        (omega arith) (omega arith) (omega arith) (omega arith)))
    executes n (act p y) ne k own fuel at st l m = deeper (act p y) fuel at l (act_does (fuel - 1) at p y k.0 k.1 (omega arith) (omega arith) st)

    pub executes_all : (n : ℕ) (ds : Statements) → NestsAll n ds → KnownStatements ds ts → Owns (declared_by ds) → (fuel rounds a end : ℕ) → Stands e.code a (statements_in ds)
        → length (statements_in ds) + reserve ≤ fuel → Fits (length (statements_in ds)) → length (statements_in ds) < rounds
        → a + length (statements_in ds) ≡ end → DoesAll n ds fuel rounds a end
    executes_all n (only d) ne k own fuel rounds a end st l m o q =
        longer (only d) fuel rounds a end (omega arith) (only_does d fuel (rounds - 1) a end st m q (executes n d ne k own fuel a st l m))
    executes_all n (first d ds) ne k own fuel rounds a end st l m o q =
        let long = simp length-append at l in
        let long' = simp length-append at m in
        let long'' = simp length-append at o in
        let long''' = simp length-append at q in
        let some = all_some ds in
        let one = some_code d in
        longer (first d ds) fuel rounds a end (omega arith)
        (first_does d ds fuel (rounds - 1) a end (stands_front (statement_in d) (statements_in ds) st) (omega arith) (omega arith)
        (executes n d ne.0 k.0 (λ z i. own z (among_left z (declared_in d) (declared_by ds) i)) fuel a
        (stands_front (statement_in d) (statements_in ds) st) (omega arith) (omega arith))
        (executes_all n ds ne.1 k.1 (λ z i. own z (among_right z (declared_in d) (declared_by ds) i)) fuel (rounds - 1) (a + length (statement_in d)) end
        (stands_back (statement_in d) (statements_in ds) st) (omega arith) (omega arith) (omega arith) (omega arith)))
