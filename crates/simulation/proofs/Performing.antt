-- Procedures of the program: a call of one follows what it means, however deep calls are inside one another.
use Prim.Native.Nat.{ℕ, suc, ◌+◌, ◌-◌, ◌*◌, ◌≤◌, ◌<◌}
use native.Mathlib.Omega.{arith}
use native.Mathlib.Nat.{add-zero}
use native.Mathlib.Numerals.{add-one}
use mathlib.Core.Path.{◌≡◌, refl, ap, sym, ◌∙◌}
use mathlib.Core.Logic.{◌≢◌}
use mathlib.Core.Bool.{Bool, true, false, cond}
use mathlib.Core.List.{List, []}
use mathlib.Core.Option.{Option, none, some}
use lib.ListN.{get_or, length}
use borrow.Author.Tests.{eq-eqb, ne_eqb}
use Rattle.meaning.specs.Basics.{bytes, same_text}
use Rattle.meaning.specs.Token.{Token, a_name}
use Rattle.meaning.specs.Tree.{Procedure, Program}
use Rattle.meaning.specs.Grammar.{well_formed, reading, procedure_named}
use Rattle.meaning.specs.Value as Value
use Rattle.meaning.specs.State.{State, entered, fresh, resumed}
use Rattle.meaning.specs.Run as Run
use Rattle.meaning.specs.Book.{Amounts, added, shortage_of}
use Rattle.meaning.specs.Library.{Library, library_of}
use Rattle.meaning.specs.Execute.{execute_all}
use Rattle.meaning.specs.Procedure.{any_twice, assigning_all, returned_by, calling}
use Rattle.names.specs.Prepared.{number_of, library_number, procedure_number}
use Rattle.machine.specs.Opcodes.{table_place, start_in, parameters_in, body_in, frame_in}
use Rattle.code.specs.Code.{slot_of, statements_with, code_of_statements}
use Rattle.reader.specs.Sane.{Sane}
use Rattle.reader.specs.Declarations.{declarations}
use Rattle.reader.proofs.Homes.{Occurs, occurs_found}
use Rattle.reader.proofs.Known.{KnownStatements}
use Rattle.reader.proofs.Walk.{Stands}
use Rattle.reader.proofs.Tables.{head_positive}
use Rattle.numbering.specs.Numbers.{number_in, variables_in, frame_size, numbered_body}
use Rattle.numbering.proofs.Numbered.{NumberedAt}
use Rattle.machine.specs.declared.Value.{Value}
use Rattle.machine.specs.Layout.{arguments_held, calls_used, running, calls_granted, stack_words, loop_unit}
use Rattle.machine.specs.Act.{Raw, raw, Out, stop, Act}
use Rattle.machine.specs.Act as Act
use Rattle.machine.specs.Evaluate.{Setting}
use Rattle.machine.specs.Procedures.{open_frame, assign_from, begin, resume, result_of, procedure_at}
use Rattle.machine.specs.Interpret.{body_at, invoke_at}
use Rattle.simulation.specs.Scope.{own_names, under_way, scope_of}
use Rattle.simulation.specs.Sound.{size_of}
use Rattle.simulation.specs.Nesting.{NestsAll}
use Rattle.simulation.specs.Follows.{Grants, Related, Follows}
use Rattle.simulation.proofs.Binding.{bind}
use Rattle.simulation.proofs.Listed.{length_listed}
use Rattle.simulation.proofs.Results.{due, failed, Values, onward, steps_told, spent_then}
use Rattle.simulation.proofs.Flows.{Flows, ended}
use Rattle.simulation.proofs.Chaining.{regroup}
use Rattle.simulation.proofs.Scopes.{variables_few, own_declared, size_twice, size_once, parameters_few, parameter_name, parameter_number}
use Rattle.simulation.proofs.Library.{Stacked, stacked_kept}
use Rattle.simulation.proofs.Stacking.{AfterArguments}
use Rattle.simulation.proofs.Under.{steps_left, Under, stays, Invokes}
use Rattle.simulation.proofs.Expressions.{Strings}
use Rattle.simulation.proofs.Inside.{Room, room_first}
use Rattle.simulation.proofs.Statements.{executes_all}
use Rattle.simulation.proofs.Lengths.{body_long, start_numbered, parameters_numbered, body_numbered, frame_numbered}
use Rattle.simulation.proofs.Parameters.{assigns_all}
use Rattle.simulation.proofs.Calling.{kept, kept_low, opened, within, Begun, begun}
use Rattle.simulation.proofs.Returning.{resumes, returned_with}

-- ---- what is known of the procedures
-- the code of the one that x names
pub record Stored (e : Setting) (ts : List Token) (x : List ℕ) (f : Procedure) : Type 0 where
  pub code : NumberedAt e.code ts x f
  pub body : KnownStatements f.body ts
  pub nests : NestsAll 64 f.body
  pub short : length (code_of_statements f.body ts) + 2 * declarations f.body + 2 * length f.parameters + 2 ≤ 8192

-- those of a program that was read
pub record Procedures (e : Setting) (ts : List Token) (m : Program) : Type 0 where
  pub read : reading e.program ≡ well_formed m
  pub known : (x : List ℕ) (f : Procedure) → Occurs ts a_name x → procedure_named x m.procedures ≡ some f → Stored e ts x f
  pub unknown : (x : List ℕ) → Occurs ts a_name x → procedure_named x m.procedures ≡ none → get_or e.code (table_place (slot_of ts x)) 0 ≡ 0
  pub apart : (x : List ℕ) (l : Library) → library_of x ≡ some l → procedure_named x m.procedures ≡ none

module _ {e : Setting} {ts : List Token} {x : List ℕ} {f : Procedure} (st : Stored e ts x f) where
  body_size : length (numbered_body f ts) ≡ length (code_of_statements f.body ts)
  body_size = body_long f ts

  few_names : length f.parameters < 65536
  few_names = omega (arith, st.short)

  few_words : length (code_of_statements f.body ts) < 65536
  few_words = omega (arith, st.short)

  -- its frame and its body take 8192 words at most, the frame's counted twice
  pub frame_short : length (numbered_body f ts) + 2 * suc (length (variables_in f)) ≤ 8192
  frame_short = omega (arith, body_size, variables_few f, st.short)

  -- ---- by its word
  pub starts : start_in (get_or e.code (table_place (slot_of ts x)) 0) ≡ st.code.start
  starts = rw st.code.word (start_numbered st.code.start (length f.parameters) (length (code_of_statements f.body ts)) (frame_size f) st.code.early few_names few_words)

  pub takes : parameters_in (get_or e.code (table_place (slot_of ts x)) 0) ≡ length f.parameters
  takes = rw st.code.word (parameters_numbered st.code.start (length f.parameters) (length (code_of_statements f.body ts)) (frame_size f) st.code.early few_names few_words)

  pub has : body_in (get_or e.code (table_place (slot_of ts x)) 0) ≡ length (numbered_body f ts)
  has =
      rw st.code.word (body_numbered st.code.start (length f.parameters) (length (code_of_statements f.body ts)) (frame_size f) st.code.early few_names few_words)
      ∙ sym body_size

  pub framed : frame_in (get_or e.code (table_place (slot_of ts x)) 0) ≡ frame_size f
  framed = rw st.code.word (frame_numbered st.code.start (length f.parameters) (length (code_of_statements f.body ts)) (frame_size f) st.code.early few_names few_words)

  pub there : get_or e.code (table_place (slot_of ts x)) 0 ≢ 0
  there = rw st.code.word (λ q. omega (arith, head_positive st.code.start f ts, q))

-- a name that is neither main's nor in the library
own_number : (l : Option Library) → number_of l ≡ 11 → l ≡ none
unfolding number_of
own_number none e = refl
own_number (some Library.draw_line) e = absurd (omega arith)
own_number (some Library.draw_ellipse) e = absurd (omega arith)
own_number (some Library.draw_box) e = absurd (omega arith)
own_number (some Library.draw_text) e = absurd (omega arith)
own_number (some Library.connect_shapes) e = absurd (omega arith)
own_number (some Library.draw_text_on_shape) e = absurd (omega arith)
own_number (some Library.x_coordinate) e = absurd (omega arith)
own_number (some Library.y_coordinate) e = absurd (omega arith)
own_number (some Library.destroy_shape) e = absurd (omega arith)
own_number (some Library.clear_scene) e = absurd (omega arith)
own_number (some Library.draw_group) e = absurd (omega arith)

pub own_name : (x : List ℕ) → procedure_number x ≡ 11 → (same_text x (bytes "main") ≡ false) × (library_of x ≡ none)
unfolding procedure_number library_number
own_name x e = go (same_text x (bytes "main")) e
  where
    go : (b : Bool) → cond b 12 (library_number x) ≡ 11 → (b ≡ false) × (library_of x ≡ none)
    go true q = absurd (omega arith)
    go false q = (refl, own_number (library_of x) q)

-- ---- whose variables a call has
module _ (e : Setting) (ts : List Token) (m : Program) (read : reading e.program ≡ well_formed m) where
  pub main_scope : scope_of e.program ts 0 ≡ variables_in m.main
  unfolding under_way own_names
  main_scope = rw read

  scope_of_lem : (x : List ℕ) (f : Procedure) → Occurs ts a_name x → procedure_named x m.procedures ≡ some f → scope_of e.program ts (slot_of ts x + 1) ≡ variables_in f
  unfolding under_way own_names
  scope_of_lem x f o named = rw (read, add-one (slot_of ts x), (occurs_found ts a_name x (omega arith) o).text, named)

module _ (e : Setting) {ts : List Token} (sane : Sane ts) (strings : Strings e.program ts) {granted : Amounts} (gr : Grants e.grants granted) (m : Program)
    (ps : Procedures e ts m) where
  abbrev pub Here : Raw → State → Amounts → Type 0
  Here r s total = Related e.program ts e.grants r s total

  -- how calls are performed, n deep: `room` is at most 8192 words for each call, and as much fuel is left for each call that may still be made
  abbrev pub Calls : ℕ → Type 0
  Calls n = (w c room : ℕ) → 0 < c → room ≤ 8192 * c → (fuel : ℕ) → 8192 * (64 - c) ≤ fuel → Invokes e ts granted m.procedures n w c room fuel

  -- ---- a body, in a call whose frame is the last on the stack
  pub body_does : (n : ℕ) → Calls n → (w c fuel : ℕ) → c < 64 → 8192 * (64 - c) ≤ fuel → {x : List ℕ} {f : Procedure} (st : Stored e ts x f) → scope_of e.program ts w ≡ variables_in f
      → {r : Raw} {s : State} {total : Amounts} → Here r s total → Under e.grants w (c + 1) n r → Room 64 r
      → 2 * get_or r.words arguments_held 0 ≤ 8192 * c + 2 * suc (length (variables_in f))
      → Follows granted total (Flows e.program ts e.grants r) (body_at fuel e (st.code.start + length f.parameters) (length (numbered_body f ts)) r)
      (execute_all (calling n m.procedures) f.body n s)
  unfolding body_at
  body_does n again w c fuel less deep {f = f} st scope {r} {s} {total} h un low held =
      let long = length (numbered_body f ts) in
      let start = st.code.start + length f.parameters in
      let base = get_or r.words arguments_held 0 in
      let same : statements_with (number_in (scope_of e.program ts w)) f.body ts ≡ numbered_body f ts = rw scope in
      let size : length (statements_with (number_in (scope_of e.program ts w)) f.body ts) ≡ length (numbered_body f ts) = ap length same in
      let code : Stands e.code start (statements_with (number_in (scope_of e.program ts w)) f.body ts) = rw same st.code.body in
      let mine : 2 * base + long ≤ 8192 * (c + 1) = omega (arith, frame_short st, held) in
      ended (executes_all e sane strings gr m.procedures ps.apart n w (c + 1) (2 * base + long) (8192 * (64 - (c + 1))) (omega (arith, mine))
      (λ k l. again w (c + 1) (2 * base + long) (omega arith) mine k l) base (omega arith) 64 f.body st.nests st.body
      (λ x i. rw scope (own_declared f x i)) fuel (long + 1) start (start + long) code
      (omega (arith, deep, size, frame_short st)) (omega (arith, size)) (omega (arith, size)) (omega (arith, size)) r s total h un refl low)

  -- ---- a procedure called
  module _ (n fuel : ℕ) (again : Calls n) (x : List ℕ) (o : Occurs ts a_name x) (f : Procedure) (named : procedure_named x m.procedures ≡ some f) (p : ℕ)
      {r₁ r : Raw} {s₁ s : State} {total₁ total : Amounts} {us : List Value.Value} (h₁ : Here r₁ s₁ total₁) (args : AfterArguments e.program ts e.grants r₁ us r s total)
      (c room : ℕ) (some-call : 0 < c) (balance : room ≤ 8192 * c) (calls_are : get_or r.words calls_used 0 ≡ c) (turns : steps_left e.grants r < n)
      (held : 2 * get_or r.words arguments_held 0 ≤ room) (deep : 8192 * (64 - c) ≤ fuel) where
    pub st : Stored e ts x f
    st = ps.known x f o named

    h : Here r s total
    h = args.related

    abbrev pub base : ℕ
    base = get_or r₁.words arguments_held 0

    abbrev pub top : ℕ
    top = get_or r.words arguments_held 0

    abbrev w : ℕ
    w = slot_of ts x + 1

    scope_is : scope_of e.program ts (slot_of ts x + 1) ≡ variables_in f
    scope_is = scope_of_lem e ts m ps.read x f o named

    size_is : size_of e.program ts (slot_of ts x + 1) ≡ length (variables_in f)
    size_is = ap length scope_is

    -- ---- parameters assigned, the body, and the return
    abbrev pub inside : Act Value
    inside = Act.◌>>=◌ (body_at fuel e (st.code.start + length f.parameters) (length (numbered_body f ts))) (λ flow. Act.◌>>◌ (resume base) (result_of flow))

    abbrev pub inside' : Run.Action Value.Value
    inside' = Run.◌>>=◌ Run.current (λ s. Run.◌>>◌ (Run.become (entered s (fresh f.parameters))) (Run.◌>>◌ (assigning_all p f.parameters us)
        (Run.◌>>=◌ (execute_all (calling n m.procedures) f.body n) (λ flow. Run.◌>>=◌ Run.current (λ s'.
        Run.◌>>◌ (Run.become (resumed s s')) (Run.◌>>◌ Run.give_back (Run.give (returned_by flow))))))))

    -- the caller's call is one of those that there are
    some_calls : 0 < get_or r.words calls_used 0
    some_calls = rw calls_are some-call

    called_with : {r₂ : Raw} → c < 64 → any_twice f.parameters ≡ false → Begun e.program ts e.grants r s total (slot_of ts x + 1) p f.parameters r₂
        → args.many ≡ length f.parameters
        → Follows granted (added total (due Run.calls 1 p)) (Values e.program ts e.grants r₁)
        (Act.◌>>◌ (assign_from e.grants base 0 (length f.parameters) p) inside r₂) (inside' s)
    unfolding Act.◌>>=◌ Act.go_on Run.◌>>=◌ Run.go_on Run.current Run.become Run.give_back Run.give
    called_with {r₂} less once b same =
        let un : Under e.grants (slot_of ts x + 1) (c + 1) n r₂ = record {
          procedure = b.procedure;
          calls = b.calls ∙ ap (λ k. k + 1) calls_are;
          turns = omega (arith, turns, b.later.steps);
        } in
        let numbers : (j : ℕ) → j < length f.parameters → number_in (scope_of e.program ts (get_or r₂.words running 0)) (get_or f.parameters j []) ≡ 0 + j =
        λ j l. let z : 0 + j ≡ j = omega arith in rw (b.procedure, scope_is, z) (parameter_number f once j l) in
        let stacked : Stacked e.program r₂ base (length f.parameters) us =
        rw same at (stacked_kept b.later (λ k x y. b.stack k (omega (arith, args.held))) (omega (arith, b.held)) args.stacked) in
        bind (assigns_all e gr p f.parameters base 0 b.related numbers us (rw add-zero stacked) (omega (arith, args.held, same, b.place))) (λ _ _ r₃ s₃ total₃ a.
        bind (body_does n again w c fuel less deep st scope_is a.related (stays a un) (room_first (a.untouched.unit ∙ b.unit))
        (omega (arith, a.held, b.held, size_is, held, balance))) (λ flow flow' r₄ s₄ total₄ d.
        rw (resumes h₁ args b some_calls (onward a d.after)) (returned_with h₁ args b some_calls (onward a d.after) d.flow)))

    -- ---- what is asked before
    given_many : top - base ≡ args.many
    given_many = omega (arith, args.held)

    pub us_many : length us ≡ args.many
    us_many = ap length args.stacked.are ∙ length_listed _ base args.many

    abbrev pub begins : Out (Unit {0})
    begins = begin e.grants e.code (slot_of ts x) top p base r

    pub by_word : invoke_at fuel e (slot_of ts x) p base r ≡ Act.go_on begins (λ _. inside)
    unfolding procedure_at Act.◌>>=◌ Act.go_on Act.load
    by_word = rw (starts st, takes st, has st)

    pub begin_wrong : args.many ≢ length f.parameters → begins ≡ stop 20 p r
    unfolding begin Act.◌>>=◌ Act.go_on Act.refuse Act.give Act.fail
    begin_wrong d = rw (ne_eqb _ 0 (there st), takes st, given_many, ne_eqb args.many (length f.parameters) d)

    -- two parameters have one name
    begin_twice : args.many ≡ length f.parameters → frame_size f ≡ 0 → begins ≡ stop 60 p r
    unfolding begin Act.◌>>=◌ Act.go_on Act.refuse Act.give Act.fail
    begin_twice q z = rw (ne_eqb _ 0 (there st), takes st, given_many, eq-eqb args.many (length f.parameters) q, framed st, z)

    -- the frame and the parameters, behind the payment
    abbrev opening : Act (Unit {0})
    opening = Act.◌>>◌ (open_frame top (length f.parameters) (suc (length (variables_in f))) p)
        (Act.◌>>◌ (Act.store running (slot_of ts x + 1)) (Act.◌>>◌ (Act.store loop_unit 0) (assign_from e.grants base 0 (length f.parameters) p)))

    begin_right : args.many ≡ length f.parameters → frame_size f ≡ suc (length (variables_in f))
        → begins ≡ Act.◌>>◌ (Act.spend calls_used (calls_granted e.grants) 1 81 p) opening (raw r.texts (kept h).words)
    unfolding begin Act.◌>>=◌ Act.go_on Act.refuse Act.give
    begin_right q z =
        let some : suc (length (variables_in f)) ≢ 0 = λ k. omega arith in
        rw (ne_eqb _ 0 (there st), takes st, given_many, eq-eqb args.many (length f.parameters) q, framed st, z, ne_eqb _ 0 some, (kept h).is)

    pub begins_so : args.many ≡ length f.parameters → (t : Bool) → any_twice f.parameters ≡ t → Follows granted total (Values e.program ts e.grants r₁) (Act.go_on begins (λ _. inside))
        (Run.◌>>◌ (Run.refuse t 60 p) (Run.◌>>◌ (Run.spend Run.calls 1 p) inside') s)
    unfolding Act.◌>>=◌ Act.go_on Run.◌>>=◌ Run.go_on Run.refuse Run.fail Run.give shortage_of Act.store
    begins_so same true twice = rw (begin_twice same (size_twice f twice)) (failed 60 p r (steps_told h))
    begins_so same false once =
        rw (begin_right same (size_once f once), regroup (Act.spend calls_used (calls_granted e.grants) 1 81 p (raw r.texts (kept h).words)) (λ _. opening) (λ _. inside))
        (spent_then Run.calls calls_used (calls_granted e.grants) 1 81 p (raw r.texts (kept h).words) s (h.calls_taken ∙ sym (kept_low h calls_used (omega arith))) gr.calls refl
        (kept_low h 0 (omega arith) ∙ steps_told h) (Act.◌>>◌ opening inside) inside' (λ fits.
        let less : get_or r.words calls_used 0 + 1 ≤ calls_granted e.grants = rw (kept_low h calls_used (omega arith)) at fits in
        let fewer : c < 64 = omega (arith, less, calls_are, h.sound.lent.room.calls) in
        let fit : top + suc (size_of e.program ts w) ≤ stack_words = omega (arith, size_is, frame_short st, held, balance, fewer) in
        let few : length f.parameters ≤ size_of e.program ts w = rw size_is (parameters_few f once) in
        let brief : size_of e.program ts w < 8192 = omega (arith, size_is, frame_short st) in
        let names : (k : ℕ) → k < length f.parameters → get_or (scope_of e.program ts w) k [] ≡ get_or f.parameters k [] = λ k l. rw scope_is (parameter_name f once k l) in
        let b = begun h w p f.parameters some_calls less fit few brief names in
        rw (← size_is, (opened h w p f.parameters some_calls less fit few brief names).is) (called_with {r₂ = within h w p f.parameters some_calls less fit few brief names} fewer once b same)))
