-- Main's body, of a program that was read and whose variables are numbered: executing its code follows what it means.
use Prim.Native.Nat.{ℕ, suc, ◌+◌, ◌*◌, ◌-◌, ◌≤◌, ◌<◌}
use native.Mathlib.Omega.{arith}
use mathlib.Core.Path.{◌≡◌, refl, ap, ◌∙◌, subst}
use mathlib.Core.Bool.{Bool, true, false}
use mathlib.Core.List.{List, [], ◌∷◌}
use mathlib.Core.Option.{none, some}
use lib.ListN.{get_or, length}
use Rattle.meaning.specs.Basics.{bytes, if◌then◌otherwise◌, same_text}
use Rattle.meaning.specs.Token.{Token, a_name}
use Rattle.meaning.specs.Tree.{Procedure, Program}
use Rattle.meaning.specs.Grammar.{procedure_named}
use Rattle.meaning.specs.State.{State}
use Rattle.meaning.specs.Book.{Amounts}
use Rattle.meaning.specs.Library.{Library, library_of}
use Rattle.meaning.specs.Execute.{execute_all}
use Rattle.meaning.specs.Procedure.{in_library, any_twice, doubled, calling}
use Rattle.code.specs.Code.{slot_of}
use Rattle.reader.specs.Sane.{Sane}
use Rattle.reader.proofs.Homes.{Occurs, same_text_lem}
use Rattle.reader.proofs.Trees.{UnderstoodWhole, procedures_understood}
use Rattle.reader.proofs.Tables.{head_some, named_understood, apart}
use Rattle.reader.proofs.Whole.{Read}
use Rattle.reader.proofs.Lexing.{lexed_sane}
use Rattle.numbering.specs.Numbers.{number_in, variables_in, numbered_body}
use Rattle.numbering.proofs.Numbered.{Numbered}
use Rattle.machine.specs.Opcodes.{table_place, start_in, parameters_in, body_in, frame_in}
use Rattle.machine.specs.Layout.{steps_used, arguments_held, loop_unit, calls_used, running, steps_granted}
use Rattle.machine.specs.Act.{Raw}
use Rattle.machine.specs.Evaluate.{Setting}
use Rattle.machine.specs.Interpret.{body_at}
use Rattle.simulation.specs.Scope.{scope_of}
use Rattle.simulation.specs.Sound.{size_of}
use Rattle.simulation.specs.Follows.{Grants, Related, Follows}
use Rattle.simulation.proofs.Flows.{Flows}
use Rattle.simulation.proofs.Nesting.{procedures_nest}
use Rattle.simulation.proofs.Scopes.{size_twice, size_once, parameters_few, parameter_name, parameter_number}
use Rattle.simulation.proofs.Inside.{room_first}
use Rattle.simulation.proofs.Performing.{Stored, frame_short, starts, takes, has, framed, Procedures, main_scope, body_does}
use Rattle.simulation.proofs.Invoking.{calls_follow}
use Rattle.simulation.proofs.Quoted.{strings_stand}

-- no procedure has a name of the library
library_apart : (x : List ℕ) (l : Library) → library_of x ≡ some l → (names : List (List ℕ)) (fs : List Procedure) → doubled names fs ≡ none → procedure_named x fs ≡ none
unfolding procedure_named if◌then◌otherwise◌ in_library
library_apart x l e names [] d = refl
library_apart x l e names (f ∷ fs) d = go (same_text f.name x) refl (library_apart x l e (f.name ∷ names) fs (apart names f fs d).rest)
  where
    go : (b : Bool) → same_text f.name x ≡ b → procedure_named x fs ≡ none → (if b then (λ _. some f) otherwise λ _. procedure_named x fs) ≡ none
    go true q r =
        let n : f.name ≡ x = same_text_lem f.name x q in
        let own : in_library (library_of f.name) ≡ false = (apart names f fs d).own in
        let z : ◌≡◌ {A = Bool} true false = rw (n, e) at own in
        let y : ◌≡◌ {A = ℕ} 0 1 = cc in absurd (omega arith)
    go false q r = r

module _ (e : Setting) (ts : List Token) (m : Program) (short : length e.program ≤ 32768) (read : Read e.program ts m) (different : doubled [] m.procedures ≡ none)
    (numbered : Numbered e.code ts m.procedures) where
  whole : UnderstoodWhole ts m
  whole = procedures_understood ts m read.behind read.tree

  sane : Sane ts
  sane = lexed_sane e.program ts short read.tokens read.few

  -- ---- the procedures
  stored : (x : List ℕ) (f : Procedure) → Occurs ts a_name x → procedure_named x m.procedures ≡ some f → Stored e ts x f
  stored x f o named =
      let u = named_understood ts m.procedures whole.each x f named in
      record {
        code = numbered.known x f o named;
        body = u.body;
        nests = procedures_nest ts m read.behind read.tree x f named;
        short = omega (arith, u.short, read.few);
      }

  pub stored_all : Procedures e ts m
  stored_all = record {
    read = read.is;
    known = stored;
    unknown = numbered.unknown;
    apart = λ x l q. library_apart x l q [] m.procedures different;
  }

  -- ---- main
  pub main_occurs : Occurs ts a_name (bytes "main")
  main_occurs =
      let l = head_some 0 m.procedures ts (bytes "main") m.main whole.main in
      subst (Occurs ts a_name) l.named (named_understood ts m.procedures whole.each (bytes "main") m.main whole.main).name

  pub main_stored : Stored e ts (bytes "main") m.main
  main_stored = stored (bytes "main") m.main main_occurs whole.main

  -- its word in the table
  abbrev pub main_word : ℕ
  main_word = get_or e.code (table_place (slot_of ts (bytes "main"))) 0

  pub main_starts : start_in (get_or e.code (table_place (slot_of ts (bytes "main"))) 0) ≡ main_stored.code.start
  main_starts = starts main_stored

  pub main_takes : parameters_in (get_or e.code (table_place (slot_of ts (bytes "main"))) 0) ≡ length m.main.parameters
  main_takes = takes main_stored

  pub main_has : body_in (get_or e.code (table_place (slot_of ts (bytes "main"))) 0) ≡ length (numbered_body m.main ts)
  main_has = has main_stored

  -- ---- its variables
  scope_is : scope_of e.program ts 0 ≡ variables_in m.main
  scope_is = main_scope e ts m read.is

  size_is : size_of e.program ts 0 ≡ length (variables_in m.main)
  size_is = ap length scope_is

  pub main_brief : size_of e.program ts 0 < 8192
  main_brief = omega (arith, size_is, frame_short main_stored)

  -- two parameters of one name
  pub main_twice : any_twice m.main.parameters ≡ true → frame_in (get_or e.code (table_place (slot_of ts (bytes "main"))) 0) ≡ 0
  main_twice q = framed main_stored ∙ size_twice m.main q

  module _ (once : any_twice m.main.parameters ≡ false) where
    pub main_frame : frame_in (get_or e.code (table_place (slot_of ts (bytes "main"))) 0) ≡ suc (size_of e.program ts 0)
    main_frame = rw size_is (framed main_stored ∙ size_once m.main once)

    -- its parameters come first
    pub main_few : length m.main.parameters ≤ size_of e.program ts 0
    main_few = rw size_is (parameters_few m.main once)

    pub main_names : (k : ℕ) → k < length m.main.parameters → get_or (scope_of e.program ts 0) k [] ≡ get_or m.main.parameters k []
    main_names k l = rw scope_is (parameter_name m.main once k l)

    pub main_numbers : (k : ℕ) → k < length m.main.parameters → number_in (scope_of e.program ts 0) (get_or m.main.parameters k []) ≡ k
    main_numbers k l = rw scope_is (parameter_number m.main once k l)

  -- ---- THE LAW: where nothing but main's frame is held
  module _ {granted : Amounts} (gr : Grants e.grants granted) where
    pub body_follows : (fuel limit : ℕ) → 8192 * 64 ≤ fuel → {r : Raw} {s : State} {total : Amounts} → Related e.program ts e.grants r s total
        → get_or r.words running 0 ≡ 0 → get_or r.words calls_used 0 ≡ 1 → get_or r.words arguments_held 0 ≡ suc (size_of e.program ts 0) → get_or r.words loop_unit 0 ≡ 0
        → steps_granted e.grants - get_or r.words steps_used 0 < limit
        → Follows granted total (Flows e.program ts e.grants r)
        (body_at fuel e (start_in main_word + parameters_in main_word) (body_in main_word) r)
        (execute_all (calling limit m.procedures) m.main.body limit s)
    body_follows fuel limit deep h main one held idle turns =
        let strings = strings_stand e.program ts short read.tokens sane in
        rw (main_starts, main_takes, main_has)
        (body_does e sane strings gr m stored_all limit (calls_follow e sane strings gr m stored_all limit) 0 0 fuel (omega arith) (omega (arith, deep)) main_stored scope_is h
        (record { procedure = main; calls = omega (arith, one); turns = turns }) (room_first idle) (omega (arith, held, size_is)))
