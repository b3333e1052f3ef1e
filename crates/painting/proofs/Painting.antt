-- The run of a program's body paints the picture that is meant.
use Prim.Native.Nat.{ℕ, suc, ◌+◌, ◌^◌, ◌≤◌, ◌<◌}
use native.Mathlib.Omega.{arith}
use mathlib.Core.Path.{◌≡◌, refl, ap, sym, ◌∙◌}
use mathlib.Core.Bool.{Bool, true, false, ◌&&◌, ◌||◌}
use mathlib.Core.List.{List, [], ◌∷◌}
use mathlib.Core.Option.{Option, none, some}
use lib.ListN.{get_or, length}
use lib.IntN.{ℤ, pos}
use lib.Signed.{mag, lt_z}
use borrow.Author.Tests.{lt-ltb, le-ltb}
use Rattle.meaning.specs.Basics.{bytes, same_text}
use Rattle.meaning.specs.Token.{Token}
use Rattle.meaning.specs.Tree as Tree
use Rattle.meaning.specs.Grammar.{Reading, well_formed, malformed, reading}
use Rattle.meaning.specs.Run as Run
use Rattle.meaning.specs.Book.{Amounts, nothing_yet}
use Rattle.meaning.specs.Program.{empty, sheet, sized, named_apart, understood, entering, painting}
use Rattle.meaning.specs.Procedure.{is_among, any_twice, doubled}
use Rattle.code.specs.Code.{slot_of, code_of_statements}
use Rattle.std.specs.Prelude.{Ok, Err}
use Rattle.reader.specs.declared.Program.{Program}
use Rattle.reader.specs.declared.Malformed.{Malformed}
use Rattle.reader.specs.Reading.{refused, seen, coded_apart, coded, tokens_in}
use Rattle.reader.proofs.Trees.{procedures_understood}
use Rattle.reader.proofs.Tables.{parameters_told, head_some, named_understood}
use Rattle.reader.proofs.Whole.{Read, formed_refused, Whole, whole}
use Rattle.numbering.specs.Numbers.{number_in}
use Rattle.numbering.specs.Pass as Pass
use Rattle.numbering.specs.Pass.{number_all}
use Rattle.numbering.proofs.Laws.{text_turned}
use Rattle.numbering.proofs.Numbered.{Numbered}
use Rattle.numbering.proofs.Whole.{number_whole}
use Rattle.machine.specs.Opcodes.{table_place, start_in, parameters_in, body_in, frame_in}
use Rattle.machine.specs.Layout.{steps_used, steps_granted, Lent}
use Rattle.machine.specs.Act.{raw, out_of}
use Rattle.machine.specs.Act as Act
use Rattle.machine.specs.Evaluate.{Setting, setting}
use Rattle.machine.specs.Interpret.{body_at}
use Rattle.simulation.specs.Scope.{scope_of}
use Rattle.simulation.specs.Sound.{size_of}
use Rattle.simulation.specs.Follows.{Grants, Follows}
use Rattle.simulation.proofs.Binding.{bind}
use Rattle.simulation.proofs.Chaining.{regroup}
use Rattle.simulation.proofs.Results.{failed}
use Rattle.simulation.proofs.Body.{main_takes, main_brief, main_twice, main_frame, main_few, main_names, main_numbers, body_follows}
use Rattle.std.specs.Prelude.{Result, Err}
use Rattle.machine.specs.declared.Fault.{Fault}
use Rattle.machine.specs.declared.Fault.TheVariants.{Misuse, NoSheet, TooLong}
use Rattle.machine.specs.declared.Fault.TheVariants as faults
use Rattle.painting.specs.Specified.{paint_read}
use Rattle.prologue.specs.Prologue.{main_begins, main_ends, Blank}
use Rattle.painting.specs.Running.{main_fuel, body_run, main_run, Painted, Ran, painting_run, reading_run}
use Rattle.painting.proofs.Entering.{Entered, enters_not, enters}
use Rattle.painting.proofs.Leaving.{main_ends_lem}

-- ---- main's body
-- whether two names are one
two_names : (x y : List ℕ) → any_twice (x ∷ y ∷ []) ≡ same_text x y
unfolding any_twice is_among
two_names x y = go (same_text y x) ∙ text_turned y x
  where
    go : (b : Bool) → (b || false) || (false || false) ≡ b
    go true = refl
    go false = refl

module _ (program code g : List ℕ) (short : length program ≤ 32768) (ts : List Token) (m : Tree.Program) (read : Read program ts m) (different : doubled [] m.procedures ≡ none)
    (numbered : Numbered code ts m.procedures)
    (texts words : List ℕ) (lent : Lent g texts words) (blank : Blank g words)
    (width height : ℤ) (w-small : mag width < 2 ^ 31) (h-small : mag height < 2 ^ 31) {granted : Amounts} (gr : Grants g granted) where
  abbrev e : Setting
  e = setting program code g

  abbrev main : ℕ
  main = get_or code (table_place (slot_of ts (bytes "main"))) 0

  module _ (x y : List ℕ) (parameters : m.main.parameters ≡ x ∷ y ∷ []) where
    two : start_in main + parameters_in main ≡ start_in main + 2
    two = rw (main_takes e ts m short read different numbered, parameters)

    -- its beginning, its body and its return, one after the other
    in_turn : main_run e main width height (raw texts words)
        ≡ Act.go_on (main_begins g (frame_in main) width height (raw texts words))
        (λ _ r. Act.go_on (body_at main_fuel e (start_in main + 2) (body_in main) r) (λ _ r'. main_ends program r'.texts g r'))
    unfolding main_run body_run Act.◌>>=◌ Act.go_on Act.give
    in_turn =
        regroup (main_begins g (frame_in main) width height (raw texts words))
        (λ _ r. Act.go_on (body_at main_fuel e (start_in main + 2) (body_in main) r) (λ _. Act.give tt)) (λ _ r'. main_ends program r'.texts g r')
        ∙ ap (Act.go_on (main_begins g (frame_in main) width height (raw texts words)))
        (λ i _ r. regroup (body_at main_fuel e (start_in main + 2) (body_in main) r) (λ _. Act.give tt) (λ _ r'. main_ends program r'.texts g r') i)

    begins : Follows granted nothing_yet (λ _ _ r s total. Entered program ts g r s total) (main_begins g (frame_in main) width height (raw texts words))
        (entering (x ∷ y ∷ []) width height empty)
    begins = by_name (same_text x y) refl
      where
        by_name : (b : Bool) → same_text x y ≡ b → Follows granted nothing_yet (λ _ _ r s total. Entered program ts g r s total)
            (main_begins g (frame_in main) width height (raw texts words)) (entering (x ∷ y ∷ []) width height empty)
        by_name true q =
            let t : any_twice m.main.parameters ≡ true = rw (parameters, two_names x y) q in
            rw (main_twice e ts m short read different numbered t) (enters_not program ts g texts words lent blank x y width height w-small h-small q)
        by_name false q =
            let t : any_twice m.main.parameters ≡ false = rw (parameters, two_names x y) q in
            let names : (k : ℕ) → k < 2 → get_or (scope_of program ts 0) k [] ≡ get_or (x ∷ y ∷ []) k [] = rw parameters at (main_names e ts m short read different numbered t) in
            let numbers : (k : ℕ) → k < 2 → number_in (scope_of program ts 0) (get_or (x ∷ y ∷ []) k []) ≡ k = rw parameters at (main_numbers e ts m short read different numbered t) in
            let few : 2 ≤ size_of program ts 0 = rw parameters at (main_few e ts m short read different numbered t) in
            rw (main_frame e ts m short read different numbered t)
            (enters program ts g texts words lent blank x y width height w-small h-small q (main_brief e ts m short read different numbered) few names (numbers 0 (omega arith))
            (numbers 1 (omega arith)) gr)

    main_paints : Follows granted nothing_yet (Painted program g) (main_run e main width height (raw texts words))
        (paint_read (well_formed m) width height (suc (steps_granted g)) empty)
    unfolding paint_read understood named_apart Run.◌>>=◌ Run.go_on Run.give
    main_paints = rw (in_turn, different, parameters)
        (bind begins (λ _ _ r s total a.
        bind (rw two at (body_follows e ts m short read different numbered gr main_fuel (suc (steps_granted g)) (omega arith) a.related a.procedure a.calls a.stack a.unit
        (omega (arith, a.related.steps_taken)))) (λ f f' r' s' total' b.
        main_ends_lem program ts g gr r'.texts b.after.related (b.after.untouched.calls ∙ a.calls) (b.after.untouched.unit ∙ a.unit) refl)))

-- ---- what reading left
-- how many parameters main has, by the word that reading gives
main_parameters : (program code : List ℕ) (d : ℕ) (m : Tree.Program) → length program ≤ 32768 → Whole program code d m → parameters_in d ≡ length m.main.parameters
main_parameters program code d m short s =
    let ts = tokens_in program in
    let all = procedures_understood ts m s.read.behind s.read.tree in
    let l = head_some 0 m.procedures ts (bytes "main") m.main all.main in
    let u = named_understood ts m.procedures all.each (bytes "main") m.main all.main in
    rw (s.main, l.word)
    (parameters_told l.start (length m.main.parameters) (length (code_of_statements m.main.body ts)) (omega (arith, l.within, all.short, s.read.few))
    (omega (arith, u.short, s.read.few)))

module _ (program code g texts words : List ℕ) (short : length program ≤ 32768) (width height : ℤ) where
  -- ---- a number
  module _ (steps : get_or words steps_used 0 ≡ 0) where
    pub read_malformed : (r : Malformed) → seen (Err r) code ≡ coded (tokens_in program) (reading program)
        → Ran program g (reading_run program width height g) (Err (faults.NotRead r.number r.place)) texts words
    unfolding seen coded coded_apart paint_read out_of understood named_apart Run.◌>>=◌ Run.go_on Run.fail
    read_malformed r left = go (reading program) left
      where
        by_name : (m : Tree.Program) (n : Option ℕ) → doubled [] m.procedures ≡ n → refused r.number r.place ≡ coded_apart (tokens_in program) m.procedures n
            → Ran program g (paint_read (well_formed m) width height (suc (steps_granted g)) empty) (Err (faults.NotRead r.number r.place)) texts words
        by_name m none d h = formed_refused (sym h)
        by_name m (some p) d h =
            let x : r.number ≡ 60 = cc in
            let y : r.place ≡ p = cc in
            record { follows = λ granted gr. rw (x, y, d) (failed 60 p (raw texts words) steps) }

        go : (m : Reading) → seen (Err r) code ≡ coded (tokens_in program) m
            → Ran program g (paint_read m width height (suc (steps_granted g)) empty) (Err (faults.NotRead r.number r.place)) texts words
        go (well_formed m) h = by_name m (doubled [] m.procedures) refl h
        go (malformed n p) h =
            let x : r.number ≡ n = cc in
            let y : r.place ≡ p = cc in
            record { follows = λ granted gr. rw (x, y) (failed n p (raw texts words) steps) }

  -- ---- a program
  module _ (r : Program) (left : seen (Ok r) code ≡ coded (tokens_in program) (reading program)) where
    abbrev Shows : Result (Unit {0}) Fault → List ℕ → List ℕ → Type 0
    Shows e ts ws = (m : Tree.Program) → Whole program code r.main m → Ran program g (paint_read (well_formed m) width height (suc (steps_granted g)) empty) e ts ws

    by_program : (e : Result (Unit {0}) Fault) (ts ws : List ℕ) → Shows e ts ws → Ran program g (reading_run program width height g) e ts ws
    by_program e ts ws f =
        let w = whole program code r left in
        rw w.1.read.is (f w.0 w.1)

    pub read_parameters : get_or words steps_used 0 ≡ 0 → (parameters_in r.main ≡ 2 → ⊥) → Ran program g (reading_run program width height g) (Err (Misuse 0)) texts words
    unfolding paint_read out_of understood named_apart entering Run.◌>>=◌ Run.go_on Run.fail Run.give
    read_parameters steps l = by_program (Err (Misuse 0)) texts words (λ m s. by_names m s m.main.parameters refl
        (λ q. l (main_parameters program code r.main m short s ∙ q)))
      where
        by_names : (m : Tree.Program) → Whole program code r.main m → (xs : List (List ℕ)) → m.main.parameters ≡ xs → (length m.main.parameters ≡ 2 → ⊥)
            → Ran program g (paint_read (well_formed m) width height (suc (steps_granted g)) empty) (Err (Misuse 0)) texts words
        by_names m s [] q l = record { follows = λ granted gr. rw (s.different, q) (failed 20 0 (raw texts words) steps) }
        by_names m s (x ∷ []) q l = record { follows = λ granted gr. rw (s.different, q) (failed 20 0 (raw texts words) steps) }
        by_names m s (x ∷ y ∷ []) q l = absurd (l (rw q))
        by_names m s (x ∷ y ∷ z ∷ xs) q l = record { follows = λ granted gr. rw (s.different, q) (failed 20 0 (raw texts words) steps) }

    -- its variables numbered
    module _ (table code' table' : List ℕ) (word : ℕ) (counted : r.tokens ≡ length (tokens_in program)) (room : 8192 ≤ length table)
        (pass : Pass.pass code' table' word ≡ number_all r.main r.tokens code table) where
      pub read_body : parameters_in r.main ≡ 2 → (lent : Lent g texts words) (blank : Blank g words) → mag width < 2 ^ 31 → mag height < 2 ^ 31
          → (e : Result (Unit {0}) Fault) (ts ws : List ℕ) → out_of e ts ws ≡ main_run (setting program code' g) word width height (raw texts words)
          → Ran program g (reading_run program width height g) e ts ws
      read_body two lent blank w-small h-small e ts ws h =
          by_program e ts ws (λ m s. by_names m s m.main.parameters refl (sym (main_parameters program code r.main m short s) ∙ two))
        where
          by_names : (m : Tree.Program) → Whole program code r.main m → (xs : List (List ℕ)) → m.main.parameters ≡ xs → length m.main.parameters ≡ 2
              → Ran program g (paint_read (well_formed m) width height (suc (steps_granted g)) empty) e ts ws
          by_names m s [] q l = absurd (omega (arith, sym (ap (λ (k : List (List ℕ)). length k) q) ∙ l))
          by_names m s (x ∷ []) q l = absurd (omega (arith, sym (ap (λ (k : List (List ℕ)). length k) q) ∙ l))
          by_names m s (x ∷ y ∷ []) q l =
              let n = number_whole program code table r.main r.tokens m short s counted room code' table' word pass in
              record {
                follows = λ granted gr. rw (h, n.told ∙ sym n.main.word)
                    (main_paints program code' g short (tokens_in program) m s.read s.different n.each texts words lent blank width height w-small h-small gr x y q);
              }
          by_names m s (x ∷ y ∷ z ∷ xs) q l = absurd (omega (arith, sym (ap (λ (k : List (List ℕ)). length k) q) ∙ l))

-- ---- the questions before
module _ (program g ts ws : List ℕ) (width height : ℤ) where
  pub no_sheet : get_or ws steps_used 0 ≡ 0 → lt_z (pos 0) width && lt_z (pos 0) height ≡ false
      → Ran program g (painting_run program width height g) (Err (NoSheet 0)) ts ws
  unfolding painting sheet out_of Run.◌>>=◌ Run.go_on Run.refuse Run.fail
  no_sheet z e = record { follows = λ granted gr. rw e (failed 72 0 (raw ts ws) z) }

  module _ (a_sheet : lt_z (pos 0) width && lt_z (pos 0) height ≡ true) where
    pub too_long : get_or ws steps_used 0 ≡ 0 → 32768 < length program → Ran program g (painting_run program width height g) (Err (TooLong 0)) ts ws
    unfolding painting sheet sized out_of Run.◌>>=◌ Run.go_on Run.refuse Run.fail Run.give
    too_long z l = record { follows = λ granted gr. rw (a_sheet, lt-ltb 32768 (length program) l) (failed 73 0 (raw ts ws) z) }

    pub as_read : length program ≤ 32768 → (e : Result (Unit {0}) Fault) → Ran program g (reading_run program width height g) e ts ws
        → Ran program g (painting_run program width height g) e ts ws
    unfolding painting paint_read sheet sized Run.◌>>=◌ Run.go_on Run.refuse Run.give
    as_read l e h = record { follows = λ granted gr. rw (a_sheet, le-ltb 32768 (length program) l) (h.follows granted gr) }
