-- All calls follow what they mean, by what Performing says of one: the number of arguments is asked first.
use Prim.Native.Nat.{ℕ, zero, suc, ◌-◌, ◌*◌, ◌≤◌, ◌<◌}
use native.Mathlib.Omega.{arith}
use mathlib.Core.Path.{◌≡◌, refl}
use mathlib.Core.Logic.{◌≢◌}
use mathlib.Core.Bool.{Bool, true, false}
use mathlib.Core.List.{List}
use mathlib.Core.Option.{Option, none, some}
use lib.ListN.{get_or, length}
use lib.Dec.{eqb}
use borrow.Author.Tests.{eqb-true, eqb-false}
use Rattle.meaning.specs.Basics.{bytes, if◌then◌otherwise◌, same_text}
use Rattle.meaning.specs.Token.{Token, a_name}
use Rattle.meaning.specs.Tree.{Procedure, Program}
use Rattle.meaning.specs.Grammar.{procedure_named}
use Rattle.meaning.specs.Value as Value
use Rattle.meaning.specs.State.{State}
use Rattle.meaning.specs.Run as Run
use Rattle.meaning.specs.Book.{Amounts}
use Rattle.meaning.specs.Library.{library_of, call_library}
use Rattle.meaning.specs.Execute.{execute_all}
use Rattle.meaning.specs.Procedure.{any_twice, invoking, found, calling}
use Rattle.code.specs.Code.{slot_of}
use Rattle.reader.specs.Sane.{Sane}
use Rattle.reader.proofs.Homes.{Occurs}
use Rattle.machine.specs.declared.Value.{Value}
use Rattle.machine.specs.Layout.{arguments_held, calls_used}
use Rattle.machine.specs.Act.{Raw, raw, Out, stop, Act}
use Rattle.machine.specs.Act as Act
use Rattle.machine.specs.Evaluate.{Setting}
use Rattle.machine.specs.Procedures.{begin, procedure_at}
use Rattle.machine.specs.Interpret.{invoke_at}
use Rattle.simulation.specs.Follows.{Grants, Follows}
use Rattle.simulation.proofs.Results.{failed, Values, steps_told}
use Rattle.simulation.proofs.Stacking.{AfterArguments}
use Rattle.simulation.proofs.Under.{steps_left}
use Rattle.simulation.proofs.Expressions.{Strings}
use Rattle.simulation.proofs.Performing as One
use Rattle.simulation.proofs.Performing.{Procedures}

module _ (e : Setting) {ts : List Token} (sane : Sane ts) (strings : Strings e.program ts) {granted : Amounts} (gr : Grants e.grants granted) (m : Program)
    (ps : Procedures e ts m) where
  abbrev Here : Raw → State → Amounts → Type 0
  Here = One.Here e sane strings gr m ps

  abbrev Calls : ℕ → Type 0
  Calls = One.Calls e sane strings gr m ps

  module _ (n fuel : ℕ) (again : Calls n) (x : List ℕ) (o : Occurs ts a_name x) (f : Procedure) (named : procedure_named x m.procedures ≡ some f) (p : ℕ)
      {r₁ r : Raw} {s₁ s : State} {total₁ total : Amounts} {us : List Value.Value} (h₁ : Here r₁ s₁ total₁) (args : AfterArguments e.program ts e.grants r₁ us r s total)
      (c room : ℕ) (some-call : 0 < c) (balance : room ≤ 8192 * c) (calls_are : get_or r.words calls_used 0 ≡ c) (turns : steps_left e.grants r < n)
      (held : 2 * get_or r.words arguments_held 0 ≤ room) (deep : 8192 * (64 - c) ≤ fuel) where
    abbrev begins : Out (Unit {0})
    begins = One.begins e sane strings gr m ps n fuel again x o f named p h₁ args c room some-call balance calls_are turns held deep

    us_many : length us ≡ args.many
    us_many = One.us_many e sane strings gr m ps n fuel again x o f named p h₁ args c room some-call balance calls_are turns held deep

    abbrev inside : Act Value
    inside = One.inside e sane strings gr m ps n fuel again x o f named p h₁ args c room some-call balance calls_are turns held deep

    performed : Follows granted total (Values e.program ts e.grants r₁) (invoke_at fuel e (slot_of ts x) p (get_or r₁.words arguments_held 0) r)
        (invoking (λ ss. execute_all (calling n m.procedures) ss n) f p us s)
    unfolding invoking Run.◌>>=◌ Run.go_on Run.refuse Run.fail Run.give Act.go_on
    performed = rw (One.by_word e sane strings gr m ps n fuel again x o f named p h₁ args c room some-call balance calls_are turns held deep) (go (eqb args.many (length f.parameters)) refl)
      where
        go : (t : Bool) → eqb args.many (length f.parameters) ≡ t
            → Follows granted total (Values e.program ts e.grants r₁) (Act.go_on begins (λ _. inside)) (invoking (λ ss. execute_all (calling n m.procedures) ss n) f p us s)
        go true q =
            let same : args.many ≡ length f.parameters = eqb-true args.many (length f.parameters) q in
            rw (us_many, q) (One.begins_so e sane strings gr m ps n fuel again x o f named p h₁ args c room some-call balance calls_are turns held deep same (any_twice f.parameters) refl)
        go false q =
            let other : args.many ≢ length f.parameters = eqb-false args.many (length f.parameters) q in
            rw (One.begin_wrong e sane strings gr m ps n fuel again x o f named p h₁ args c room some-call balance calls_are turns held deep other, us_many, q) (failed 20 p r (steps_told args.related))

  -- ---- a name that no procedure has
  not_there : (fuel : ℕ) (x : List ℕ) → Occurs ts a_name x → procedure_named x m.procedures ≡ none → (p base : ℕ) (r : Raw) → invoke_at fuel e (slot_of ts x) p base r ≡ stop 20 p r
  unfolding procedure_at begin Act.◌>>=◌ Act.go_on Act.load Act.refuse Act.fail
  not_there fuel x o named p base r = rw (ps.unknown x o named)

  -- ---- all calls
  pub calls_follow : (n : ℕ) → Calls n
  unfolding calling found call_library if◌then◌otherwise◌ Run.fail
  calls_follow zero w c room some-call balance fuel deep = record { follows = λ x o own p h₁ args un fewer held. absurd (omega arith) }
  calls_follow (suc n) w c room some-call balance fuel deep = record {
    follows = λ x o own p h₁ args un fewer held.
        by_name (calls_follow n) x o (One.own_name x own) p h₁ args un.calls (omega arith) held (procedure_named x m.procedures) refl;
  }
    where
      by_name : Calls n → (x : List ℕ) → Occurs ts a_name x → (same_text x (bytes "main") ≡ false) × (library_of x ≡ none) → (p : ℕ)
          {r₁ r : Raw} {s₁ s : State} {total₁ total : Amounts} {us : List Value.Value} → Here r₁ s₁ total₁ → AfterArguments e.program ts e.grants r₁ us r s total
          → get_or r.words calls_used 0 ≡ c → steps_left e.grants r < n → 2 * get_or r.words arguments_held 0 ≤ room
          → (f : Option Procedure) → procedure_named x m.procedures ≡ f
          → Follows granted total (Values e.program ts e.grants r₁) (invoke_at fuel e (slot_of ts x) p (get_or r₁.words arguments_held 0) r) (calling (suc n) m.procedures x p us s)
      by_name again x o plain p {r₁} {r} h₁ args b turns held none q =
          rw (plain.0, q, plain.1, not_there fuel x o q p (get_or r₁.words arguments_held 0) r) (failed 20 p r (steps_told args.related))
      by_name again x o plain p {r₁} {r} h₁ args b turns held (some f) q =
          rw (plain.0, q) (performed n fuel again x o f q p h₁ args c room some-call balance b turns held deep)
