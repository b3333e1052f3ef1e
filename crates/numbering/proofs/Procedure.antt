-- One procedure numbered: its body has numbers for slots, and its word the length of its frames.
use Prim.Native.Nat.{ℕ, suc, ◌+◌, ◌*◌, ◌/◌, ◌%◌, ◌≤◌, ◌<◌}
use native.Mathlib.Omega.{arith}
use mathlib.Core.Path.{◌≡◌, refl, sym, ap, ◌∙◌}
use mathlib.Core.Bool.{Bool, true, false}
use mathlib.Core.List.{List, [], append-nil, map}
use lib.ListN.{length, get_or}
use lib.Dec.{eqb}
use Rattle.meaning.specs.Basics.{if◌then◌otherwise◌}
use Rattle.meaning.specs.Token.{Token, a_name}
use Rattle.meaning.specs.Tree.{Procedure}
use Rattle.meaning.specs.Grammar.{text_at}
use Rattle.machine.specs.Opcodes.{procedure_word, start_in, parameters_in, body_in}
use Rattle.code.specs.Code.{slot_of, code_of_statements, head_word, statements_with}
use Rattle.reader.specs.Declarations.{declared_by, declarations}
use Rattle.reader.specs.Sane.{Sane}
use Rattle.reader.proofs.Homes.{Occurs, occurs_found}
use Rattle.reader.proofs.Trees.{Understood}
use Rattle.reader.proofs.Tables.{start_told, parameters_told, body_told}
use Rattle.numbering.specs.Numbers.{with_names, number_in, variables_in, frame_size, numbered_word, numbered_body}
use Rattle.numbering.specs.Pass.{words_from, put_from, Entries, entries, number_of, entered_all, declared_slots, renumbered_words}
use Rattle.numbering.specs.Pass.{renumbered_code, framed_word, parameters_entered, variables_entered, number_procedure}
use Rattle.numbering.proofs.Trees.{Goes, statements_go}
use Rattle.numbering.proofs.Laws.{names_few, names_append}
use Rattle.numbering.proofs.Names.{Holds, holds_none, holds_all, numbered, declared_by_lem}

module _ (ts : List Token) (sane : Sane ts) (f : Procedure) (u : Understood ts f) where
  abbrev size : ℕ
  size = length (code_of_statements f.body ts)

  abbrev takes : ℕ
  takes = length f.parameters

  pub short : size + 2 * declarations f.body + 2 * takes ≤ 8192
  short = omega (arith, u.short, sane.few)

  -- ---- its body
  module _ (v : ℕ → ℕ) (w : List ℕ → ℕ) (numbers : (x : List ℕ) → Occurs ts a_name x → v (slot_of ts x) ≡ w x) where
    goes : Goes v (code_of_statements f.body ts) (statements_with w f.body ts) (map (slot_of ts) (declared_by f.body))
    goes = statements_go ts sane v w numbers f.body u.body (omega (arith, short))

    body_renumbered : renumbered_words v false (code_of_statements f.body ts) ≡ statements_with w f.body ts
    unfolding renumbered_words
    body_renumbered =
        ap (renumbered_words v false) (sym (append-nil (code_of_statements f.body ts))) ∙ goes.renumbers [] ∙ append-nil (statements_with w f.body ts)

  -- a slot's name is that of its token, so every numbering of names is one of slots
  pub body_long : length (numbered_body f ts) ≡ size
  body_long = sym (goes (λ s. number_in (variables_in f) (text_at ts s)) (number_in (variables_in f))
      (λ x o. ap (number_in (variables_in f)) (occurs_found ts a_name x (omega arith) o).text)).long

  body_declares : declared_slots false (code_of_statements f.body ts) ≡ map (slot_of ts) (declared_by f.body)
  unfolding declared_slots
  body_declares =
      ap (declared_slots false) (sym (append-nil (code_of_statements f.body ts))) ∙ (goes (λ n. n) (slot_of ts) (λ x o. refl)).declares []
      ∙ append-nil (map (slot_of ts) (declared_by f.body))

  -- ---- its variables
  abbrev variables : List (List ℕ)
  variables = with_names (with_names [] f.parameters) (declared_by f.body)

  are_variables : variables ≡ variables_in f
  unfolding variables_in
  are_variables = sym (names_append [] f.parameters (declared_by f.body))

  few_parameters : length (with_names [] f.parameters) ≤ takes
  few_parameters = omega (arith, names_few [] f.parameters)

  few_variables : length variables ≤ takes + declarations f.body
  few_variables = omega (arith, names_few (with_names [] f.parameters) (declared_by f.body), few_parameters)

  module _ (start stamp : ℕ) (early : start < 65536) (code table : List ℕ)
      (slots : words_from code start takes ≡ map (slot_of ts) f.parameters) (body : words_from code (start + takes) size ≡ code_of_statements f.body ts)
      (long : 8192 ≤ length table) (fresh : (t : ℕ) → get_or table t 0 / 65536 < stamp) where
    abbrev d : ℕ
    d = head_word start f ts

    starts : start_in d ≡ start
    starts = start_told start takes size early (omega (arith, short))

    takes_so : parameters_in d ≡ takes
    takes_so = parameters_told start takes size early (omega (arith, short))

    has : body_in d ≡ size
    has = body_told start takes size early (omega (arith, short)) (omega (arith, short))

    abbrev first : Entries
    first = entered_all stamp (map (slot_of ts) f.parameters) (entries table 0)

    abbrev all : Entries
    all = entered_all stamp (map (slot_of ts) (declared_by f.body)) first

    holds_first : Holds ts sane.few stamp first (with_names [] f.parameters)
    holds_first = holds_all ts sane.few stamp f.parameters u.parameters (entries table 0) [] (holds_none ts sane.few stamp table long fresh) (omega (arith, short))

    holds_variables : Holds ts sane.few stamp all variables
    holds_variables =
        holds_all ts sane.few stamp (declared_by f.body) (declared_by_lem ts f.body u.body) first (with_names [] f.parameters) holds_first (omega (arith, short, few_parameters))

    first_so : parameters_entered stamp d code table ≡ first
    first_so = rw (starts, takes_so, slots)

    all_so : variables_entered stamp d code table ≡ all
    all_so = rw (starts, takes_so, has, body, body_declares, slots)

    -- the code, and the words of the table
    pub procedure_code : (number_procedure stamp d code table).code ≡ put_from code (start + takes) (numbered_body f ts)
    unfolding number_procedure renumbered_code
    procedure_code =
        rw (all_so, starts, takes_so, has, body) (ap (put_from code (start + takes)) (
        body_renumbered (number_of all.table stamp all.count) (number_in variables) (numbered ts sane.few stamp all variables holds_variables (omega (arith, short, few_variables)))
        ∙ ap (λ (xs : List (List ℕ)). statements_with (number_in xs) f.body ts) are_variables))

    pub procedure_table : (t : ℕ) → get_or (number_procedure stamp d code table).table t 0 / 65536 ≤ stamp
    unfolding number_procedure
    procedure_table t = rw all_so (holds_variables.old t)

    pub procedure_long : 8192 ≤ length (number_procedure stamp d code table).table
    unfolding number_procedure
    procedure_long = rw all_so holds_variables.long

    low_word : d % 281474976710656 ≡ d
    unfolding procedure_word
    low_word = omega (arith, short)

    framed : framed_word d takes first.count all.count ≡ numbered_word start f ts
    unfolding framed_word frame_size if◌then◌otherwise◌
    framed = rw (holds_variables.counts, holds_first.counts, ← are_variables) (go (eqb (length (with_names [] f.parameters)) takes))
      where
        go : (b : Bool)
            → (if b then (λ _. d % 281474976710656 + 281474976710656 * (length variables % 65535 + 1)) otherwise λ _. d)
            ≡ d + 281474976710656 * (if b then (λ _. suc (length variables)) otherwise λ _. 0)
        go true = rw low_word (omega (arith, short, few_variables))
        go false = omega arith

    pub procedure_word_lem : (number_procedure stamp d code table).word ≡ numbered_word start f ts
    unfolding number_procedure
    procedure_word_lem = rw (all_so, first_so, takes_so) framed
