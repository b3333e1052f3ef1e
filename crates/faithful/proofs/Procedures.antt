-- What is written from a program's code and tokens is the text of its procedures.
use Prim.Native.Nat.{ℕ, zero, suc, ◌+◌, ◌-◌, ◌≤◌, ◌<◌}
use native.Mathlib.Omega.{arith}
use mathlib.Core.Path.{◌≡◌, refl, ap, sym, ◌∙◌, subst}
use mathlib.Core.Logic.{◌≢◌}
use mathlib.Core.Bool.{Bool, true, false, ◌||◌}
use mathlib.Core.List.{List, [], ◌∷◌, ◌++◌, append_assoc, map}
use mathlib.Core.Option.{none, some}
use lib.ListN.{length, take, drop, replicate, length-map, length-replicate}
use lib.Seq.{take_at}
use lib.Dec.{ltb}
use borrow.Author.Tests.{eq-eqb, ne_eqb, ltb-true, ltb-false}
use Rattle.meaning.specs.Basics.{bytes, if◌then◌otherwise◌, same_text}
use Rattle.meaning.specs.Token.{Token, ending, a_name, word_def, lexed, tokens_of}
use Rattle.meaning.specs.Tree.{Procedure}
use Rattle.meaning.specs.Grammar.{kind_at, procedure_named}
use Rattle.meaning.specs.Procedure.{is_among, doubled}
use Rattle.canonical.specs.Text.{comma_separated, statements_text, procedures_text}
use Rattle.canonical.specs.Text as Text
use Rattle.machine.specs.Opcodes.{table_place}
use Rattle.code.specs.Code.{slot_of, code_of_statements, code_of_procedure, code_of_procedures, head_word, tabled, head_named}
use Rattle.expressions.specs.Words as Words
use Rattle.reader.specs.Coded.{words_of}
use Rattle.reader.specs.Sane.{Sane}
use Rattle.reader.proofs.Homes.{text_same, Occurs, there, slot_small}
use Rattle.reader.proofs.Fields.{is_at, name_home_at}
use Rattle.reader.proofs.Trees.{Understood, UnderstoodAll}
use Rattle.reader.proofs.Tables.{start_told, parameters_told, body_told, head_some, named_understood, apart, table_at, table_length, table_word}
use Rattle.reader.proofs.Walk.{Stands, stands_front, stands_back}
use Rattle.phrases.specs.Raw.{Source, source, word_at}
use Rattle.formatter.specs.Raw.{parameter_names, raw_statement, raw_statements, procedure_by, raw_procedures}
use Rattle.formatter.specs.Raw as Raw
use Rattle.faithful.proofs.Names.{kind_some, name_apart, name_last, spelled, spelled_all, quoted_part}
use Rattle.faithful.proofs.Expressions.{Spells}
use Rattle.faithful.proofs.Statements.{statements_tell}
use Rattle.faithful.proofs.Tokens.{Free, Begins, Parted, last, more}

-- ---- names that stand once
-- looked for by its own name, each of some procedures is found among all
abbrev Own : List Procedure → List Procedure → Type 0
Own all [] = Unit {0}
Own all (f ∷ fs) = (procedure_named f.name all ≡ some f) × Own all fs

-- names that are not among those before are looked for in the rest
own_from_lem : (all : List Procedure) (names : List (List ℕ)) (fs : List Procedure) → doubled names fs ≡ none
    → ((x : List ℕ) → is_among x names ≡ false → procedure_named x all ≡ procedure_named x fs) → Own all fs
unfolding procedure_named is_among if◌then◌otherwise◌
own_from_lem all names [] d h = tt
own_from_lem all names (f ∷ fs) d h =
    let p = apart names f fs d in (
      h f.name p.new ∙ rw (text_same f.name),
      own_from_lem all (f.name ∷ names) fs p.rest λ x e.
          h x (second (same_text f.name x) (is_among x names) e) ∙ rw (first (same_text f.name x) (is_among x names) e),
    )
  where
    first : (a b : Bool) → a || b ≡ false → a ≡ false
    first true b e = e
    first false b e = refl

    second : (a b : Bool) → a || b ≡ false → b ≡ false
    second true b e = let z : ◌≡◌ {A = ℕ} 0 1 = cc in absurd (omega arith)
    second false b e = e

pub own : (fs : List Procedure) → doubled [] fs ≡ none → Own fs fs
own fs d = own_from_lem fs [] fs d (λ x e. refl)

-- ---- one procedure
-- a linefeed belongs to the last statement or to the closing brace
closing : (l t : List ℕ) → l ++ (t ++ bytes "\n") ++ bytes "}\n" ≡ l ++ t ++ bytes "\n}" ++ bytes "\n"
closing l t =
    append_assoc l (t ++ bytes "\n") (bytes "}\n") ∙ ap (λ (x : List ℕ). l ++ x) (append_assoc t (bytes "\n") (bytes "}\n"))
    ∙ sym (append_assoc (l ++ t) (bytes "\n}") (bytes "\n") ∙ append_assoc l t (bytes "\n}\n"))

module _ (program c : List ℕ) (ts : List Token) (are : tokens_of program ≡ lexed ts) (sane : Sane ts) (fuel : ℕ) (enough : 8192 ≤ fuel) (small : fuel < 16777216) where
  abbrev s : Source
  s = source program (words_of ts) c

  spells : Spells s ts
  spells = record { names = spelled program ts are sane c; strings = quoted_part program ts are sane c; apart = name_apart program ts are; last = name_last program ts are }

  -- the names of its parameters
  names_say : (f : Procedure) (start : ℕ) → Understood ts f → Stands c start (code_of_procedure f ts) → parameter_names s start (length f.parameters) ≡ f.parameters
  unfolding parameter_names code_of_procedure
  names_say f start u h =
      let slots = map (slot_of ts) f.parameters in
      let front = stands_front slots (code_of_statements f.body ts) h in
      let there : take (length f.parameters) (drop start c) ≡ slots = rw front.here (take_at slots front.behind _ (length-map f.parameters (slot_of ts))) in
      rw there (spelled_all program ts are sane c f.parameters u.parameters)

  -- its body
  body_says : (f : Procedure) (start : ℕ) → Understood ts f → Stands c start (code_of_procedure f ts)
      → raw_statements (suc (length (code_of_statements f.body ts))) (raw_statement fuel s) s (start + length f.parameters)
      (start + length f.parameters + length (code_of_statements f.body ts)) ≡ statements_text f.body ++ bytes "\n"
  unfolding code_of_procedure
  body_says f start u h =
      let slots = map (slot_of ts) f.parameters in
      let b = code_of_statements f.body ts in
      let back : Stands c (start + length f.parameters) b =
      subst (λ n. Stands c (start + n) b) (length-map f.parameters (slot_of ts)) (stands_back slots b h) in
      statements_tell s ts spells sane f.body u.body fuel (start + length f.parameters) _ (suc (length b)) small back refl
      (omega (arith, u.short, sane.few)) (omega arith)

  -- by its word in the table
  procedure_says : (f : Procedure) (start : ℕ) → Understood ts f → Stands c start (code_of_procedure f ts) → start < 65536
      → procedure_by fuel s (slot_of ts f.name) (head_word start f ts) ≡ Text.procedure_text f ++ bytes "\n"
  unfolding procedure_by Text.procedure_text
  procedure_says f start u h l =
      let n = length f.parameters in
      let b = length (code_of_statements f.body ts) in
      let k : n < 65536 = omega (arith, u.short, sane.few) in
      rw (
        start_told start n b l k,
        parameters_told start n b l k,
        body_told start n b l k (omega (arith, u.short, sane.few)),
        names_say f start u h,
        body_says f start u h,
        spells.names f.name u.name,
        spells.apart f.name u.name,
      )
      (closing (bytes "def " ++ f.name ++ bytes "(" ++ comma_separated f.parameters ++ bytes "){\n") (statements_text f.body))

  -- ---- all procedures
  module _ (all : List Procedure) (understood : UnderstoodAll ts all) (different : doubled [] all ≡ none) (short : length (code_of_procedures all ts) < length ts)
      (code : Stands c 0 (code_of_procedures all ts)) (table : Stands c 8192 (tabled 0 all ts (replicate 8192 0))) where
    -- the word of a name in the table
    word_of : (x : List ℕ) → Occurs ts a_name x → word_at s (table_place (slot_of ts x)) ≡ head_named 0 all ts x
    word_of x o =
        table_word c (tabled 0 all ts (replicate 8192 0)) table (table_length 0 all ts (replicate 8192 0) ∙ length-replicate {A = ℕ} 8192 0) (slot_of ts x)
        (omega (arith, slot_small ts x o, sane.few))
        ∙ table_at ts sane.few all understood different x o

    named_says : (f : Procedure) → procedure_named f.name all ≡ some f
        → procedure_by fuel s (slot_of ts f.name) (word_at s (table_place (slot_of ts f.name))) ≡ Text.procedure_text f ++ bytes "\n"
    named_says f named =
        let u = named_understood ts all understood f.name f named in
        let l = head_some 0 all ts f.name f named in
        rw (word_of f.name u.name ∙ l.word) (procedure_says f l.start u (l.stands c code) (omega (arith, l.within, sane.few)))

    -- at a `def`, and at any other token
    def_says : {i j : ℕ} {f : Procedure} → Begins ts i f j → procedure_named f.name all ≡ some f → Raw.procedure_text fuel s i ≡ Text.procedure_text f ++ bytes "\n"
    unfolding Raw.procedure_text if◌then◌otherwise◌
    def_says {i} {j} {f} b named =
        let home : Words.home_at (words_of ts) (i + 1) ≡ slot_of ts f.name = name_home_at ts sane (i + 1) b.named ∙ ap (slot_of ts) b.name in
        rw (is_at ts sane word_def i, eq-eqb (kind_at ts i) word_def b.def, home) (named_says f named)

    other_says : (i : ℕ) → kind_at ts i ≢ word_def → Raw.procedure_text fuel s i ≡ []
    unfolding Raw.procedure_text if◌then◌otherwise◌
    other_says i n = rw (is_at ts sane word_def i, ne_eqb (kind_at ts i) word_def n)

    -- tokens that are no `def` are passed
    passed : (d n k i j : ℕ) → d + n ≡ k → i + d ≡ j → Free ts i j → raw_procedures fuel k s i ≡ raw_procedures fuel n s j
    unfolding raw_procedures
    passed zero n k i j e q f =
        let x : k ≡ n = omega arith in
        let y : i ≡ j = omega arith in
        rw (x, y)
    passed (suc d) n zero i j e q f = absurd (omega arith)
    passed (suc d) n (suc k) i j e q f =
        rw (other_says i (f.free i (omega arith) (omega arith)))
        (passed d n k (i + 1) j (omega arith) (omega arith) (record { forward = omega arith; free = λ m l. f.free m (omega arith) }))

    part_there : {i : ℕ} {fs : List Procedure} → Parted ts i fs → i < length ts
    part_there (last {i = i} b e) = there ts i word_def (omega arith) b.def
    part_there (more {i = i} b p) = there ts i word_def (omega arith) b.def

    -- behind the last procedure there is no token
    ended : (j : ℕ) → kind_at ts j ≡ ending → length ts ≤ j
    ended j e = by (ltb j (length ts)) refl
      where
        by : (b : Bool) → ltb j (length ts) ≡ b → length ts ≤ j
        by true q = absurd (omega (arith, kind_some program ts are j (ltb-true j (length ts) q), e))
        by false q = ltb-false j (length ts) q

    pub procedures_say : {i : ℕ} {fs : List Procedure} → Parted ts i fs → Own all fs → (n : ℕ) → i + n ≡ length ts → raw_procedures fuel n s i ≡ procedures_text fs
    unfolding raw_procedures procedures_text
    procedures_say (last b e) o zero q = absurd (omega (arith, part_there (last b e)))
    procedures_say (more b p) o zero q = absurd (omega (arith, part_there (more b p)))
    procedures_say (last {i = i} {j = j} b e) o (suc n) q =
        let l = ended j e in
        let rest : raw_procedures fuel n s (i + 1) ≡ [] =
        passed n 0 n (i + 1) (length ts) (omega arith) (omega arith) (record { forward = omega arith; free = λ m k h. b.inside.free m k (omega arith) }) in
        rw (def_says b o.0, rest)
    procedures_say (more {i = i} {j = j} b p) o (suc n) q =
        let l = part_there p in
        let f = b.inside.forward in
        rw (
          def_says b o.0,
          passed (j - (i + 1)) (length ts - j) n (i + 1) j (omega arith) (omega arith) b.inside,
          procedures_say p o.1 (length ts - j) (omega arith),
        )
