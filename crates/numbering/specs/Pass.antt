-- What numbering does to words: a table of numbers by slot, the words of a procedure, and those of all procedures.
use Rattle.std.specs.Prelude.{ℕ, zero, suc, ◌+◌, ◌*◌, ◌/◌, ◌%◌, Bool, true, false, ◌||◌, List, [], ◌∷◌, ◌++◌, length, get_or, set, replicate, eqb}
use Rattle.meaning.specs.Basics.{if◌then◌otherwise◌}
use Rattle.machine.specs.Opcodes.{tag_in, number_in, extra_in, table_place, start_in, parameters_in, body_in, tag_name, tag_declare, tag_assign, tag_foreach}

-- ---- words that stand one after the other
-- n words from a on; past the end they are 0
unfoldable pub words_from : List ℕ → ℕ → ℕ → List ℕ
words_from code a zero = []
words_from code a (suc n) = get_or code a 0 ∷ words_from code (a + 1) n

-- some words put from a on
unfoldable pub put_from : List ℕ → ℕ → List ℕ → List ℕ
put_from code a [] = code
put_from code a (w ∷ ws) = put_from (set code a w) (a + 1) ws

-- ---- a table of numbers by slot
-- how many slots of a procedure have a number, which its stamp tells
pub record Entries : Type 0 where
  pub table : List ℕ
  pub count : ℕ

abbrev pub entries : List ℕ → ℕ → Entries
entries table count = record { table = table; count = count }

unfoldable pub is_entered : List ℕ → ℕ → ℕ → Bool
is_entered table stamp slot = eqb (get_or table (slot % 8192) 0 / 65536) stamp

-- the number of a slot; n if it has none
unfoldable pub number_of : List ℕ → ℕ → ℕ → ℕ → ℕ
number_of table stamp n slot = if is_entered table stamp slot then (λ _. get_or table (slot % 8192) 0 % 65536) otherwise λ _. n % 65536

-- a slot gets the next number, unless it has one
unfoldable pub entered : ℕ → ℕ → Entries → Entries
entered stamp slot e =
    if is_entered e.table stamp slot then (λ _. e)
    otherwise λ _. entries (set e.table (slot % 8192) (65536 * stamp + e.count % 65536)) (e.count % 65536 + 1)

unfoldable pub entered_all : ℕ → List ℕ → Entries → Entries
entered_all stamp [] e = e
entered_all stamp (slot ∷ slots) e = entered_all stamp slots (entered stamp slot e)

-- ---- the code of a procedure, word by word
-- whether the next word is a slot: it stands behind a foreach's
unfoldable pub slot_follows : Bool → ℕ → Bool
slot_follows true w = false
slot_follows false w = eqb (tag_in w) tag_foreach

-- the slot that a word declares, where it is a slot itself or not
unfoldable pub slots_in : Bool → ℕ → List ℕ
slots_in true w = w ∷ []
slots_in false w = if eqb (tag_in w) tag_declare then (λ _. extra_in w ∷ []) otherwise λ _. []

unfoldable pub declared_slots : Bool → List ℕ → List ℕ
declared_slots slot [] = []
declared_slots slot (w ∷ ws) = slots_in slot w ++ declared_slots (slot_follows slot w) ws

-- a word with numbers for slots, which the function v gives
unfoldable pub renumbered_word : (ℕ → ℕ) → Bool → ℕ → ℕ
renumbered_word v true w = v w
renumbered_word v false w =
    if eqb (tag_in w) tag_name then (λ _. w % 4294967296 + 4294967296 * v (number_in w))
    otherwise λ _. if eqb (tag_in w) tag_declare || eqb (tag_in w) tag_assign then (λ _. w % 281474976710656 + 281474976710656 * v (extra_in w)) otherwise λ _. w

unfoldable pub renumbered_words : (ℕ → ℕ) → Bool → List ℕ → List ℕ
renumbered_words v slot [] = []
renumbered_words v slot (w ∷ ws) = renumbered_word v slot w ∷ renumbered_words v (slot_follows slot w) ws

-- ---- procedures
-- what there is behind a procedure: the code, the table of numbers, and a word of the table of procedures
pub record Pass : Type 0 where
  pub code : List ℕ
  pub table : List ℕ
  pub word : ℕ

abbrev pub pass : List ℕ → List ℕ → ℕ → Pass
pass code table word = record { code = code; table = table; word = word }

-- the word d of a procedure of which n parameters are entered as m, and all its variables as so many
unfoldable pub framed_word : ℕ → ℕ → ℕ → ℕ → ℕ
framed_word d n m all = if eqb m n then (λ _. d % 281474976710656 + 281474976710656 * (all % 65535 + 1)) otherwise λ _. d

-- the code of a procedure whose variables are entered as e; its body is n words from a on
unfoldable pub renumbered_code : ℕ → ℕ → ℕ → Entries → List ℕ → List ℕ
renumbered_code stamp a n e code = put_from code a (renumbered_words (number_of e.table stamp e.count) false (words_from code a n))

-- its parameters, and its variables
abbrev pub parameters_entered : ℕ → ℕ → List ℕ → List ℕ → Entries
parameters_entered stamp d code table = entered_all stamp (words_from code (start_in d) (parameters_in d)) (entries table 0)

abbrev pub variables_entered : ℕ → ℕ → List ℕ → List ℕ → Entries
variables_entered stamp d code table =
    entered_all stamp (declared_slots false (words_from code (start_in d + parameters_in d) (body_in d))) (parameters_entered stamp d code table)

unfoldable pub number_procedure : ℕ → ℕ → List ℕ → List ℕ → Pass
number_procedure stamp d code table =
    pass (renumbered_code stamp (start_in d + parameters_in d) (body_in d) (variables_entered stamp d code table) code) (variables_entered stamp d code table).table
    (framed_word d (parameters_in d) (parameters_entered stamp d code table).count (variables_entered stamp d code table).count)

-- the procedure of word d stands there anew; main's word, if it is this one, is found
unfoldable pub settled : ℕ → ℕ → ℕ → ℕ → Pass → Pass
settled main slot found d p = pass (set p.code (table_place slot) p.word) p.table (if eqb d main then (λ _. p.word) otherwise λ _. found)

-- the procedure of a slot, if there is one
unfoldable pub number_slot : ℕ → ℕ → Pass → Pass
number_slot main slot p =
    if eqb (get_or p.code (table_place slot) 0) 0 then (λ _. p)
    otherwise λ _. settled main slot p.word (get_or p.code (table_place slot) 0) (number_procedure (slot + 1) (get_or p.code (table_place slot) 0) p.code p.table)

-- those of n slots from one on
unfoldable pub number_slots : ℕ → ℕ → ℕ → Pass → Pass
number_slots main slot zero p = p
number_slots main slot (suc n) p = number_slots main (slot + 1) n (number_slot main slot p)

-- all procedures whose names have slots below n
unfoldable pub number_all : ℕ → ℕ → List ℕ → List ℕ → Pass
number_all main n code table = number_slots main 0 n (pass code (replicate (length table) 0) main)
