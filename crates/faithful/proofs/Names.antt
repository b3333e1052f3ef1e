-- The names and strings of a program: their slots and words say where they stand in it.
use Prim.Native.Nat.{ℕ, zero, suc, ◌+◌, ◌-◌, ◌/◌, ◌%◌, ◌<◌}
use native.Mathlib.Nat.{add-zero}
use native.Mathlib.Omega.{arith}
use mathlib.Core.Path.{◌≡◌, refl, ap, sym, ◌∙◌, subst}
use mathlib.Core.Bool.{true}
use mathlib.Core.List.{List, [], ◌∷◌, ◌++◌, map}
use lib.ListN.{length, get_or, take, drop}
use lib.Seq.{drop-drop}
use Rattle.meaning.specs.Basics.{bytes}
use Rattle.meaning.specs.Byte.{is_name_part}
use Rattle.meaning.specs.Token.{Token, a_name, a_string, found, front, lexed, tokens_of}
use Rattle.meaning.specs.Grammar.{after_last, kind_at, start_at}
use Rattle.tokens.specs.Words.{text_in}
use Rattle.lexer.proofs.Fits.{fits}
use Rattle.lexer.proofs.Decode.{Each, each_token}
use Rattle.names.specs.Prepared.{home}
use Rattle.code.specs.Code.{slot_of, part_of}
use Rattle.canonical.specs.Text.{apart}
use Rattle.roundtrip.proofs.Sound.{Named}
use Rattle.roundtrip.proofs.Spelling.{tokens_spelt}
use Rattle.roundtrip.proofs.Weights.{part_letter}
use Rattle.roundtrip.proofs.LexesTree.{last_of, last_spelled}
use Rattle.reader.specs.Coded.{words_of}
use Rattle.reader.specs.Sane.{Sane}
use Rattle.reader.proofs.Homes.{Occurs, occurs_found, there}
use Rattle.reader.proofs.Known.{KnownNames}
use Rattle.reader.proofs.Fields.{place_at, name_size_at, part_start, part_length}
use Rattle.spellings.specs.Spelling.{part, name_text}
use Rattle.phrases.specs.Raw.{source, spelling}

-- ---- the text of a token
-- what a token of a program tells
record Sound (program : List ℕ) (t : Token) : Type 0 where
  some : 0 < t.kind
  named : t.kind ≡ a_name → take (length t.text) (drop t.place program) ≡ t.text
  quoted : t.kind ≡ a_string → take (length t.text) (drop (t.place + 1) program) ≡ t.text

sound : (program : List ℕ) (at k n : ℕ) (w : List ℕ) → at < length program → front (drop at program) ≡ found k n w
    → Sound program (record { kind = k; place = at; text = w })
unfolding text_in
sound program at k n w h e =
    let f = fits (drop at program) k n w e in
    record {
      some = f.kind_some;
      named = λ q.
          let l : length w + 0 ≡ n = rw q at f.size_is in
          let t : take n (drop at program) ≡ w = rw q at f.text_is in
          ap (λ m. take m (drop at program)) (sym (add-zero (length w)) ∙ l) ∙ t;
      quoted = λ q.
          let l : length w + 2 ≡ n = rw q at f.size_is in
          let t : take (n - 2) (drop 1 (drop at program)) ≡ w = rw q at f.text_is in
          let m : length w ≡ n - 2 = omega arith in
          rw (m, ← drop-drop 1 at program) t;
    }

each_in : (P : Token → Type 0) (ts : List Token) → Each P ts → (i : ℕ) → i < length ts → P (get_or ts i after_last)
each_in P [] e i l = absurd (omega arith)
each_in P (t ∷ ts) e zero l = e.0
each_in P (t ∷ ts) e (suc i) l = each_in P ts e.1 i (omega arith)

module _ (program : List ℕ) (ts : List Token) (are : tokens_of program ≡ lexed ts) where
  token_sound : (i : ℕ) → i < length ts → Sound program (get_or ts i after_last)
  token_sound i l = each_in (Sound program) ts (each_token (Sound program) program (sound program) ts are) i l

  -- no token has the kind of the ending
  pub kind_some : (i : ℕ) → i < length ts → 0 < kind_at ts i
  kind_some i l = (token_sound i l).some

  -- a name is a letter and letters and digits
  named : (x : List ℕ) → Occurs ts a_name x → Named x
  named x o = subst Named o.text ((tokens_spelt program ts are o.index).as_name o.kind)

  -- so one space stands before it behind a word
  pub name_apart : (x : List ℕ) → Occurs ts a_name x → apart x ≡ bytes " " ++ x
  unfolding apart
  name_apart x o = rw (part_letter (get_or x 0 0) (named x o).spelled.letter)

  -- and one behind it before a word
  pub name_last : (x : List ℕ) → Occurs ts a_name x → is_name_part (last_of x) ≡ true
  name_last x o = last_spelled x (named x o).spelled

  module _ (sane : Sane ts) (c : List ℕ) where
    -- a name is spelled by its slot
    pub spelled : (x : List ℕ) → Occurs ts a_name x → spelling (source program (words_of ts) c) (slot_of ts x) ≡ x
    unfolding name_text part
    spelled x o =
        let f = occurs_found ts a_name x (omega arith) o in
        let h = slot_of ts x in
        rw (place_at ts sane h, name_size_at ts sane h f.kind)
        ((token_sound h (there ts h a_name (omega arith) f.kind)).named f.kind ∙ f.text)

    -- and all names by theirs
    pub spelled_all : (xs : List (List ℕ)) → KnownNames xs ts → map (spelling (source program (words_of ts) c)) (map (slot_of ts) xs) ≡ xs
    unfolding KnownNames
    spelled_all [] o = refl
    spelled_all (x ∷ xs) o = rw (spelled x o.0, spelled_all xs o.1)

    -- a string stands where its word says
    pub quoted_part : (t : List ℕ) → Occurs ts a_string t → part program (part_of ts t % 65536) (part_of ts t / 65536) ≡ t
    unfolding part
    quoted_part t o =
        let f = occurs_found ts a_string t (omega arith) o in
        let h = home ts a_string t in
        rw (part_start ts sane t, part_length ts sane t)
        (subst (λ (y : List ℕ). take (length y) (drop (start_at ts h + 1) program) ≡ y) f.text
        ((token_sound h (there ts h a_string (omega arith) f.kind)).quoted f.kind))
