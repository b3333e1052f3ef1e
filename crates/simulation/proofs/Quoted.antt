-- The strings of a program stand in it where their handles say.
use Prim.Native.Nat.{ℕ, zero, suc, ◌+◌, ◌-◌, ◌*◌, ◌/◌, ◌%◌, ◌≤◌, ◌<◌}
use native.Mathlib.Omega.{arith}
use mathlib.Core.Path.{◌≡◌, ap, sym, ◌∙◌, subst}
use mathlib.Core.List.{List, [], ◌∷◌}
use lib.ListN.{get_or, length, take, drop, get_or-map}
use Rattle.meaning.specs.Basics.{if◌then◌otherwise◌}
use Rattle.meaning.specs.Token.{Token, a_string, found, front, lexed, tokens_of}
use Rattle.meaning.specs.Grammar.{after_last, kind_at, text_at, start_at}
use Rattle.tokens.specs.Words.{size_of, word_of, text_in, token_in}
use Rattle.lexer.proofs.Decode.{Each, each_token, word_decodes}
use Rattle.lexer.proofs.Fits.{fits, end_within}
use Rattle.names.specs.Prepared.{home}
use Rattle.code.specs.Code.{part_of}
use Rattle.reader.specs.Sane.{Sane}
use Rattle.reader.proofs.Homes.{Occurs, occurs_found}
use Rattle.machine.specs.Texts.{origin_in, start_in, size_in, part, text_of}
use Rattle.simulation.specs.Sound.{Held}
use Rattle.simulation.proofs.Expressions.{Strings}

each_at : (P : Token → Type 0) (ts : List Token) → Each P ts → P after_last → (i : ℕ) → P (get_or ts i after_last)
each_at P [] e l i = l
each_at P (t ∷ ts) e l zero = e.0
each_at P (t ∷ ts) e l (suc i) = each_at P ts e.1 l i

module _ (program : List ℕ) (ts : List Token) (short : length program ≤ 32768) (are : tokens_of program ≡ lexed ts) (sane : Sane ts) where
  -- a token's bytes are the program's
  abbrev Inside : Token → Type 0
  Inside t = t.place + size_of t ≤ length program

  inside : (at k n : ℕ) (w : List ℕ) → at < length program → front (drop at program) ≡ found k n w → Inside (record { kind = k; place = at; text = w })
  unfolding size_of
  inside at k n w b q = rw (fits (drop at program) k n w q).size_is (end_within program short at k n w b q)

  after_inside : Inside after_last
  unfolding size_of
  after_inside = omega arith

  own_word : (i : ℕ) → token_in program (word_of (get_or ts i after_last)) ≡ get_or ts i after_last
  unfolding word_of size_of
  own_word i = ap (token_in program) (sym (get_or-map word_of ts i after_last)) ∙ word_decodes program ts short are i

  -- a string's text, behind its quote
  second : (p n : ℕ) → p < 65536 → (3 + 256 * p + 16777216 * n) / 256 % 65536 ≡ p
  second p n l = let q : (3 + 256 * p + 16777216 * n) / 256 ≡ p + 65536 * n = omega arith in rw q (omega arith)

  third : (p n : ℕ) → p < 65536 → n < 65536 → (3 + 256 * p + 16777216 * n) / 16777216 % 65536 ≡ n
  third p n l m = let q : (3 + 256 * p + 16777216 * n) / 16777216 ≡ n = omega arith in rw q (omega arith)

  text_told : (w p n : ℕ) → w ≡ 3 + 256 * p + 16777216 * (n + 2) → p < 65536 → n + 2 < 65536 → (token_in program w).text ≡ take n (drop (p + 1) program)
  unfolding token_in text_in
  text_told w p n e l m =
      let a : (3 + 256 * p + 16777216 * (n + 2)) % 256 ≡ 3 = omega arith in
      let d : n + 2 - 2 ≡ n = omega arith in
      rw (e, a, second p (n + 2) l, third p (n + 2) l m, d)

  quoted : (i : ℕ) → kind_at ts i ≡ a_string → take (length (text_at ts i)) (drop (start_at ts i + 1) program) ≡ text_at ts i
  unfolding word_of size_of
  quoted i e =
      let w : word_of (get_or ts i after_last) ≡ 3 + 256 * start_at ts i + 16777216 * (length (text_at ts i) + 2) = rw e in
      sym (text_told (word_of (get_or ts i after_last)) (start_at ts i) (length (text_at ts i)) w (omega (arith, sane.places i)) (omega (arith, sane.texts i)))
      ∙ ap (λ (t : Token). t.text) (own_word i)

  -- so the handle of a string is held and stands for it
  module _ (t : List ℕ) (o : Occurs ts a_string t) where
    abbrev h : ℕ
    h = home ts a_string t

    text_is : text_at ts h ≡ t
    text_is = (occurs_found ts a_string t (omega arith) o).text

    from_start : take (length t) (drop (start_at ts h + 1) program) ≡ t
    from_start = subst (λ (u : List ℕ). take (length u) (drop (start_at ts h + 1) program) ≡ u) text_is (quoted h (occurs_found ts a_string t (omega arith) o).kind)

    long : length t ≤ 32768
    long = subst (λ (u : List ℕ). length u ≤ 32768) text_is (sane.texts h)

    even : origin_in (2 * part_of ts t) ≡ 0
    even = omega arith

    start_is : start_in (2 * part_of ts t) ≡ start_at ts h + 1
    start_is = let q : 2 * part_of ts t / 2 ≡ start_at ts h + 1 + 65536 * length t = omega arith in rw q (omega (arith, sane.places h))

    size_is : size_in (2 * part_of ts t) ≡ length t
    size_is = let q : 2 * part_of ts t / 131072 ≡ length t = omega (arith, sane.places h) in rw q (omega (arith, long))

    within : start_at ts h + 1 + length t ≤ length program
    unfolding size_of
    within =
        let a = each_at Inside ts (each_token Inside program (λ at k n w b q. inside at k n w b q) ts are) after_inside h in
        let k : kind_at ts h ≡ a_string = (occurs_found ts a_string t (omega arith) o).kind in
        let b : start_at ts h + (length (text_at ts h) + 2) ≤ length program = rw k at a in
        let c = rw text_is at b in
        omega arith

    handle_held : (used : ℕ) → Held program used (2 * part_of ts t)
    handle_held used = record {
      small = omega (arith, sane.places h, long);
      inside = rw (even, start_is, size_is) within;
    }

    handle_text : (texts : List ℕ) → text_of program texts (2 * part_of ts t) ≡ t
    unfolding text_of part if◌then◌otherwise◌
    handle_text texts = rw (even, start_is, size_is) from_start

  pub strings_stand : Strings program ts
  strings_stand = record { held = λ t o used. handle_held t o used; text = λ t o texts. handle_text t o texts }
