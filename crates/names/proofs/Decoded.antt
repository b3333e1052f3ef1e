-- What a prepared word says of its token.
-- Assumes nothing.
use Prim.Native.Nat.{ℕ, ◌+◌, ◌-◌, ◌*◌, ◌/◌, ◌%◌, ◌≤◌, ◌<◌, min}
use mathlib.Core.Path.{◌≡◌}
use mathlib.Core.Bool.{Bool, true, false, cond}
use mathlib.Core.List.{List, map}
use native.Mathlib.Omega.{arith}
use lib.Dec.{eqb}
use lib.ListN.{length, get_or, take, drop, length-take, length-map, get_or-eq_default}
use Rattle.meaning.specs.Token.{Token, a_name, a_string, digits}
use Rattle.meaning.specs.Grammar.{after_last, numeral}
use Rattle.tokens.specs.Words.{size_of, text_in, token_in, kind_in, place_in, size_in}
use Rattle.names.specs.Prepared.{home, procedure_number, payload, prepared, prepared_all}
use Rattle.names.proofs.Entries.{get_d_map}

-- a token whose parts fit the word
pub record Held (t : Token) : Type 0 where
  pub kind : t.kind < 256
  pub place : t.place < 65536
  pub size : size_of t < 65536

pub held : (p : List ℕ) (w : ℕ) → Held (token_in p w)
unfolding token_in size_of text_in
held p w = record { kind = omega arith; place = omega arith; size = go (eqb (kind_in w) a_string) }
  where
    go : (b : Bool) → length (cond b (take (size_in w - 2) (drop (place_in w + 1) p)) (take (size_in w) (drop (place_in w) p))) + cond b 2 0 < 65536
    go true = omega (arith, length-take (size_in w - 2) (drop (place_in w + 1) p))
    go false = omega (arith, length-take (size_in w) (drop (place_in w) p))

-- the words of a program's tokens, at an index and behind the last
module _ (p ws : List ℕ) (i : ℕ) where
  abbrev tokens : List Token
  tokens = map (token_in p) ws

  pub prepared_at : i < length ws → get_or (prepared_all p ws) i 0 ≡ prepared tokens (get_or tokens i after_last)
  unfolding prepared_all
  prepared_at h = get_d_map (prepared tokens) tokens i after_last 0 (rw (length-map ws (token_in p)) h)

  pub prepared_behind : length ws ≤ i → get_or (prepared_all p ws) i 0 ≡ 0
  unfolding prepared_all
  prepared_behind h = get_or-eq_default (map (prepared tokens) tokens) 0 (rw (length-map tokens (prepared tokens), length-map ws (token_in p)) h)

module _ (ts : List Token) (t : Token) (h : Held t) where
  pub kind_told : prepared ts t % 256 ≡ t.kind
  unfolding prepared
  kind_told = omega (arith, h.kind)

  pub place_told : prepared ts t / 256 % 65536 ≡ t.place
  unfolding prepared
  place_told =
      let q : (t.kind + 256 * t.place + 16777216 * payload ts t) / 256 ≡ t.place + 65536 * payload ts t = omega (arith, h.kind) in
      rw q (omega (arith, h.place))

  pub payload_told : prepared ts t / 16777216 ≡ payload ts t
  unfolding prepared
  payload_told = omega (arith, h.kind, h.place)

  pub value_told : t.kind ≡ digits → payload ts t ≡ min (numeral t.text) 4294967295
  unfolding payload
  value_told e = rw e

  -- a name or a string
  module _ (few : home ts t.kind t.text < 65536) where
    name_is : t.kind ≡ a_name → payload ts t ≡ size_of t + 65536 * home ts t.kind t.text + 4294967296 * procedure_number t.text
    unfolding payload
    name_is e = rw e

    string_is : t.kind ≡ a_string → payload ts t ≡ size_of t + 65536 * home ts t.kind t.text
    unfolding payload
    string_is e = rw e

    pub name_size : t.kind ≡ a_name → payload ts t % 65536 ≡ size_of t
    name_size e = rw (name_is e) (omega (arith, h.size))

    pub name_home : t.kind ≡ a_name → payload ts t / 65536 % 65536 ≡ home ts t.kind t.text
    name_home e =
        let s : ℕ = size_of t in
        let m : ℕ = home ts t.kind t.text in
        let n : ℕ = procedure_number t.text in
        let q : (s + 65536 * m + 4294967296 * n) / 65536 ≡ m + 65536 * n = omega (arith, h.size) in
        rw (name_is e, q) (omega arith)

    pub name_procedure : t.kind ≡ a_name → payload ts t / 4294967296 ≡ procedure_number t.text
    name_procedure e = rw (name_is e) (omega (arith, h.size))

    pub string_size : t.kind ≡ a_string → payload ts t % 65536 ≡ size_of t
    string_size e = rw (string_is e) (omega (arith, h.size))

    pub string_home : t.kind ≡ a_string → payload ts t / 65536 % 65536 ≡ home ts t.kind t.text
    string_home e =
        let q : (size_of t + 65536 * home ts t.kind t.text) / 65536 ≡ home ts t.kind t.text = omega (arith, h.size) in
        rw (string_is e, q) (omega arith)
