-- The index of names and strings, by which each token's home is found, and the word of a token whose home is known.
use Rattle.std.specs.Prelude.{ℕ, zero, suc, ◌+◌, ◌-◌, ◌*◌, ◌/◌, ◌%◌, ◌≤◌, ◌<◌, min, ◌≡◌, Bool, true, ◌&&◌, ◌||◌, cond, List, [], ◌∷◌, map, length, get_or, set, eqb}
use Rattle.std.specs.declared.option.Option.{Option}
use Rattle.std.specs.declared.option.Option.TheVariants.{Some, None}
use Rattle.meaning.specs.Basics.{same_text}
use Rattle.meaning.specs.Token.{Token, a_name, a_string, digits}
use Rattle.meaning.specs.Grammar.{numeral}
use Rattle.tokens.specs.Words.{token_in, kind_in}
use Rattle.names.specs.Prepared.{home, procedure_number}

-- what `prepare` needs
pub record Room (words index : List ℕ) : Type 0 where
  pub few : length words ≤ 8192
  pub room : 16384 ≤ length index

-- ---- a token whose home is known
unfoldable pub payload_with : ℕ → List ℕ → ℕ → ℕ
payload_with k x h =
    cond (eqb k digits) (min (numeral x) 4294967295)
    (cond (eqb k a_name) (length x + 65536 * h + 4294967296 * procedure_number x)
    (cond (eqb k a_string) (length x + 2 + 65536 * h)
    (length x)))

unfoldable pub word_with : Token → ℕ → ℕ
word_with t h = t.kind + 256 * t.place + 16777216 * payload_with t.kind t.text h

-- ---- hashing
abbrev pub mixed : ℕ → ℕ → ℕ
mixed h b = (h + b) * 2654435761 % 4294967296

unfoldable pub hash_from : ℕ → List ℕ → ℕ
hash_from h [] = h
hash_from h (b ∷ x) = hash_from (mixed h b) x

-- the bucket of a kind and a text, one of 8192
unfoldable pub bucket_of : ℕ → List ℕ → ℕ
bucket_of k x = hash_from k x / 524288

-- ---- entries
-- whether a kind is that of names or of strings
unfoldable pub named : ℕ → Bool
named k = eqb k a_name || eqb k a_string

-- whether the token of a word is of a kind and a text
unfoldable pub spelled : List ℕ → ℕ → ℕ → List ℕ → Bool
spelled p w k x = eqb (kind_in w) k && same_text (token_in p w).text x

-- a program p and its token words ws: the home of token i
unfoldable pub home_of : List ℕ → List ℕ → ℕ → ℕ
home_of p ws i = home (map (token_in p) ws) (kind_in (get_or ws i 0)) (token_in p (get_or ws i 0)).text

unfoldable pub bucket_at : List ℕ → List ℕ → ℕ → ℕ
bucket_at p ws i = bucket_of (kind_in (get_or ws i 0)) (token_in p (get_or ws i 0)).text

-- token i is an entry if it is a name or a string, and its own home
unfoldable pub is_entry : List ℕ → List ℕ → ℕ → Bool
is_entry p ws i = named (kind_in (get_or ws i 0)) && eqb (home_of p ws i) i

-- whether it is an entry in a bucket
unfoldable pub lies : List ℕ → List ℕ → ℕ → ℕ → Bool
lies p ws b i = is_entry p ws i && eqb (bucket_at p ws i) b

-- whether it is an entry of a kind and a text
unfoldable pub meets : List ℕ → List ℕ → ℕ → List ℕ → ℕ → Bool
meets p ws k x i = is_entry p ws i && spelled p (get_or ws i 0) k x

-- the place behind the last index below n that meets a test; 0 if none does
unfoldable pub last : (ℕ → Bool) → ℕ → ℕ
last f zero = 0
last f (suc i) = cond (f i) (suc i) (last f i)

-- the place behind the entry of a kind and a text among the first n tokens
unfoldable pub found : List ℕ → List ℕ → ℕ → ℕ → List ℕ → ℕ
found p ws n k x = last (meets p ws k x) n

-- the place behind an index; 0 if there is none
abbrev pub behind : Option ℕ → ℕ
behind None = 0
behind (Some i) = suc i

-- ---- the index of the first n tokens
unfoldable pub link_at : List ℕ → ℕ → ℕ
link_at ix i = get_or ix (8192 + i) 0 % 65536

unfoldable pub home_at : List ℕ → ℕ → ℕ
home_at ix i = get_or ix (8192 + i) 0 / 65536 % 65536

-- A bucket begins at its newest entry, an entry's link is the next older one of its bucket, and each name or string has its home.
pub record Indexed (p ws ix : List ℕ) (n : ℕ) : Type 0 where
  pub few : length ws ≤ 8192
  pub room : 16384 ≤ length ix
  pub within : n ≤ length ws
  pub heads : (b : ℕ) → b < 8192 → get_or ix b 0 ≡ last (lies p ws b) n
  pub links : (i : ℕ) → i < n → is_entry p ws i ≡ true → link_at ix i ≡ last (lies p ws (bucket_at p ws i)) i
  pub homes : (i : ℕ) → i < n → named (kind_in (get_or ws i 0)) ≡ true → home_at ix i ≡ home_of p ws i

-- what a look-up needs
pub record Looks (p ws ix : List ℕ) (n k : ℕ) (x : List ℕ) (b : ℕ) : Type 0 where
  pub index : Indexed p ws ix n
  pub bucket : b ≡ bucket_of k x
  pub slot : b < 8192

-- what one more token needs
pub record Files (p ws ix : List ℕ) (i : ℕ) : Type 0 where
  pub index : Indexed p ws ix i
  pub here : i < length ws

-- token i with the bucket b: its home is the entry before place j; where j is 0, the token is entered
unfoldable pub noted : List ℕ → ℕ → ℕ → ℕ → List ℕ
noted ix i b j =
    cond (eqb j 0) (set (set ix (8192 + i) (get_or ix b 0 + 65536 * i)) b (i + 1))
    (set ix (8192 + i) (65536 * (j - 1)))

pub record Notes (ix : List ℕ) (i b j : ℕ) : Type 0 where
  pub room : 16384 ≤ length ix
  pub token : i < 8192
  pub slot : b < 8192
  pub place : j ≤ 8192
  pub newest : get_or ix b 0 < 65536
