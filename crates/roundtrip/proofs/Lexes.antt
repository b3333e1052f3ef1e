-- What it is that a text lexes to some words, and the rules by which it does.
use Prim.Native.Nat.{ℕ, suc, ◌+◌}
use native.Mathlib.Omega.{arith}
use mathlib.Core.Path.{◌≡◌, refl, ap, sym, ◌∙◌, subst}
use mathlib.Core.Bool.{Bool, true, false, ◌||◌}
use mathlib.Core.List.{List, [], ◌∷◌, ◌++◌, append_assoc, append-nil}
use lib.ListN.{length, get_or, length-append}
use Rattle.meaning.specs.Basics.{bytes, if◌then◌otherwise◌, stands_in}
use Rattle.meaning.specs.Byte.{is_space, is_letter, is_digit, is_name_part, is_quote, is_sign}
use Rattle.meaning.specs.Token.{Token, Lexed, a_string, digits, minus, word_kind, is_double, prepend, scan}
use Rattle.roundtrip.proofs.Words.{Word, plain, negative, sign, a_word}
use Rattle.roundtrip.proofs.Scanning.{AllPass, Lone, never_double, scan_name, scan_digits, scan_sign, scan_string}
use Rattle.roundtrip.proofs.Sound.{Spelled, Named}

-- tokens that have these kinds and texts
pub data Spell : List Word → List Token → Type 0 where
  none : Spell [] []
  one : {k : ℕ} {x : List ℕ} {ws : List Word} {ts : List Token} (p : ℕ) → Spell ws ts → Spell (plain k x ∷ ws) (record { kind = k; place = p; text = x } ∷ ts)
  signed : {x : List ℕ} {ws : List Word} {ts : List Token} (p : ℕ) → Spell ws ts →
      Spell (negative x ∷ ws) (record { kind = minus; place = p; text = 45 ∷ [] } ∷ record { kind = digits; place = p + 1; text = x } ∷ ts)

-- words behind words
pub spell_append : {ws vs : List Word} {ts us : List Token} → Spell ws ts → Spell vs us → Spell (ws ++ vs) (ts ++ us)
spell_append none k = k
spell_append (one p h) k = one p (spell_append h k)
spell_append (signed p h) k = signed p (spell_append h k)

-- tokens before other tokens
unfoldable pub prepend_all : List Token → Lexed → Lexed
prepend_all [] l = l
prepend_all (t ∷ ts) l = prepend t (prepend_all ts l)

-- tokens before tokens before others
prepend_all_append : (ts us : List Token) (l : Lexed) → prepend_all (ts ++ us) l ≡ prepend_all ts (prepend_all us l)
unfolding prepend_all
prepend_all_append [] us l = refl
prepend_all_append (t ∷ ts) us l = ap (prepend t) (prepend_all_append ts us l)

-- t, at a place and in front of r, is scanned as tokens that spell some words
pub record Lexing (ws : List Word) (p : ℕ) (t r : List ℕ) : Type 0 where
  pub tokens : List Token
  pub spells : Spell ws tokens
  pub scanned : scan 0 p (t ++ r) ≡ prepend_all tokens (scan 0 (p + length t) r)

pub record Lexes (ws : List Word) (t r : List ℕ) : Type 0 where
  pub at : (p : ℕ) → Lexing ws p t r

-- one text behind another
pub lexes_append : {ws vs : List Word} {t u r : List ℕ} → Lexes ws t (u ++ r) → Lexes vs u r → Lexes (ws ++ vs) (t ++ u) r
lexes_append {ws} {vs} {t} {u} {r} h k = record {
  at = λ p.
      let a = h.at p in
      let b = k.at (p + length t) in
      record {
        tokens = a.tokens ++ b.tokens;
        spells = spell_append a.spells b.spells;
        scanned =
            ap (scan 0 p) (append_assoc t u r) ∙ a.scanned ∙ ap (prepend_all a.tokens) b.scanned
            ∙ sym (prepend_all_append a.tokens b.tokens (scan 0 (p + length t + length u) r))
            ∙ ap (λ (n : ℕ). prepend_all (a.tokens ++ b.tokens) (scan 0 n r)) (omega (arith, length-append t u));
      };
}

-- nothing, and white space
pub lexes_nothing : {r : List ℕ} → Lexes [] [] r
unfolding prepend_all
lexes_nothing {r} = record { at = λ p. record { tokens = []; spells = none; scanned = ap (λ (n : ℕ). scan 0 n r) (omega arith) } }

pub lexes_space : (b : ℕ) (r : List ℕ) → is_space b ≡ true → Lexes [] (b ∷ []) r
unfolding prepend_all scan if◌then◌otherwise◌
lexes_space b r e = record { at = λ p. record { tokens = []; spells = none; scanned = rw e (ap (λ (n : ℕ). scan 0 n r) (omega arith)) } }

-- white space behind a text
pub lexes_then : {ws : List Word} {t u r : List ℕ} → Lexes ws t (u ++ r) → Lexes [] u r → Lexes ws (t ++ u) r
lexes_then {ws} {t} {u} {r} h k = subst (λ (vs : List Word). Lexes vs (t ++ u) r) (append-nil ws) (lexes_append h k)

-- ---- one token
-- a text that is scanned as one token
pub lexes_one : {k : ℕ} {x t r : List ℕ} → ((p : ℕ) → scan 0 p (t ++ r) ≡ prepend (record { kind = k; place = p; text = x }) (scan 0 (p + length t) r)) →
    Lexes (a_word k x) t r
unfolding prepend_all
lexes_one h = record { at = λ p. record { tokens = _ ∷ []; spells = one p none; scanned = h p } }

-- a word
pub lexes_word : (x r : List ℕ) → Spelled x → is_name_part (get_or r 0 0) ≡ false → Lexes (a_word (word_kind x) x) x r
unfolding is_letter
lexes_word [] r h k = let z : ◌≡◌ {A = Bool} false true = h.letter in let w : ◌≡◌ {A = ℕ} 0 1 = cc in absurd (omega arith)
lexes_word (b ∷ x) r h k = lexes_one λ p. scan_name b x r p h.letter h.parts k

-- a name
pub lexes_name : (x r : List ℕ) → Named x → is_name_part (get_or r 0 0) ≡ false → Lexes (a_word 1 x) x r
lexes_name x r h k = subst (λ (n : ℕ). Lexes (a_word n x) x r) h.kind (lexes_word x r h.spelled k)

-- what is no name part is no digit
part_digit : (b : ℕ) → is_name_part b ≡ false → is_digit b ≡ false
unfolding is_name_part
part_digit b e = by (is_letter b) (is_digit b) e
  where
    by : (s t : Bool) → s || t ≡ false → t ≡ false
    by true t e = cc
    by false t e = e

-- digits
pub lexes_digits : (ds r : List ℕ) → is_digit (get_or ds 0 0) ≡ true → AllPass is_digit ds → is_name_part (get_or r 0 0) ≡ false → Lexes (a_word digits ds) ds r
unfolding is_digit
lexes_digits [] r f h k = let z : ◌≡◌ {A = Bool} false true = f in let w : ◌≡◌ {A = ℕ} 0 1 = cc in absurd (omega arith)
lexes_digits (b ∷ x) r f h k = lexes_one λ p. scan_digits b x r p h (part_digit (get_or r 0 0) k)

-- a string
pub lexes_string : (x r : List ℕ) → Spelled x → Lexes (a_word a_string x) (34 ∷ (x ++ 34 ∷ [])) r
unfolding is_letter
lexes_string [] r h = let z : ◌≡◌ {A = Bool} false true = h.letter in let w : ◌≡◌ {A = ℕ} 0 1 = cc in absurd (omega arith)
lexes_string (b ∷ x) r h = lexes_one λ p. scan_string b x r p h.letter h.parts

-- a sign of one byte
pub lexes_sign : (b : ℕ) (r : List ℕ) → Lone b → is_double b (get_or r 0 0) ≡ false → Lexes (sign b) (b ∷ []) r
lexes_sign b r h d = lexes_one λ p. scan_sign b r p h d

-- a sign that begins no other
pub lexes_mark : (b : ℕ) (r : List ℕ) → Lone b → stands_in b (bytes "+><=") ≡ false → Lexes (sign b) (b ∷ []) r
lexes_mark b r h d = lexes_sign b r h (never_double b (get_or r 0 0) d h.bang)

-- ---- a minus and its digits
lone_minus : Lone 45
unfolding is_space is_letter is_digit is_quote is_sign stands_in
lone_minus = record { space = refl; letter = refl; digit = refl; quote = refl; sign = refl; bang = refl }

-- no sign of two bytes begins with a minus
minus_lone : (c : ℕ) → is_double 45 c ≡ false
unfolding stands_in
minus_lone c = never_double 45 c refl refl

-- a minus before digits
pub lexes_negative : (ds r : List ℕ) → is_digit (get_or ds 0 0) ≡ true → AllPass is_digit ds → is_name_part (get_or r 0 0) ≡ false → Lexes (negative ds ∷ []) (45 ∷ ds) r
unfolding prepend_all is_digit
lexes_negative [] r f h k = let z : ◌≡◌ {A = Bool} false true = f in let w : ◌≡◌ {A = ℕ} 0 1 = cc in absurd (omega arith)
lexes_negative (b ∷ x) r f h k = record {
  at = λ p. record {
    tokens = _;
    spells = signed p none;
    scanned =
        let e : p + 1 + suc (length x) ≡ p + suc (suc (length x)) = omega arith in
        scan_sign 45 (b ∷ x ++ r) p lone_minus (minus_lone b) ∙
        ap (prepend _) (scan_digits b x r (p + 1) h (part_digit (get_or r 0 0) k) ∙ ap (λ (n : ℕ). prepend (record { kind = digits; place = p + 1; text = b ∷ x }) (scan 0 n r)) e);
  };
}
