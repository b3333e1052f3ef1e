-- Bytes without two of their parentheses have fewer tokens.
use Prim.Native.Nat.{ℕ, ◌<◌}
use native.Mathlib.Omega.{arith}
use mathlib.Core.Path.{◌≡◌, refl, ap, sym, ◌∙◌}
use mathlib.Core.List.{List, ◌∷◌, ◌++◌, append_assoc}
use mathlib.Core.Option.{some}
use lib.ListN.{length, get_or}
use Rattle.meaning.specs.Basics.{bytes}
use Rattle.meaning.specs.Byte.{is_space}
use Rattle.meaning.specs.Token.{Token, lexed, front, scan, tokens_of}
use Rattle.roundtrip.proofs.Scanning.{never_double}
use Rattle.roundtrip.proofs.LexesTree.{signs}
use Rattle.roundtrip.proofs.Weights.{sized, weighed, sized_sign}
use Rattle.roundtrip.proofs.Separating.{stop_open, stop_close, separated}
use Rattle.roundtrip.proofs.Joining.{together}

-- parentheses are tokens of one byte
open_one : (r : List ℕ) → sized (front (40 ∷ r)) ≡ some 1
unfolding signs
open_one r = sized_sign 40 r refl refl refl refl ∙ rw (never_double 40 (get_or r 0 0) refl refl)

close_one : (r : List ℕ) → sized (front (41 ∷ r)) ≡ some 1
unfolding signs
close_one r = sized_sign 41 r refl refl refl refl ∙ rw (never_double 41 (get_or r 0 0) refl refl)

-- the same bytes
regrouped : (a b c : List ℕ) → a ++ bytes "(" ++ b ++ bytes ")" ++ c ≡ a ++ 40 ∷ (b ++ 41 ∷ c)
regrouped a b c = append_assoc (a ++ bytes "(" ++ b) (bytes ")") c ∙ append_assoc (a ++ bytes "(") b (bytes ")" ++ c) ∙ append_assoc a (bytes "(") (b ++ 41 ∷ c)

-- BYTES WITHOUT TWO OF THEIR PARENTHESES HAVE FEWER TOKENS
pub fewer : (a b c : List ℕ) (ts us : List Token) → tokens_of (a ++ bytes "(" ++ b ++ bytes ")" ++ c) ≡ lexed ts → tokens_of (a ++ b ++ c) ≡ lexed us → length us < length ts
unfolding tokens_of is_space
fewer a b c ts us e k =
    let w = weighed (a ++ 40 ∷ (b ++ 41 ∷ c)) 0 0 ts (ap (scan 0 0) (sym (regrouped a b c)) ∙ e) in
    let v = weighed (a ++ (b ++ c)) 0 0 us (ap (scan 0 0) (sym (append_assoc a b c)) ∙ k) in
    let p = separated 40 (b ++ 41 ∷ c) stop_open refl (open_one (b ++ 41 ∷ c)) a 0 (omega arith) w.0 in
    let q = separated 41 c stop_close refl (close_one c) b 0 (omega arith) p.1 in
    omega (arith, w.1, v.1, p.2, q.2, together (b ++ c) a 0 (omega arith) p.0, together c b 0 (omega arith) q.0)
