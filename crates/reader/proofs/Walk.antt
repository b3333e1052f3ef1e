-- Where the parts of code stand, for who goes through it: an expression is known by its last word, a statement by its first.
use Prim.Native.Nat.{ℕ, ◌+◌, ◌-◌, ◌≤◌, ◌<◌}
use native.Mathlib.Nat.{add-zero}
use native.Mathlib.Omega.{arith}
use mathlib.Core.Path.{◌≡◌, sym, ap, ◌∙◌, subst}
use mathlib.Core.List.{List, [], ◌∷◌, ◌++◌, append-nil, append_assoc}
use lib.ListN.{length, get_or, take, drop, take-append-drop, length-append, length-drop}
use lib.Seq.{drop-drop, drop-append_seam, get_or-drop}
use Rattle.machine.specs.Opcodes.{word, tag_argument}
use Rattle.code.specs.Code.{joined}

-- ---- from a word on
-- c stands in the code from word `at` on
pub record Stands (code : List ℕ) (at : ℕ) (c : List ℕ) : Type 0 where
  pub behind : List ℕ
  pub here : drop at code ≡ c ++ behind

pub stands_whole : (c : List ℕ) → Stands c 0 c
stands_whole c = record { behind = []; here = sym (append-nil c) }

-- what was left in the front of a slice, and behind so many words
pub stands_taken : (n : ℕ) (code c : List ℕ) → take n code ≡ c → Stands code 0 c
stands_taken n code c e = record { behind = drop n code; here = sym (take-append-drop n code) ∙ ap (λ (l : List ℕ). l ++ drop n code) e }

pub stands_behind : (at n : ℕ) (code c : List ℕ) → take n (drop at code) ≡ c → Stands code at c
stands_behind at n code c e = record { behind = drop n (drop at code); here = sym (take-append-drop n (drop at code)) ∙ ap (λ (l : List ℕ). l ++ drop n (drop at code)) e }

module _ {code : List ℕ} {at : ℕ} where
  pub stands_front : (a b : List ℕ) → Stands code at (a ++ b) → Stands code at a
  stands_front a b s = record { behind = b ++ s.behind; here = s.here ∙ append_assoc a b s.behind }

  pub stands_back : (a b : List ℕ) → Stands code at (a ++ b) → Stands code (at + length a) b
  stands_back a b s =
      record {
        behind = s.behind;
        here =
            sym (drop-drop (length a) at code)
            ∙ ap (drop (length a)) (s.here ∙ append_assoc a b s.behind)
            ∙ drop-append_seam a (b ++ s.behind);
      }

  pub stands_first : {w : ℕ} {c : List ℕ} → Stands code at (w ∷ c) → get_or code at 0 ≡ w
  stands_first s = ap (λ i. get_or code i 0) (sym (add-zero at)) ∙ sym (get_or-drop at code 0 0) ∙ ap (λ (l : List ℕ). get_or l 0 0) s.here

  pub stands_rest : {w : ℕ} {c : List ℕ} → Stands code at (w ∷ c) → Stands code (at + 1) c
  stands_rest {w} {c} s = stands_back (w ∷ []) c s

  pub stands_within : (c : List ℕ) → 0 < length c → Stands code at c → at + length c ≤ length code
  stands_within c h s = omega (arith, sym (length-drop at code) ∙ ap length s.here ∙ length-append c s.behind)

-- ---- up to a word
-- the last word of c stands at x
pub record Ends (code : List ℕ) (x : ℕ) (c : List ℕ) : Type 0 where
  pub start : ℕ
  pub stands : Stands code start c
  pub last : start + length c ≡ x + 1

-- two parts, with a word behind them
pub record Joint (code : List ℕ) (x tag : ℕ) (a b : List ℕ) : Type 0 where
  pub root : get_or code x 0 ≡ word tag (length a + length b + 1) (length b)
  pub left : Ends code (x - 1 - length b) a
  pub right : Ends code (x - 1) b

pub stands_ends : {code c : List ℕ} {at : ℕ} → 0 < length c → Stands code at c → Ends code (at + length c - 1) c
stands_ends {at = at} h s = record { start = at; stands = s; last = omega arith }

module _ {code : List ℕ} {x : ℕ} where
  pub ends_word : (c : List ℕ) (w : ℕ) → Ends code x (c ++ (w ∷ [])) → get_or code x 0 ≡ w
  ends_word c w e =
      let there : e.start + length c ≡ x = omega (arith, length-append c (w ∷ [])) in
      subst (λ i. get_or code i 0 ≡ w) there (stands_first (stands_back c (w ∷ []) e.stands))

  -- what stands before the last word
  pub ends_front : (c : List ℕ) (w : ℕ) → Ends code x (c ++ (w ∷ [])) → 0 < length c → Ends code (x - 1) c
  ends_front c w e h =
      record { start = e.start; stands = stands_front c (w ∷ []) e.stands; last = omega (arith, length-append c (w ∷ [])) }

  pub ends_start : (c : List ℕ) (w : ℕ) → Ends code x (c ++ (w ∷ [])) → Stands code (x + 1 - (length c + 1)) c
  ends_start c w e =
      let there : e.start ≡ x + 1 - (length c + 1) = omega (arith, length-append c (w ∷ [])) in
      subst (λ i. Stands code i c) there (stands_front c (w ∷ []) e.stands)

  pub ends_joined : (tag : ℕ) (a b : List ℕ) → 0 < length a → 0 < length b → Ends code x (joined tag a b) → Joint code x tag a b
  ends_joined tag a b p q e =
      let w = word tag (length a + length b + 1) (length b) in
      let back = stands_back a (b ++ (w ∷ [])) e.stands in
      let all : e.start + length a + length b ≡ x = omega (arith, length-append a (b ++ (w ∷ [])), length-append b (w ∷ [])) in
      record {
        root = subst (λ i. get_or code i 0 ≡ w) all (stands_first (stands_back b (w ∷ []) back));
        left = record { start = e.start; stands = stands_front a (b ++ (w ∷ [])) e.stands; last = omega arith };
        right = record { start = e.start + length a; stands = stands_front b (w ∷ []) back; last = omega arith };
      }

-- ---- arguments
-- an argument with the word before it, and those that follow
pub record Argument (code : List ℕ) (at : ℕ) (c cs : List ℕ) : Type 0 where
  pub before : get_or code at 0 ≡ word tag_argument (length c) 0
  pub one : Ends code (at + length c) c
  pub more : Stands code (at + length c + 1) cs

pub stands_argument : {code : List ℕ} {at : ℕ} (c cs : List ℕ) → Stands code at (word tag_argument (length c) 0 ∷ (c ++ cs)) → Argument code at c cs
stands_argument {code} {at} c cs s =
    let rest = stands_rest s in
    let there : at + 1 + length c ≡ at + length c + 1 = omega arith in
    record {
      before = stands_first s;
      one = record { start = at + 1; stands = stands_front c cs rest; last = there };
      more = subst (λ i. Stands code i cs) there (stands_back c cs rest);
    }
