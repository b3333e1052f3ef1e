-- What each way through a reading function answers is what reading yields. a, e and b are what was read, s₀ is the slice at the entry.
-- Assumes nothing.
use Prim.Native.Nat.{ℕ, zero, suc, ◌+◌, ◌-◌, ◌<◌, ◌≤◌}
use mathlib.Core.Path.{◌≡◌, ◌∙◌, refl, sym, ap}
use mathlib.Core.List.{List, [], ◌++◌, append-nil}
use native.Mathlib.Omega.{arith}
use borrow.Author.Tests.{ne_eqb}
use lib.ListN.{length, take}
use lib.Seq.{length-take-le, take-append-add, take-take}
use Rattle.std.specs.Prelude.{Result, Ok, Err}
use Rattle.meaning.specs.Basics.{if◌then◌otherwise◌}
use Rattle.meaning.specs.Token.{semicolon, open_paren, close_paren}
use Rattle.meaning.specs.Grammar.{Got, good, wrong, after, level, opening}
use Rattle.code.specs.Code.{headed}
use Rattle.expressions.specs.declared.Read.{Read}
use Rattle.expressions.specs.declared.Misfit.{Misfit}
use Rattle.expressions.specs.declared.Target.{Target}
use Rattle.expressions.specs.declared.Target.TheVariants.{Neither, Name, Entry}
use Rattle.expressions.specs.Words.{kind_at, place_at, home_at, is, Piece, piece, expect, expression, seen, written, written_code}
use Rattle.expressions.specs.Words as Expressions
use Rattle.expressions.specs.Room.{Room}
use Rattle.expressions.specs.Steps.{closed}
use Rattle.expressions.proofs.Tokens.{chosen, token_inside}
use Rattle.expressions.proofs.Paid.{Paid, expression_paid, inside_levels}
use Rattle.expressions.proofs.Answers.{says_code, refused, after_good, wrote, wrote_code, good_seen}
use Rattle.expressions.proofs.Rooms.{closed_word}
use Rattle.statements.specs.Words.{declaration, returning, without_last, assignment, simple, guarded, iteration, statements, statement_in, statement}
use Rattle.statements.specs.Room.{Space, Parts}
use Rattle.statements.specs.Steps.{inside_of, ended, test, topped}
use Rattle.statements.proofs.Paid.{statement_levels, ended_paid, test_paid, statements_paid}
use Rattle.statements.proofs.Written.{after_after, chosen_after, expects_after, nothing_seen, closed_reads, Laid, nothing_laid}

-- ---- room
pub space_room : (ws s : List ℕ) (i n : ℕ) → Space ws s i n → Room ws s i (n + 1)
space_room ws s i n o = record { behind = omega (arith, o.behind); wide = o.wide; short = omega (arith, o.few) }

pub space_inside : (ws s : List ℕ) (i n k : ℕ) → Space ws s i n → kind_at ws i ≡ k → (k ≡ 0 → ⊥) → i < length ws
space_inside ws s i n k o = token_inside ws i k

-- the word before code that was written from the word k on
pub parts_code : (g : Got (List ℕ)) (ws : List ℕ) (i n k tag x : ℕ) (s s₁ : List ℕ) (e : Read) → seen (Ok e) s₁ ≡ written_code g k s
    → ((c : List ℕ) (j : ℕ) → g ≡ good c j → Paid c ws i j)
    → n < k → k ≤ i → length ws ≤ 65536 → tag < 256 → x < 65536 → Parts e n tag x
parts_code g ws i n k tag x s s₁ e h pays l b f t u =
    let w = wrote_code g k s s₁ e h in
    let p = pays w.code e.token w.read in
    record { small_tag = t; small_number = u; parts = omega (arith, w.up_to, p.paid, p.within) }

-- the same where the code was written before
pub parts_closed : (ws : List ℕ) (k n tag x : ℕ) (a e : Read) → Ok e ≡ closed k ws a → n < a.word → a.word ≤ 65536 → tag < 256 → x < 65536 → Parts e n tag x
parts_closed ws k n tag x a e h l b f u = record { small_tag = f; small_number = u; parts = omega (arith, closed_word k ws a e h) }

-- ---- an expression and a semicolon, a test
pub ended_after : (left : ℕ) (ws : List ℕ) (i : ℕ) → ended (expression left ws) ws i ≡ after (expression left ws i) λ e j. expect semicolon ws j e.code
unfolding ended
ended_after left ws i = refl

module _ (left : ℕ) (ws : List ℕ) (i kind : ℕ) (k : kind ≡ kind_at ws i) where
  pub test_other : (n : ℕ) (s : List ℕ) → (kind ≡ 40 → ⊥) → seen (Err (record { number = 10; token = i })) s ≡ written_code (test (Expressions.inside_of left ws) ws i) n s
  unfolding test if◌then◌otherwise◌
  test_other n s h = refused (says_code n s) _ s (rw (← k, ne_eqb _ _ h))

  pub test_none : (n : ℕ) (s : List ℕ) → kind ≡ 40 → left ≡ 0 → seen (Err (record { number = 75; token = i })) s ≡ written_code (test (Expressions.inside_of left ws) ws i) n s
  unfolding test if◌then◌otherwise◌ opening Expressions.inside_of
  test_none n s o l = refused (says_code n s) _ s (rw (l, ← k, o))

  pub test_after : kind ≡ 40 → (left ≡ 0 → ⊥) → test (Expressions.inside_of left ws) ws i ≡ after (expression (left - 1) ws (i + 1)) λ e j. expect close_paren ws j e.code
  unfolding test if◌then◌otherwise◌ opening
  test_after o l = rw (inside_levels left ws l, ← k, o)

  pub test_reads : kind ≡ 40 → (left ≡ 0 → ⊥) → (n : ℕ) (s₀ s : List ℕ) (e : Read) (r : Result Read Misfit) → seen (Ok e) s ≡ written (expression (left - 1) ws (i + 1)) n s₀
      → r ≡ closed 41 ws e → seen r s ≡ written_code (test (Expressions.inside_of left ws) ws i) n s₀
  test_reads o l n s₀ s e r h q = rw (test_after o l) (closed_reads e r _ 41 n ws s₀ s h q)

-- ---- the word before an expression and a semicolon
-- the token of a kind behind a piece, and then the word
headed_after : {h : Got (List ℕ)} (g : Got Piece) (ws : List ℕ) (k tag p x : ℕ) (b : List ℕ) → h ≡ after g (λ e j. expect k ws j (headed tag p x (b ++ e.code)))
    → h ≡ after (after g λ e j. expect k ws j e.code) λ c j. good (headed tag p x (b ++ c)) j
headed_after g ws k tag p x b q = q ∙ sym (expects_after g k ws (λ c. headed tag p x (b ++ c)))

module _ (ws : List ℕ) (i kind : ℕ) (k : kind ≡ kind_at ws (i + 1)) where
  pub declaration_other : (n : ℕ) (s : List ℕ) → (kind ≡ 1 → ⊥) → seen (Err (record { number = 10; token = i + 1 })) s ≡ written_code (declaration ws i) n s
  unfolding declaration if◌then◌otherwise◌
  declaration_other n s h = refused (says_code n s) _ s (rw (← k, ne_eqb _ _ h))

  pub declaration_after : (x : ℕ) → kind ≡ 1 → x ≡ home_at ws (i + 1)
      → declaration ws i ≡ after (after (good (piece [] Neither) (i + 2)) λ e j. expect semicolon ws j e.code) λ c j. good (headed 32 (place_at ws i) x c) j
  unfolding declaration if◌then◌otherwise◌ after
  declaration_after x h u = rw (← k, h, ← u) (headed_after (good (piece [] Neither) (i + 2)) ws 59 32 (place_at ws i) x [] refl)

pub declaration_closes : (ws : List ℕ) (i n : ℕ) (s : List ℕ) (r : Result Read Misfit) → r ≡ closed 59 ws (record { token = i + 2; word = n + 1; target = Neither })
    → seen r s ≡ written_code (after (good (piece [] Neither) (i + 2)) λ e j. expect semicolon ws j e.code) (n + 1) s
declaration_closes ws i n s r c = closed_reads _ r _ 59 (n + 1) ws s s (nothing_seen (i + 2) (n + 1) s) c

pub returning_after : (left : ℕ) (ws : List ℕ) (i : ℕ)
    → returning (expression left ws) ws i ≡ after (ended (expression left ws) ws (i + 1)) λ c j. good (headed 37 (place_at ws i) 0 c) j
unfolding returning ended
returning_after left ws i = headed_after (expression left ws (i + 1)) ws 59 37 (place_at ws i) 0 [] refl

pub first_laid : (ws s : List ℕ) (i n : ℕ) → Space ws s i n → i < length ws → Laid s s n (n + 1) []
first_laid ws s i n o l = nothing_laid s n (omega (arith, o.behind, o.wide))

-- ---- an expression or an assignment
-- what stands behind the first q words of some code may be written over
front_part : (c s₀ s : List ℕ) (a m q k : ℕ) → a ≤ length s₀ → m ≡ a + length c → q ≤ length c → take m s ≡ take a s₀ ++ c → k ≡ a + q → take k s ≡ take a s₀ ++ take q c
front_part c s₀ s a m q k l u h f e =
    let z : length (take a s₀) ≡ a = length-take-le a s₀ l in
    let y : take (a + q) (take a s₀ ++ c) ≡ take a s₀ ++ take q c = rw z at (take-append-add (take a s₀) c q) in
    rw (e, ← take-take (a + q) m s (omega arith), f) y

-- behind a left side that ends at token j and word m
pub record Sided (ws : List ℕ) (i n j m : ℕ) : Type 0 where
  pub ahead : i < j
  pub within : j ≤ length ws
  pub some : n + 1 < m
  pub paid : m ≤ j

-- the right side has room behind the sign, from a word on that is not behind the left side's
pub sided_room : (ws s₀ s : List ℕ) (i n j m k : ℕ) → Space ws s₀ i n → Sided ws i n j m → length s ≡ length s₀ → k ≤ m → Room ws s (j + 1) k
sided_room ws s₀ s i n j m k o p l h = record { behind = omega (arith, p.paid); wide = omega (arith, o.wide); short = omega (arith, o.few) }

pub simple_after : (left : ℕ) (ws : List ℕ) (i : ℕ) → simple (expression left ws) ws i ≡ after (expression left ws i) λ a j.
    if is 61 ws j then (λ _. assignment (expression left ws) ws i a.target a.code j)
    otherwise λ _. expect semicolon ws j (headed 39 (place_at ws i) 0 a.code)
unfolding simple
simple_after left ws i = refl

module _ (left : ℕ) (ws : List ℕ) (i j : ℕ) (t : Target) where
  by_target : (kind : ℕ) → kind ≡ kind_at ws j → kind ≡ 61 → (p : Piece) → t ≡ p.target
      → (if is 61 ws j then (λ _. assignment (expression left ws) ws i p.target p.code j) otherwise λ _. expect semicolon ws j (headed 39 (place_at ws i) 0 p.code))
      ≡ assignment (expression left ws) ws i t p.code j
  unfolding if◌then◌otherwise◌
  by_target kind k z p q = rw (← k, z, q)

  by_name : (c : List ℕ) (x : ℕ) → t ≡ Name → x ≡ home_at ws i
      → assignment (expression left ws) ws i t c j ≡ after (ended (expression left ws) ws (j + 1)) λ b m. good (headed 33 (place_at ws i) x b) m
  unfolding assignment ended
  by_name c x f u = rw (f, ← u) (headed_after (expression left ws (j + 1)) ws 59 33 (place_at ws i) x [] refl)

  by_entry : (c : List ℕ) → t ≡ Entry
      → assignment (expression left ws) ws i t c j ≡ after (ended (expression left ws) ws (j + 1)) λ b m. good (headed 34 (place_at ws i) 0 (without_last c ++ b)) m
  unfolding assignment ended
  by_entry c f = rw f (headed_after (expression left ws (j + 1)) ws 59 34 (place_at ws i) 0 (without_last c) refl)

  by_neither : (c : List ℕ) → t ≡ Neither → assignment (expression left ws) ws i t c j ≡ wrong 10 j
  unfolding assignment
  by_neither c f = rw f

module _ (left : ℕ) (ws : List ℕ) (i n : ℕ) (s₀ s : List ℕ) (o : Space ws s₀ i n) (a : Read) (h : seen (Ok a) s ≡ written (expression left ws i) (n + 1) s₀) where
  pub sided : Sided ws i n a.token a.word
  sided =
      let w = wrote _ (n + 1) s₀ s a h in
      let p = expression_paid left ws i w.piece a.token w.read in
      record { ahead = p.ahead; within = p.within; some = omega (arith, w.up_to, p.some); paid = omega (arith, w.up_to, p.paid, o.behind) }

  -- the left side's piece
  abbrev pub side : Piece
  side = (wrote _ (n + 1) s₀ s a h).piece

  pub acts_laid : Laid s₀ s₀ n (n + 1) []
  acts_laid = let p = sided in nothing_laid s₀ n (omega (arith, o.behind, o.wide, p.ahead, p.within))

  -- a right side takes the place of a name's code
  pub assigns_laid : Laid s₀ s n (n + 1) []
  assigns_laid =
      let w = wrote _ (n + 1) s₀ s a h in
      let p = sided in
      record {
        place = omega (arith, o.behind, o.wide, p.ahead, p.within);
        up_to = omega arith;
        front = front_part w.piece.code s₀ s (n + 1) a.word 0 (n + 1) (omega (arith, o.behind, o.wide, p.ahead, p.within)) w.up_to (omega arith) w.front (omega arith);
      }

  -- or of an entry's last word
  pub updates_laid : Laid s₀ s n (a.word - 1) (without_last side.code)
  unfolding without_last
  updates_laid =
      let w = wrote _ (n + 1) s₀ s a h in
      let p = sided in
      let c : List ℕ = w.piece.code in
      let b : a.word - 1 ≡ n + 1 + (length c - 1) = omega (arith, w.up_to, p.some) in
      record {
        place = omega (arith, o.behind, o.wide, p.ahead, p.within);
        up_to = rw (length-take-le (length c - 1) c (omega arith)) b;
        front = front_part c s₀ s (n + 1) a.word (length c - 1) (a.word - 1) (omega (arith, o.behind, o.wide, p.ahead, p.within)) w.up_to (omega arith) w.front b;
      }

  pub acts_close : (r : Result Read Misfit) → r ≡ closed 59 ws a → seen r s ≡ written_code (after (good side a.token) λ e j. expect semicolon ws j e.code) (n + 1) s₀
  acts_close r c = closed_reads a r _ 59 (n + 1) ws s₀ s (good_seen _ (n + 1) s₀ a s (wrote _ (n + 1) s₀ s a h)) c

  module _ (kind : ℕ) (k : kind ≡ kind_at ws a.token) where
    pub acts_after : (kind ≡ 61 → ⊥)
        → simple (expression left ws) ws i ≡ after (after (good side a.token) λ e j. expect semicolon ws j e.code) λ c j. good (headed 39 (place_at ws i) 0 c) j
    unfolding simple after if◌then◌otherwise◌
    acts_after z =
        let w = wrote _ (n + 1) s₀ s a h in
        rw (w.read, ← k, ne_eqb _ _ z) (headed_after (good w.piece a.token) ws 59 39 (place_at ws i) 0 [] refl)

    module _ (z : kind ≡ 61) where
      is_assigned : simple (expression left ws) ws i ≡ assignment (expression left ws) ws i a.target side.code a.token
      is_assigned =
          let w = wrote _ (n + 1) s₀ s a h in
          simple_after left ws i ∙ after_good _ _ _ w.read _ ∙ by_target left ws i a.token a.target kind k z w.piece w.targeted

      pub assigns_after : (x : ℕ) → a.target ≡ Name → x ≡ home_at ws i
          → simple (expression left ws) ws i ≡ after (ended (expression left ws) ws (a.token + 1)) λ c j. good (headed 33 (place_at ws i) x c) j
      assigns_after x f u = is_assigned ∙ by_name left ws i a.token a.target side.code x f u

      pub updates_after : a.target ≡ Entry
          → simple (expression left ws) ws i ≡ after (ended (expression left ws) ws (a.token + 1)) λ c j. good (headed 34 (place_at ws i) 0 (without_last side.code ++ c)) j
      updates_after f = is_assigned ∙ by_entry left ws i a.token a.target side.code f

      pub simple_refuses : a.target ≡ Neither → seen (Err (record { number = 10; token = a.token })) s ≡ written_code (simple (expression left ws) ws i) n s₀
      simple_refuses f = refused (says_code n s₀) _ s (is_assigned ∙ by_neither left ws i a.token a.target side.code f)

-- ---- a body a level further in
pub inside_level : (left : ℕ) (ws : List ℕ) → (left ≡ 0 → ⊥)
    → inside_of left ws ≡ level (record { in_expression = expression (left - 1) ws; in_statement = statement (left - 1) ws })
unfolding inside_of
inside_level zero ws h = absurd (h refl)
inside_level (suc left) ws h = let q : suc left - 1 ≡ left = omega arith in rw q

-- a test, and a body a level further in
pub guarded_tests : (left : ℕ) (ws : List ℕ) (tag p i : ℕ)
    → guarded tag p (inside_of left ws) ws i ≡ after (test (Expressions.inside_of left ws) ws i) λ c m. after (statement (left - 1) ws m) λ s q. good (headed tag p (length c) (c ++ s)) q
unfolding guarded test inside_of Expressions.inside_of opening after
guarded_tests zero ws tag p i = sym (chosen_after (is open_paren ws i) (λ _. wrong 75 i) (λ _. wrong 10 i) _)
guarded_tests (suc left) ws tag p i =
    let q : suc left - 1 ≡ left = omega arith in
    rw q (sym (chosen_after (is open_paren ws i) (λ _. after (expression left ws (i + 1)) λ e j. expect close_paren ws j e.code) (λ _. wrong 10 i) _
    ∙ ap (λ g. if is open_paren ws i then (λ _. g) otherwise λ _. wrong 10 i) (after_after (expression left ws (i + 1)) _ _)))

-- behind what stands between a statement's first token, i, and its body, which begins at token j and word m
pub record Parted (ws s : List ℕ) (i n j m : ℕ) : Type 0 where
  pub space : Space ws s j m
  pub ahead : i < j
  pub within : j ≤ length ws
  pub some : n + 1 < m
  pub small : m - n - 1 < 65536

module _ (g : Got (List ℕ)) (ws : List ℕ) (i n : ℕ) (s₀ s : List ℕ) (o : Space ws s₀ i n) (e : Read) (h : seen (Ok e) s ≡ written_code g (n + 1) s₀)
    (pays : (c : List ℕ) (j : ℕ) → g ≡ good c j → Paid c ws (i + 1) j) where
  -- the code of what stands between
  abbrev pub between : List ℕ
  between = (wrote_code g (n + 1) s₀ s e h).code

  pub parted : length s ≡ length s₀ → Parted ws s i n e.token e.word
  parted l =
      let w = wrote_code g (n + 1) s₀ s e h in
      let p = pays w.code e.token w.read in
      record {
        space = record { behind = omega (arith, w.up_to, p.paid, o.behind); wide = omega (arith, o.wide); few = o.few };
        ahead = omega (arith, p.ahead);
        within = p.within;
        some = omega (arith, w.up_to, p.some);
        small = omega (arith, w.up_to, p.paid, p.within, o.few);
      }

  pub body_laid : Laid s₀ s n e.word between
  body_laid =
      let w = wrote_code g (n + 1) s₀ s e h in
      let p = pays w.code e.token w.read in
      record { place = omega (arith, o.behind, o.wide, p.ahead, p.within); up_to = w.up_to; front = w.front }

  pub body_after : {f : Got (List ℕ)} (tag p : ℕ) (body : ℕ → Got (List ℕ)) → f ≡ after g (λ c m. after (body m) λ b j. good (headed tag p (length c) (c ++ b)) j)
      → f ≡ after (body e.token) λ b j. good (headed tag p (e.word - n - 1) (between ++ b)) j
  body_after tag p body q =
      let w = wrote_code g (n + 1) s₀ s e h in
      let l : e.word - n - 1 ≡ length w.code = omega (arith, w.up_to) in
      q ∙ after_good g w.code e.token w.read _ ∙ rw l

test_opens : (left : ℕ) (ws : List ℕ) (i : ℕ) (c : List ℕ) (j : ℕ) → test (Expressions.inside_of left ws) ws i ≡ good c j → left ≡ 0 → ⊥
unfolding test opening Expressions.inside_of
test_opens zero ws i c j q z =
    chosen (λ g. g ≡ good c j → ⊥) (is open_paren ws i) _ _ (λ _ e. let y : ◌≡◌ {A = ℕ} 0 1 = cc in omega arith) (λ _ e. let y : ◌≡◌ {A = ℕ} 0 1 = cc in omega arith) q
test_opens (suc left) ws i c j q z = omega arith

pub tested_opens : (left : ℕ) (ws : List ℕ) (i n : ℕ) (s₀ s : List ℕ) (e : Read) → seen (Ok e) s ≡ written_code (test (Expressions.inside_of left ws) ws i) n s₀ → left ≡ 0 → ⊥
tested_opens left ws i n s₀ s e h = let w = wrote_code _ n s₀ s e h in test_opens left ws i w.code e.token w.read

-- ---- statements by their first token
module _ (left : ℕ) (ws : List ℕ) (i : ℕ) (k : kind_at ws i ≡ 123) where
  pub block_none : (n : ℕ) (s : List ℕ) → left ≡ 0 → seen (Err (record { number = 75; token = i })) s ≡ written_code (statement left ws i) n s
  unfolding statement_in inside_of opening if◌then◌otherwise◌
  block_none n s l = refused (says_code n s) _ s (rw (statement_levels left ws i, l, k))

  pub block_after : (left ≡ 0 → ⊥) → statement left ws i ≡ after (statements (statement (left - 1) ws) ws (i + 1)) λ c j. good (headed 38 (place_at ws i) 0 c) j
  unfolding statement_in opening if◌then◌otherwise◌
  block_after l = rw (statement_levels left ws i, inside_level left ws l, k)

  pub block_laid : (n : ℕ) (s : List ℕ) → Space ws s i n → Laid s s n (n + 1) []
  block_laid n s o = first_laid ws s i n o (token_inside ws i 123 k (λ z. omega arith))

pub block_parts : (left : ℕ) (ws : List ℕ) (i n : ℕ) (s₀ s : List ℕ) (b : Read) → Space ws s₀ i n
    → seen (Ok b) s ≡ written_code (statements (statement left ws) ws (i + 1)) (n + 1) s₀ → Parts b n 38 0
block_parts left ws i n s₀ s b o h =
    parts_code _ ws (i + 1) n (n + 1) 38 0 s₀ s b h (statements_paid left ws (i + 1)) (omega arith) (omega (arith, o.behind)) o.few (omega arith) (omega arith)

module _ (left : ℕ) (ws : List ℕ) (i n : ℕ) (s₀ s : List ℕ) (r : Result Read Misfit) (kind : ℕ) (k : kind ≡ kind_at ws i) where
  pub states_declaration : kind ≡ 5 → seen r s ≡ written_code (declaration ws i) n s₀ → seen r s ≡ written_code (statement left ws i) n s₀
  unfolding statement_in if◌then◌otherwise◌
  states_declaration e h = rw (statement_levels left ws i, ← k, e) h

  pub states_when : kind ≡ 6 → seen r s ≡ written_code (guarded 35 (place_at ws i) (inside_of left ws) ws (i + 1)) n s₀ → seen r s ≡ written_code (statement left ws i) n s₀
  unfolding statement_in if◌then◌otherwise◌
  states_when e h = rw (statement_levels left ws i, ← k, e) h

  pub states_while : kind ≡ 7 → seen r s ≡ written_code (guarded 36 (place_at ws i) (inside_of left ws) ws (i + 1)) n s₀ → seen r s ≡ written_code (statement left ws i) n s₀
  unfolding statement_in if◌then◌otherwise◌
  states_while e h = rw (statement_levels left ws i, ← k, e) h

  pub states_return : kind ≡ 8 → seen r s ≡ written_code (returning (expression left ws) ws i) n s₀ → seen r s ≡ written_code (statement left ws i) n s₀
  unfolding statement_in if◌then◌otherwise◌
  states_return e h = rw (statement_levels left ws i, ← k, e) h

  pub states_foreach : kind ≡ 12 → seen r s ≡ written_code (iteration (expression left ws) (inside_of left ws) ws i) n s₀ → seen r s ≡ written_code (statement left ws i) n s₀
  unfolding statement_in if◌then◌otherwise◌
  states_foreach e h = rw (statement_levels left ws i, ← k, e) h

  pub states_simple : (kind ≡ 5 → ⊥) → (kind ≡ 6 → ⊥) → (kind ≡ 7 → ⊥) → (kind ≡ 8 → ⊥) → (kind ≡ 12 → ⊥) → (kind ≡ 123 → ⊥)
      → seen r s ≡ written_code (simple (expression left ws) ws i) n s₀ → seen r s ≡ written_code (statement left ws i) n s₀
  unfolding statement_in if◌then◌otherwise◌
  states_simple h5 h6 h7 h8 h12 h123 h =
      rw (statement_levels left ws i, ← k, ne_eqb _ _ h5, ne_eqb _ _ h6, ne_eqb _ _ h7, ne_eqb _ _ h12, ne_eqb _ _ h8, ne_eqb _ _ h123) h
