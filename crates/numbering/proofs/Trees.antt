-- The code of a tree, word by word: the slots that it declares, and what it is with numbers for its slots.
use Prim.Native.Nat.{ℕ, suc, ◌+◌, ◌*◌, ◌%◌, ◌<◌}
use native.Mathlib.Omega.{arith}
use mathlib.Core.Path.{◌≡◌, refl, sym, ap, ◌∙◌, subst}
use mathlib.Core.Bool.{false}
use mathlib.Core.List.{List, [], ◌∷◌, ◌++◌, append_assoc, map}
use lib.ListN.{length, length-append}
use lib.Dec.{eqb}
use borrow.Author.Tests.{ne_eqb}
use Rattle.meaning.specs.Basics.{if◌then◌otherwise◌}
use Rattle.meaning.specs.Token.{Token, a_name}
use Rattle.meaning.specs.Tree.{Operator, concatenate, add, subtract, multiply, divide, remainder, shift_right, shift_left, equal, unequal, greater, less}
use Rattle.meaning.specs.Tree.{Expression, number, string, nothing, truth, name, table, entry, operation, call, paren, Arguments, no_argument, argument}
use Rattle.meaning.specs.Tree.{Statement, declare, assign, update, when, while, foreach, return, block, act, Statements, only, first}
use Rattle.machine.specs.Opcodes.{word, tag_in, number_in, extra_in, tag_of}
use Rattle.code.specs.Code.{slot_of, joined, code_with, arguments_with, headed, statement_with, statements_with}
use Rattle.reader.specs.Declarations.{declared_in, declared_by}
use Rattle.reader.specs.Sane.{Sane}
use Rattle.reader.proofs.Homes.{Occurs}
use Rattle.reader.proofs.Known.{Placed, Known, KnownAll, KnownStatement, KnownStatements}
use Rattle.numbering.specs.Pass.{slot_follows, slots_in, declared_slots, renumbered_word, renumbered_words}

-- the words a become b, and declare some slots
pub record Goes (v : ℕ → ℕ) (a b slots : List ℕ) : Type 0 where
  pub long : length a ≡ length b
  pub declares : (rest : List ℕ) → declared_slots false (a ++ rest) ≡ slots ++ declared_slots false rest
  pub renumbers : (rest : List ℕ) → renumbered_words v false (a ++ rest) ≡ b ++ renumbered_words v false rest

-- a tag that has to do with no variable
record Plain (tag : ℕ) : Type 0 where
  small : tag < 256
  no_name : tag ≡ 5 → ⊥
  no_declare : tag ≡ 32 → ⊥
  no_assign : tag ≡ 33 → ⊥
  no_foreach : tag ≡ 40 → ⊥

plain_operator : (o : Operator) → Plain (tag_of o)
unfolding tag_of
plain_operator concatenate = omega arith
plain_operator add = omega arith
plain_operator subtract = omega arith
plain_operator multiply = omega arith
plain_operator divide = omega arith
plain_operator remainder = omega arith
plain_operator shift_right = omega arith
plain_operator shift_left = omega arith
plain_operator equal = omega arith
plain_operator unequal = omega arith
plain_operator greater = omega arith
plain_operator less = omega arith

tag_told : (tag size n : ℕ) → tag < 256 → tag_in (word tag size n) ≡ tag
unfolding word
tag_told tag size n l = omega arith

-- ---- what the words of variables hold
extra_told : (tag size p n : ℕ) → tag < 256 → size < 16777216 → p < 65536 → extra_in (word tag size (p + 65536 * n)) ≡ n
unfolding word
extra_told tag size p n l k m =
    let q : number_in (tag + 256 * size + 4294967296 * (p + 65536 * n)) ≡ p + 65536 * n = omega arith in
    rw q (omega arith)

name_made : (v : ℕ → ℕ) (n n' : ℕ) → v n ≡ n' → word 5 1 n % 4294967296 + 4294967296 * v (number_in (word 5 1 n)) ≡ word 5 1 n'
unfolding word
name_made v n n' e = let q : number_in (5 + 256 * 1 + 4294967296 * n) ≡ n = omega arith in rw (q, e) (omega arith)

low_made : (tag size p n n' : ℕ) → tag < 256 → size < 16777216 → p < 65536
    → word tag size (p + 65536 * n) % 281474976710656 + 281474976710656 * n' ≡ word tag size (p + 65536 * n')
unfolding word
low_made tag size p n n' l k m = omega arith

head_made : (v : ℕ → ℕ) (tag size p n n' : ℕ) → tag < 256 → size < 16777216 → p < 65536 → v n ≡ n'
    → word tag size (p + 65536 * n) % 281474976710656 + 281474976710656 * v (extra_in (word tag size (p + 65536 * n))) ≡ word tag size (p + 65536 * n')
head_made v tag size p n n' l k m e = rw (extra_told tag size p n l k m, e) (low_made tag size p n n' l k m)

map_append : {A : Type 0} (f : A → ℕ) (a b : List A) → map f (a ++ b) ≡ map f a ++ map f b
map_append f [] b = refl
map_append f (x ∷ a) b = ap (λ (l : List ℕ). f x ∷ l) (map_append f a b)

-- ---- words that go
module _ {v : ℕ → ℕ} where
  goes_none : Goes v [] [] []
  goes_none = record { long = refl; declares = λ rest. refl; renumbers = λ rest. refl }

  goes_append : {a b s c d t : List ℕ} → Goes v a b s → Goes v c d t → Goes v (a ++ c) (b ++ d) (s ++ t)
  goes_append {a} {b} {s} {c} {d} {t} g k = record {
    long = length-append a c ∙ rw (g.long, k.long) (sym (length-append b d));
    declares = λ rest. ap (declared_slots false) (append_assoc a c rest) ∙ g.declares (c ++ rest) ∙ ap (λ (l : List ℕ). s ++ l) (k.declares rest)
        ∙ sym (append_assoc s t (declared_slots false rest));
    renumbers = λ rest. ap (renumbered_words v false) (append_assoc a c rest) ∙ g.renumbers (c ++ rest) ∙ ap (λ (l : List ℕ). b ++ l) (k.renumbers rest)
        ∙ sym (append_assoc b d (renumbered_words v false rest));
  }

  -- a word that stays, whose size and number are told in two ways
  goes_plain : (tag s s' n n' : ℕ) → Plain tag → s ≡ s' → n ≡ n' → Goes v (word tag s n ∷ []) (word tag s' n' ∷ []) []
  unfolding declared_slots renumbered_words slots_in slot_follows renumbered_word if◌then◌otherwise◌
  goes_plain tag s s' n n' p e f =
      let t = tag_told tag s n p.small in
      let x : eqb (tag_in (word tag s n)) 5 ≡ false = rw t (ne_eqb tag 5 p.no_name) in
      let y : eqb (tag_in (word tag s n)) 32 ≡ false = rw t (ne_eqb tag 32 p.no_declare) in
      let z : eqb (tag_in (word tag s n)) 33 ≡ false = rw t (ne_eqb tag 33 p.no_assign) in
      let u : eqb (tag_in (word tag s n)) 40 ≡ false = rw t (ne_eqb tag 40 p.no_foreach) in
      record {
        long = refl;
        declares = λ rest. rw (y, u);
        renumbers = λ rest. rw (x, y, z, u) (rw (e, f));
      }

  goes_joined : (tag : ℕ) → Plain tag → {a b c d : List ℕ} → Goes v a b [] → Goes v c d [] → Goes v (joined tag a c) (joined tag b d) []
  goes_joined tag p g k = goes_append g (goes_append k (goes_plain tag _ _ _ _ p (rw (g.long, k.long)) k.long))

  -- a statement's word and its parts
  goes_headed : (tag p n n' : ℕ) → Plain tag → n ≡ n' → {a b s : List ℕ} → Goes v a b s → Goes v (headed tag p n a) (headed tag p n' b) s
  goes_headed tag p n n' q e g = goes_append (goes_plain tag _ _ _ _ q (rw g.long) (rw e)) g

  -- ---- words of variables
  goes_name : (n n' : ℕ) → v n ≡ n' → Goes v (word 5 1 n ∷ []) (word 5 1 n' ∷ []) []
  unfolding declared_slots renumbered_words slots_in slot_follows renumbered_word if◌then◌otherwise◌
  goes_name n n' e =
      let t = tag_told 5 1 n (omega arith) in
      record {
        long = refl;
        declares = λ rest. rw t;
        renumbers = λ rest. rw t (ap (λ (x : ℕ). x ∷ renumbered_words v false rest) (name_made v n n' e));
      }

  goes_declare : (p n n' : ℕ) → p < 65536 → v n ≡ n' → Goes v (headed 32 p n []) (headed 32 p n' []) (n ∷ [])
  unfolding declared_slots renumbered_words slots_in slot_follows renumbered_word if◌then◌otherwise◌
  goes_declare p n n' l e =
      let t = tag_told 32 1 (p + 65536 * n) (omega arith) in
      record {
        long = refl;
        declares = λ rest. rw t (ap (λ (x : ℕ). x ∷ declared_slots false rest) (extra_told 32 1 p n (omega arith) (omega arith) l));
        renumbers = λ rest. rw t (ap (λ (x : ℕ). x ∷ renumbered_words v false rest) (head_made v 32 1 p n n' (omega arith) (omega arith) l e));
      }

  goes_assigned : (size p n n' : ℕ) → size < 16777216 → p < 65536 → v n ≡ n' → Goes v (word 33 size (p + 65536 * n) ∷ []) (word 33 size (p + 65536 * n') ∷ []) []
  unfolding declared_slots renumbered_words slots_in slot_follows renumbered_word if◌then◌otherwise◌
  goes_assigned size p n n' k l e =
      let t = tag_told 33 size (p + 65536 * n) (omega arith) in
      record {
        long = refl;
        declares = λ rest. rw t;
        renumbers = λ rest. rw t (ap (λ (x : ℕ). x ∷ renumbered_words v false rest) (head_made v 33 size p n n' (omega arith) k l e));
      }

  goes_assign : (p n n' : ℕ) → p < 65536 → v n ≡ n' → {a b s : List ℕ} → Goes v a b s → length a + 1 < 16777216 → Goes v (headed 33 p n a) (headed 33 p n' b) s
  goes_assign p n n' l e {a} {b} {s} g k =
      subst (λ (size : ℕ). Goes v (headed 33 p n a) (word 33 size (p + 65536 * n') ∷ b) s) (ap (λ (i : ℕ). i + 1) g.long)
      (goes_append (goes_assigned (length a + 1) p n n' k l e) g)

  -- a foreach's word, and the slot behind it
  goes_each : (s s' n n' x x' : ℕ) → s ≡ s' → n ≡ n' → v x ≡ x' → Goes v (word 40 s n ∷ x ∷ []) (word 40 s' n' ∷ x' ∷ []) (x ∷ [])
  unfolding declared_slots renumbered_words slots_in slot_follows renumbered_word if◌then◌otherwise◌
  goes_each s s' n n' x x' e f g =
      let t = tag_told 40 s n (omega arith) in
      record {
        long = refl;
        declares = λ rest. rw t;
        renumbers = λ rest. rw (t, e, f, g);
      }

  goes_foreach : (p n n' x x' : ℕ) → n ≡ n' → v x ≡ x' → {a b s : List ℕ} → Goes v a b s → Goes v (headed 40 p n (x ∷ a)) (headed 40 p n' (x' ∷ b)) (x ∷ s)
  goes_foreach p n n' x x' e f {a} {b} g =
      goes_append (goes_each (length (x ∷ a) + 1) (length (x' ∷ b) + 1) (p + 65536 * n) (p + 65536 * n') x x' (ap (λ (i : ℕ). suc i + 1) g.long) (rw e) f) g

-- ---- trees; slots have the numbers that w gives to names
module _ (ts : List Token) (sane : Sane ts) (v : ℕ → ℕ) (w : List ℕ → ℕ) (numbers : (x : List ℕ) → Occurs ts a_name x → v (slot_of ts x) ≡ w x) where
  mutual
    unfolding code_with arguments_with Known KnownAll

    expression_goes : (e : Expression) → Known e ts → Goes v (code_with (slot_of ts) e ts) (code_with w e ts) []
    expression_goes (number z) k = goes_plain 1 1 1 _ _ (omega arith) refl refl
    expression_goes (string t) k = goes_plain 2 1 1 _ _ (omega arith) refl refl
    expression_goes nothing k = goes_plain 3 1 1 0 0 (omega arith) refl refl
    expression_goes (truth b) k = goes_plain 4 1 1 _ _ (omega arith) refl refl
    expression_goes (name x) k = goes_name _ _ (numbers x k)
    expression_goes (table e) k =
        let g = expression_goes e k in
        goes_append g (goes_plain 6 _ _ 0 0 (omega arith) (rw g.long) refl)
    expression_goes (entry a b) k = goes_joined 7 (omega arith) (expression_goes a k.0) (expression_goes b k.1)
    expression_goes (operation o a b) k = goes_joined (tag_of o) (plain_operator o) (expression_goes a k.0) (expression_goes b k.1)
    expression_goes (call f es) k =
        let g = arguments_go es k.1 in
        goes_append g (goes_plain 8 _ _ _ _ (omega arith) (rw g.long) refl)
    expression_goes (paren e) k = expression_goes e k

    arguments_go : (es : Arguments) → KnownAll es ts → Goes v (arguments_with (slot_of ts) es ts) (arguments_with w es ts) []
    arguments_go no_argument k = goes_none
    arguments_go (argument e es) k =
        let g = expression_goes e k.0 in
        goes_append (goes_plain 9 _ _ 0 0 (omega arith) g.long refl) (goes_append g (arguments_go es k.1))

  early : (p : ℕ) → Placed ts p → p < 65536
  early p q = omega (arith, sane.places q.index, q.begins)

  back_small : (a b : List ℕ) → length (a ++ b) < 16777216 → length b < 16777216
  back_small a b l = omega (arith, length-append a b)

  front_small : (a b : List ℕ) → length (a ++ b) < 16777216 → length a < 16777216
  front_small a b l = omega (arith, length-append a b)

  mutual
    unfolding statement_with statements_with KnownStatement KnownStatements declared_in declared_by

    statement_goes : (s : Statement) → KnownStatement s ts → length (statement_with (slot_of ts) s ts) < 16777216
        → Goes v (statement_with (slot_of ts) s ts) (statement_with w s ts) (map (slot_of ts) (declared_in s))
    statement_goes (declare p x) k l = goes_declare p _ _ (early p k.0) (numbers x k.1)
    statement_goes (assign p x e) k l = goes_assign p _ _ (early p k.0) (numbers x k.1) (expression_goes e k.2) (omega arith)
    statement_goes (update p a b e) k l =
        goes_headed 34 p 0 0 (omega arith) refl (goes_append (expression_goes a k.1) (goes_append (expression_goes b k.2) (expression_goes e k.3)))
    statement_goes (when p e s) k l =
        let g = expression_goes e k.1 in
        goes_headed 35 p _ _ (omega arith) g.long (goes_append g (statement_goes s k.2 (back_small (code_with (slot_of ts) e ts) (statement_with (slot_of ts) s ts) (omega arith))))
    statement_goes (while p e s) k l =
        let g = expression_goes e k.1 in
        goes_headed 36 p _ _ (omega arith) g.long (goes_append g (statement_goes s k.2 (back_small (code_with (slot_of ts) e ts) (statement_with (slot_of ts) s ts) (omega arith))))
    statement_goes (foreach p x e s) k l =
        let g = expression_goes e k.2 in
        goes_foreach p _ _ _ _ (rw g.long) (numbers x k.1) (goes_append g (statement_goes s k.3 (back_small (code_with (slot_of ts) e ts) (statement_with (slot_of ts) s ts) (omega arith))))
    statement_goes (return p e) k l = goes_headed 37 p 0 0 (omega arith) refl (expression_goes e k.1)
    statement_goes (block p ss) k l = goes_headed 38 p 0 0 (omega arith) refl (statements_go ss k.1 (omega arith))
    statement_goes (act p e) k l = goes_headed 39 p 0 0 (omega arith) refl (expression_goes e k.1)

    pub statements_go : (ss : Statements) → KnownStatements ss ts → length (statements_with (slot_of ts) ss ts) < 16777216
        → Goes v (statements_with (slot_of ts) ss ts) (statements_with w ss ts) (map (slot_of ts) (declared_by ss))
    statements_go (only s) k l = statement_goes s k l
    statements_go (first s ss) k l =
        rw (map_append (slot_of ts) (declared_in s) (declared_by ss))
        (goes_append (statement_goes s k.0 (front_small (statement_with (slot_of ts) s ts) (statements_with (slot_of ts) ss ts) l))
        (statements_go ss k.1 (back_small (statement_with (slot_of ts) s ts) (statements_with (slot_of ts) ss ts) l)))
