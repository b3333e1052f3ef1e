-- What is written from the code of a statement is its text.
use Prim.Native.Nat.{ℕ, zero, suc, ◌+◌, ◌-◌, ◌*◌, ◌/◌, ◌≤◌, ◌<◌}
use native.Mathlib.Omega.{arith}
use mathlib.Core.Path.{◌≡◌, refl, ap, sym, ◌∙◌, subst}
use mathlib.Core.List.{List, [], ◌∷◌, ◌++◌, append-nil, append_assoc}
use lib.ListN.{length, get_or, length-append}
use borrow.Author.Tests.{lt-ltb, le-ltb}
use Rattle.meaning.specs.Basics.{bytes, if◌then◌otherwise◌}
use Rattle.meaning.specs.Token.{Token, a_name}
use Rattle.meaning.specs.Tree.{Expression, Statement, declare, assign, update, when, while, foreach, return, block, act, Statements, only, first}
use Rattle.canonical.specs.Text.{expression_text, statement_text, statements_text}
use Rattle.machine.specs.Opcodes.{word, tag_in, size_in, extra_in, size_at, tag_declare, tag_assign, tag_update, tag_when, tag_while, tag_foreach, tag_return, tag_block, tag_act}
use Rattle.code.specs.Code.{slot_of, headed, code_of, code_of_statement, code_of_statements, statement_with, statements_with}
use Rattle.reader.specs.Sane.{Sane}
use Rattle.reader.proofs.Homes.{Occurs}
use Rattle.reader.proofs.Known.{Placed, Known, KnownStatement, KnownStatements}
use Rattle.reader.proofs.Fields.{word_told, second_half, code_rooted, statement_headed, statement_some}
use Rattle.reader.proofs.Walk.{Stands, Ends, stands_front, stands_back, stands_first, stands_rest, ends_word}
use Rattle.phrases.specs.Raw.{Source, raw_expression}
use Rattle.clauses.specs.Raw.{ending_in, update_text, iterator_text}
use Rattle.formatter.specs.Raw.{guarded_text, foreach_text, statement_by, raw_statement, raw_statements}
use Rattle.faithful.proofs.Expressions.{Spells, expression_says, entry_says}
use Rattle.faithful.proofs.Ends.{word_behind, word_ends}

module _ (s : Source) (ts : List Token) (spells : Spells s ts) (sane : Sane ts) where
  abbrev code : List ℕ
  code = s.code

  -- what is written from a statement's code is its text, with more fuel than there are words inside
  abbrev Tells : Statement → Type 0
  Tells a = (fuel x : ℕ) → fuel < 16777216 → Stands code x (code_of_statement a ts) → length (code_of_statement a ts) ≤ fuel → raw_statement fuel s x ≡ statement_text a

  -- ---- the first word
  -- what a statement's first word tells, and what stands behind it
  record Head (x w tag n : ℕ) (parts : List ℕ) : Type 0 where
    root : get_or code x 0 ≡ w
    tag_is : tag_in w ≡ tag
    size_is : size_in w ≡ length parts + 1
    extra_is : extra_in w ≡ n
    behind : Stands code (x + 1) parts

  abbrev head_word : ℕ → ℕ → ℕ → List ℕ → ℕ
  head_word tag p n parts = word tag (length parts + 1) (p + 65536 * n)

  head : (x tag p n : ℕ) (parts : List ℕ) → Placed ts p → tag < 256 → length parts + 1 < 16777216 → Stands code x (headed tag p n parts)
      → Head x (head_word tag p n parts) tag n parts
  head x tag p n parts o t l h =
      let told = word_told tag (length parts + 1) (p + 65536 * n) t l in
      let small : p < 65536 = omega (arith, sane.places o.index, o.begins) in
      record {
        root = stands_first h;
        tag_is = told.tag_is;
        size_is = told.size_is;
        extra_is = ap (λ m. m / 65536) told.number_is ∙ second_half p n small;
        behind = stands_rest h;
      }

  by_head : (fuel x w : ℕ) → get_or code x 0 ≡ w → raw_statement (suc fuel) s x ≡ statement_by (raw_expression fuel s) (raw_statement fuel s) s w x
  unfolding raw_statement
  by_head fuel x w e = rw e

  -- code that begins behind x ends so many words further
  ends_behind : (x : ℕ) (c : List ℕ) → Stands code (x + 1) c → Ends code (x + length c) c
  ends_behind x c h = record { start = x + 1; stands = h; last = omega arith }

  -- an expression's last word holds its size
  size_before : (e : Expression) (x : ℕ) → length (code_of e ts) < 16777216 → Ends code x (code_of e ts) → size_at code x ≡ length (code_of e ts)
  size_before e x l q =
      let r = code_rooted e ts in
      ap size_in (ends_word r.front _ (subst (Ends code x) r.whole q)) ∙ (word_told r.tag (length (code_of e ts)) r.number r.small l).size_is

  -- a statement's first word holds its size
  size_behind : (a : Statement) (x : ℕ) → length (code_of_statement a ts) < 16777216 → Stands code x (code_of_statement a ts)
      → size_at code x ≡ length (code_of_statement a ts)
  size_behind a x l q =
      let h = statement_headed a ts in
      ap size_in (stands_first (subst (Stands code x) h.whole q))
      ∙ (word_told h.tag (length (code_of_statement a ts)) h.number h.small l).size_is

  -- ---- statements without statements inside
  declare_tells : (p : ℕ) (x : List ℕ) → Placed ts p → Occurs ts a_name x → Tells (declare p x)
  unfolding statement_with statement_text statement_by if◌then◌otherwise◌
  declare_tells p x o n zero at f q k = absurd (omega arith)
  declare_tells p x o n (suc fuel) at f q k =
      let h = head at tag_declare p (slot_of ts x) [] o (omega arith) (omega arith) q in
      by_head fuel at _ h.root ∙ rw (h.tag_is, h.extra_is, spells.names x n, spells.apart x n)

  assign_tells : (p : ℕ) (x : List ℕ) (e : Expression) → Placed ts p → Occurs ts a_name x → Known e ts → Tells (assign p x e)
  unfolding statement_with statement_text statement_by if◌then◌otherwise◌ ending_in
  assign_tells p x e o n d zero at f q k = absurd (omega arith)
  assign_tells p x e o n d (suc fuel) at f q k =
      let c = code_of e ts in
      let h = head at tag_assign p (slot_of ts x) c o (omega arith) (omega arith) q in
      let y : at + (length c + 1) - 1 ≡ at + length c = omega arith in
      by_head fuel at _ h.root
      ∙ rw (
        h.tag_is,
        h.extra_is,
        h.size_is,
        y,
        spells.names x n,
        expression_says s ts spells e d fuel (at + length c) (omega arith) (ends_behind at c h.behind) (omega arith),
      )

  return_tells : (p : ℕ) (e : Expression) → Placed ts p → Known e ts → Tells (return p e)
  unfolding statement_with statement_text statement_by if◌then◌otherwise◌
  return_tells p e o d zero at f q k = absurd (omega arith)
  return_tells p e o d (suc fuel) at f q k =
      let c = code_of e ts in
      let h = head at tag_return p 0 c o (omega arith) (omega arith) q in
      let y : at + (length c + 1) - 1 ≡ at + length c = omega arith in
      by_head fuel at _ h.root
      ∙ rw (h.tag_is, h.size_is, y, expression_says s ts spells e d fuel (at + length c) (omega arith) (ends_behind at c h.behind) (omega arith))

  act_tells : (p : ℕ) (e : Expression) → Placed ts p → Known e ts → Tells (act p e)
  unfolding statement_with statement_text statement_by if◌then◌otherwise◌ ending_in
  act_tells p e o d zero at f q k = absurd (omega arith)
  act_tells p e o d (suc fuel) at f q k =
      let c = code_of e ts in
      let h = head at tag_act p 0 c o (omega arith) (omega arith) q in
      let y : at + (length c + 1) - 1 ≡ at + length c = omega arith in
      by_head fuel at _ h.root
      ∙ rw (h.tag_is, h.size_is, y, expression_says s ts spells e d fuel (at + length c) (omega arith) (ends_behind at c h.behind) (omega arith))

  update_tells : (p : ℕ) (a b e : Expression) → Placed ts p → Known a ts → Known b ts → Known e ts → Tells (update p a b e)
  unfolding statement_with statement_text statement_by if◌then◌otherwise◌ update_text ending_in
  update_tells p a b e o i j d zero at f q k = absurd (omega arith)
  update_tells p a b e o i j d (suc fuel) at f q k =
      let ca = code_of a ts in
      let cb = code_of b ts in
      let ce = code_of e ts in
      let n : length (ca ++ (cb ++ ce)) ≡ length ca + (length cb + length ce) = length-append ca (cb ++ ce) ∙ ap (λ m. length ca + m) (length-append cb ce) in
      let h = head at tag_update p 0 (ca ++ (cb ++ ce)) o (omega arith) (omega arith) q in
      let sa = stands_front ca (cb ++ ce) h.behind in
      let sb = stands_front cb ce (stands_back ca (cb ++ ce) h.behind) in
      let se = stands_back cb ce (stands_back ca (cb ++ ce) h.behind) in
      let y = at + length ca + length cb + length ce in
      let z = at + length ca + length cb in
      let ends : Ends code y ce = record { start = at + 1 + length ca + length cb; stands = se; last = omega arith } in
      let ends₂ : Ends code z cb = record { start = at + 1 + length ca; stands = sb; last = omega arith } in
      let last : at + (length ca + (length cb + length ce) + 1) - 1 ≡ y = omega arith in
      let back : y - length ce ≡ z = omega arith in
      let back₂ : z - length cb ≡ at + length ca = omega arith in
      let pair = entry_says s ts spells a b (expression_says s ts spells a i) (expression_says s ts spells b j) fuel (at + length ca) z (omega arith)
      (ends_behind at ca sa) ends₂ (omega arith) (omega arith) in
      by_head fuel at _ h.root
      ∙ rw (h.tag_is, h.size_is, n, last, size_before e y (omega arith) ends, back, size_before b z (omega arith) ends₂, back₂)
      (rw (pair, expression_says s ts spells e d fuel y (omega arith) ends (omega arith)))

  -- ---- a test and a statement
  guarded_tells : (lead : List ℕ) (e : Expression) (b : Statement) → Known e ts → Tells b → (fuel x : ℕ) → fuel < 16777216
      → Stands code (x + 1) (code_of e ts ++ code_of_statement b ts) → length (code_of e ts ++ code_of_statement b ts) ≤ fuel
      → guarded_text (raw_expression fuel s) (raw_statement fuel s) lead (x + length (code_of e ts)) ≡ lead ++ expression_text e ++ bytes ")\n" ++ statement_text b
  unfolding guarded_text
  guarded_tells lead e b d t fuel x f h k =
      let c = code_of e ts in
      let cs = code_of_statement b ts in
      let n = length-append c cs in
      let i : x + 1 + length c ≡ x + length c + 1 = omega arith in
      let se = stands_front c cs h in
      let sb : Stands code (x + length c + 1) cs = subst (λ m. Stands code m cs) i (stands_back c cs h) in
      rw (expression_says s ts spells e d fuel (x + length c) f (ends_behind x c se) (omega arith), t fuel (x + length c + 1) f sb (omega arith))

  when_tells : (p : ℕ) (e : Expression) (b : Statement) → Placed ts p → Known e ts → Tells b → Tells (when p e b)
  unfolding statement_with statement_text statement_by if◌then◌otherwise◌
  when_tells p e b o d t zero at f q k = absurd (omega arith)
  when_tells p e b o d t (suc fuel) at f q k =
      let h = head at tag_when p (length (code_of e ts)) (code_of e ts ++ code_of_statement b ts) o (omega arith) (omega arith) q in
      by_head fuel at _ h.root ∙ rw (h.tag_is, h.extra_is) (guarded_tells (bytes "if(") e b d t fuel at (omega arith) h.behind (omega arith))

  while_tells : (p : ℕ) (e : Expression) (b : Statement) → Placed ts p → Known e ts → Tells b → Tells (while p e b)
  unfolding statement_with statement_text statement_by if◌then◌otherwise◌
  while_tells p e b o d t zero at f q k = absurd (omega arith)
  while_tells p e b o d t (suc fuel) at f q k =
      let h = head at tag_while p (length (code_of e ts)) (code_of e ts ++ code_of_statement b ts) o (omega arith) (omega arith) q in
      by_head fuel at _ h.root ∙ rw (h.tag_is, h.extra_is) (guarded_tells (bytes "while(") e b d t fuel at (omega arith) h.behind (omega arith))

  foreach_tells : (p : ℕ) (x : List ℕ) (e : Expression) (b : Statement) → Placed ts p → Occurs ts a_name x → Known e ts → Tells b → Tells (foreach p x e b)
  unfolding statement_with statement_text statement_by if◌then◌otherwise◌ iterator_text foreach_text
  foreach_tells p x e b o n d t zero at f q k = absurd (omega arith)
  foreach_tells p x e b o n d t (suc fuel) at f q k =
      let c = code_of e ts in
      let cs = code_of_statement b ts in
      let i = length-append c cs in
      let y = at + (length c + 1) in
      let j : at + 1 + 1 + length c ≡ y + 1 = omega arith in
      let h = head at tag_foreach p (length c + 1) (slot_of ts x ∷ (c ++ cs)) o (omega arith) (omega arith) q in
      let parts = stands_rest h.behind in
      let ends : Ends code y c = record { start = at + 1 + 1; stands = stands_front c cs parts; last = omega arith } in
      let lead : List ℕ = bytes "foreach " ++ x ++ bytes " in" in
      by_head fuel at _ h.root
      ∙ rw (
        h.tag_is,
        h.extra_is,
        stands_first h.behind,
        spells.names x n,
        spells.apart x n,
        expression_says s ts spells e d fuel y (omega arith) ends (omega arith),
        t fuel (y + 1) (omega arith) (subst (λ m. Stands code m cs) j (stands_back c cs parts)) (omega arith),
      )
      (ap (λ (l : List ℕ). l ++ statement_text b) (word_behind lead (expression_text e) _ (word_ends s ts spells e y d (omega arith, ends))))

  -- ---- statements one after the other
  -- what is written from their code, each with its linefeed
  abbrev TellsAll : Statements → Type 0
  TellsAll ss = (fuel a end rounds : ℕ) → fuel < 16777216 → Stands code a (code_of_statements ss ts) → a + length (code_of_statements ss ts) ≡ end
      → length (code_of_statements ss ts) ≤ fuel → length (code_of_statements ss ts) < rounds → raw_statements rounds (raw_statement fuel s) s a end ≡ statements_text ss ++ bytes "\n"

  -- behind the last nothing is written
  none_left : (rounds fuel end : ℕ) → raw_statements rounds (raw_statement fuel s) s end end ≡ []
  unfolding raw_statements if◌then◌otherwise◌
  none_left zero fuel end = refl
  none_left (suc rounds) fuel end = rw (le-ltb end end (omega arith))

  -- one statement and what is written behind it
  one_tells : (b : Statement) → Tells b → (fuel a end rounds : ℕ) → fuel < 16777216 → Stands code a (code_of_statement b ts) → length (code_of_statement b ts) ≤ fuel → a < end
      → raw_statements (suc rounds) (raw_statement fuel s) s a end
      ≡ statement_text b ++ bytes "\n" ++ raw_statements rounds (raw_statement fuel s) s (a + length (code_of_statement b ts)) end
  unfolding raw_statements if◌then◌otherwise◌
  one_tells b t fuel a end rounds f q k l = rw (lt-ltb a end l, t fuel a f q k, size_behind b a (omega arith) q)

  only_tells : (b : Statement) → Tells b → TellsAll (only b)
  unfolding statements_with statements_text
  only_tells b t fuel a end zero f q e k r = absurd (omega arith)
  only_tells b t fuel a end (suc rounds) f q e k r =
      one_tells b t fuel a end rounds f q k (omega (arith, statement_some b ts))
      ∙ ap (λ (l : List ℕ). statement_text b ++ bytes "\n" ++ l) (rw e (none_left rounds fuel end)) ∙ append-nil (statement_text b ++ bytes "\n")

  first_tells : (b : Statement) (ss : Statements) → Tells b → TellsAll ss → TellsAll (first b ss)
  unfolding statements_with statements_text
  first_tells b ss t u fuel a end zero f q e k r = absurd (omega arith)
  first_tells b ss t u fuel a end (suc rounds) f q e k r =
      let c = code_of_statement b ts in
      let cs = code_of_statements ss ts in
      let n = length-append c cs in
      let some = statement_some b ts in
      one_tells b t fuel a end rounds f (stands_front c cs q) (omega arith) (omega arith)
      ∙ ap (λ (l : List ℕ). statement_text b ++ bytes "\n" ++ l) (u fuel (a + length c) end rounds f (stands_back c cs q) (omega arith) (omega arith) (omega arith))
      ∙ sym (append_assoc (statement_text b ++ bytes "\n") (statements_text ss) (bytes "\n"))

  block_tells : (p : ℕ) (ss : Statements) → Placed ts p → TellsAll ss → Tells (block p ss)
  unfolding statement_with statement_text statement_by if◌then◌otherwise◌
  block_tells p ss o t zero at f q k = absurd (omega arith)
  block_tells p ss o t (suc fuel) at f q k =
      let cs = code_of_statements ss ts in
      let h = head at tag_block p 0 cs o (omega arith) (omega arith) q in
      by_head fuel at _ h.root
      ∙ rw (h.tag_is, h.size_is, t fuel (at + 1) (at + (length cs + 1)) (suc (length cs + 1)) (omega arith) h.behind (omega arith) (omega arith) (omega arith))
      (ap (λ (l : List ℕ). bytes "{\n" ++ l) (append_assoc (statements_text ss) (bytes "\n") (bytes "}")))

  -- ---- every statement
  mutual
    unfolding KnownStatement KnownStatements

    statement_tells : (b : Statement) → KnownStatement b ts → Tells b
    statement_tells (declare p x) k = declare_tells p x k.0 k.1
    statement_tells (assign p x e) k = assign_tells p x e k.0 k.1 k.2
    statement_tells (update p a b e) k = update_tells p a b e k.0 k.1 k.2 k.3
    statement_tells (when p e b) k = when_tells p e b k.0 k.1 (statement_tells b k.2)
    statement_tells (while p e b) k = while_tells p e b k.0 k.1 (statement_tells b k.2)
    statement_tells (foreach p x e b) k = foreach_tells p x e b k.0 k.1 k.2 (statement_tells b k.3)
    statement_tells (return p e) k = return_tells p e k.0 k.1
    statement_tells (block p ss) k = block_tells p ss k.0 (statements_tell ss k.1)
    statement_tells (act p e) k = act_tells p e k.0 k.1

    -- WHAT IS WRITTEN FROM THE CODE OF A BODY
    pub statements_tell : (ss : Statements) → KnownStatements ss ts → TellsAll ss
    statements_tell (only b) k = only_tells b (statement_tells b k)
    statements_tell (first b ss) k = first_tells b ss (statement_tells b k.0) (statements_tell ss k.1)
