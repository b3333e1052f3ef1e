-- A statement's word, and what is executed by it.
use Prim.Native.Nat.{ℕ, ◌+◌, ◌-◌, ◌*◌, ◌<◌}
use mathlib.Core.Path.{◌≡◌, ap}
use lib.ListN.{get_or}
use Rattle.meaning.specs.Basics.{if◌then◌otherwise◌}
use Rattle.machine.specs.Opcodes.{word, tag_in, size_in, place_in, extra_in, tag_declare, tag_assign, tag_update, tag_when, tag_while, tag_foreach, tag_return, tag_block, tag_act}
use Rattle.reader.proofs.Fields.{first_half, second_half}
use Rattle.machine.specs.Words.{packed, unpacked}
use Rattle.machine.specs.Layout.{steps_granted}
use Rattle.machine.specs.Act as Act
use Rattle.machine.specs.Variables as Stored
use Rattle.machine.specs.Operate.{with_boolean, with_group}
use Rattle.machine.specs.Loops.{loop_over}
use Rattle.machine.specs.Evaluate.{Setting, Evaluator}
use Rattle.machine.specs.declared.Flow.TheVariants.{Onward, Returned}
use Rattle.machine.specs.Effects.{declaring, assigning, finishing}
use Rattle.machine.specs.Execute.{simple_at, update_at, Executor, when_at, looping, repeat_at, statements_from, foreach_at, counted_at, statement_by}
use Rattle.simulation.proofs.Chaining.{tested_then}
use Rattle.simulation.proofs.Expressions.{told}

pub record Heads (w tag size p n : ℕ) : Type 0 where
  pub tag_is : tag_in w ≡ tag
  pub size_is : size_in w ≡ size
  pub place_is : place_in w ≡ p
  pub extra_is : extra_in w ≡ n

pub heads : {w tag size p n : ℕ} → w ≡ word tag size (p + 65536 * n) → tag < 256 → size < 16777216 → p < 65536 → Heads w tag size p n
heads {w} {tag} {size} {p} {n} e a b c =
    let t = told e a b in
    record { tag_is = t.tag_is; size_is = t.size_is; place_is = rw t.number_is (first_half p n c); extra_is = rw t.number_is (second_half p n c) }

module _ (eval : Evaluator) (inner : Executor) (e : Setting) (w x p size q n : ℕ) where
  pub by_declare : Heads w tag_declare size q n → statement_by eval inner e w x p ≡ Act.◌>>◌ (Act.count e.grants p) (Act.◌>>◌ (Stored.declare n p) (Act.give Onward))
  unfolding statement_by if◌then◌otherwise◌ counted_at declaring
  by_declare t = rw (t.tag_is, t.extra_is)

  pub by_assign : Heads w tag_assign size q n → statement_by eval inner e w x p ≡ Act.◌>>◌ (Act.count e.grants p) (Act.◌>>=◌ (eval (x + size - 1) p) (λ v. assigning e.grants p n (packed v)))
  unfolding statement_by if◌then◌otherwise◌ counted_at simple_at finishing
  by_assign t = rw (t.tag_is, t.extra_is, t.size_is)

  pub by_update : Heads w tag_update size q n → statement_by eval inner e w x p ≡ Act.◌>>◌ (Act.count e.grants p) (update_at eval e (x + size - 1) p)
  unfolding statement_by if◌then◌otherwise◌ counted_at
  by_update t = rw (t.tag_is, t.size_is)

  pub by_when : Heads w tag_when size q n → statement_by eval inner e w x p
      ≡ Act.◌>>◌ (Act.count e.grants p) (Act.◌>>=◌ (eval (x + n) p) (λ v. with_boolean p v λ b. if b then (λ _. inner (x + n + 1)) otherwise λ _. Act.give Onward))
  unfolding statement_by if◌then◌otherwise◌ counted_at when_at
  by_when t = rw (t.tag_is, t.extra_is) (ap (λ f. Act.◌>>◌ (Act.count e.grants p) f) (tested_then eval e (x + n) p (λ b. if b then (λ _. inner (x + n + 1)) otherwise λ _. Act.give Onward)))

  pub by_while : Heads w tag_while size q n → statement_by eval inner e w x p ≡ looping (steps_granted e.grants + 1) eval e (x + n) p (inner (x + n + 1))
  unfolding statement_by if◌then◌otherwise◌ repeat_at
  by_while t = rw (t.tag_is, t.extra_is)

  pub by_foreach : (slot : ℕ) → get_or e.code (x + 1) 0 ≡ slot → Heads w tag_foreach size q n → statement_by eval inner e w x p
      ≡ Act.◌>>◌ (Act.count e.grants p) (Act.◌>>=◌ (eval (x + n) p) (λ v. Act.◌>>◌ (Stored.usable p v) (with_group p v λ i.
      Act.◌>>◌ (Stored.declare_once slot) (loop_over (inner (x + n + 1)) e.grants p slot i))))
  unfolding statement_by if◌then◌otherwise◌ counted_at foreach_at
  by_foreach slot i t = rw (t.tag_is, t.extra_is, i)

  pub by_return : Heads w tag_return size q n → statement_by eval inner e w x p
      ≡ Act.◌>>◌ (Act.count e.grants p) (Act.◌>>=◌ (eval (x + size - 1) p) (λ v. Act.give (Returned (unpacked (packed v)))))
  unfolding statement_by if◌then◌otherwise◌ counted_at simple_at finishing
  by_return t = rw (t.tag_is, t.size_is)

  pub by_block : Heads w tag_block size q n → statement_by eval inner e w x p ≡ Act.◌>>◌ (Act.count e.grants p) (statements_from (size + 1) inner e (x + 1) (x + size))
  unfolding statement_by if◌then◌otherwise◌ counted_at
  by_block t = rw (t.tag_is, t.size_is)

  pub by_act : Heads w tag_act size q n → statement_by eval inner e w x p ≡ Act.◌>>◌ (Act.count e.grants p) (Act.◌>>◌ (eval (x + size - 1) p) (Act.give Onward))
  unfolding statement_by if◌then◌otherwise◌ counted_at simple_at finishing
  by_act t = rw (t.tag_is, t.size_is)
