use native.Mathlib.Omega.{arith}
use mathlib.Core.Path.{refl}
use lib.ListN.{length-set}
use Rattle.groups.specs.Making.{add_one}
use Rattle.machine.proofs.Acts.{goes, stops, sure, loading}
use Rattle.groups.proofs.MakingLaws.{entries_some, made_less, marks_clear, stores_word, one_used, not_one, component_room, marks_room}
use Rattle.groups.proofs.making.add_one.Goals as goal

pub returns-in_err-pay_one : goal.returns-in_err-pay_one
unfolding add_one
returns-in_err-pay_one c = record {
  does = loading _ _ (stops _ c.in_err-pay_one.ensures c.from_residual.ensures.1);
  used = not_one _ _ c.from_residual.ensures.1;
}

pub nonzero_rem-k : goal.nonzero_rem-k
nonzero_rem-k c = entries_some c.args.grants.now 77 c.args.p c.in_ok-pay_one.ensures

pub overflow_cast-k : goal.overflow_cast-k
overflow_cast-k c = omega (arith, made_less c.args.grants.now 77 c.args.p c.in_ok-pay_one.ensures, c.requires.room.entries)

pub offset_bounds-words-at : goal.offset_bounds-words-at
offset_bounds-words-at c = omega (arith, c.place_of-at.ensures, made_less c.args.grants.now 77 c.args.p c.in_ok-pay_one.ensures, c.requires.room.shapes, c.requires.room.entries)

pub bounds-words-at : goal.bounds-words-at
bounds-words-at c = component_room _ _ _ _ _ c.requires.room (made_less c.args.grants.now 77 c.args.p c.in_ok-pay_one.ensures) c.place_of-at.ensures c.pay_one.auto.words

pub overflow_cast-k-2 : goal.overflow_cast-k-2
overflow_cast-k-2 c = omega (arith, made_less c.args.grants.now 77 c.args.p c.in_ok-pay_one.ensures, c.requires.room.entries)

pub clear_from-requires : goal.clear_from-requires
clear_from-requires c = marks_room _ _ _ _ _ _ _ c.requires.room (made_less c.args.grants.now 77 c.args.p c.in_ok-pay_one.ensures) c.marks_of.ensures c.pay_one.auto.words

pub bounds-words-10-2 : goal.bounds-words-10-2
bounds-words-10-2 c =
    omega (
      arith,
      c.requires.room.words,
      c.pay_one.auto.words,
      c.clear_from.auto.words,
      length-set c.pay_one.new.words c.place_of-at.result c.slot_word.result,
    )

pub returns : goal.returns
unfolding add_one
returns c = record {
  does = loading _ _ (
      goes _ c.in_ok-pay_one.ensures (
      loading _ _ (goes _ (sure (stores_word _ _ c.place_of-at.ensures (rw c.word_at-w.ensures at c.slot_word.ensures))) (goes _ (sure (marks_clear c.args.grants.now _ c.marks_of.ensures c.clear_from.ensures)) (sure (stores_word _ _ refl refl))))
      )
      );
  used = λ z. one_used _ _ _ _ c.requires.room c.in_ok-pay_one.ensures c.place_of-at.ensures c.marks_of.ensures c.clear_from.ensures _;
}
