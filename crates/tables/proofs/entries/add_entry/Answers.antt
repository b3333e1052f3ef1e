use native.Mathlib.Omega.{arith}
use Rattle.machine.proofs.Acts.{goes_in, stops_in, loading_in, in_both}
use Rattle.tables.proofs.EntryLaws.{adding, entries_some, made_small, bucket_small, puts_entry, entry_put}
use Rattle.tables.proofs.entries.add_entry.Goals as goal

pub returns-in_err-pay_one : goal.returns-in_err-pay_one
returns-in_err-pay_one c = adding _ _ _ _ _ _ _ _ (loading_in _ _ (stops_in _ (in_both c.in_err-pay_one.ensures _) c.from_residual.ensures.1))

pub nonzero_rem-n : goal.nonzero_rem-n
nonzero_rem-n c = entries_some c.args.program.now c.args.grants.now c.args.texts.now _ 0 0 0 c.args.p c.in_ok-pay_one.ensures

pub entry_place-at-requires : goal.entry_place-at-requires
entry_place-at-requires c = (c.requires.shapes, made_small c.args.program.now c.args.grants.now c.args.texts.now _ 0 0 0 c.args.p c.in_ok-pay_one.ensures c.requires)

pub entry_place-head-requires : goal.entry_place-head-requires
entry_place-head-requires c =
    (c.requires.shapes, bucket_small _ c.args.grants.now _ _ _ _ _ (entries_some c.args.program.now c.args.grants.now c.args.texts.now _ 0 0 0 c.args.p c.in_ok-pay_one.ensures) c.bucket-b.ensures c.requires)

pub overflow_add-head : goal.overflow_add-head
overflow_add-head c =
    omega (
      arith,
      c.entry_place-head.ensures,
      bucket_small _ c.args.grants.now _ _ _ _ _ (entries_some c.args.program.now c.args.grants.now c.args.texts.now _ 0 0 0 c.args.p c.in_ok-pay_one.ensures) c.bucket-b.ensures c.requires,
      c.requires.shapes,
    )

pub put_entry-requires : goal.put_entry-requires
put_entry-requires c = puts_entry _ _ _ _ _ _ 0 _ c.in_ok-pay_one.ensures _ _ _ c.bucket-b.ensures c.entry_place-at.ensures c.entry_place-head.ensures c.requires c.pay_one.auto.words

pub returns : goal.returns
returns c = adding _ _ _ _ _ _ _ _ (loading_in _ _ (goes_in _ (in_both c.in_ok-pay_one.ensures _)
    (entry_put _ _ _ _ _ _ _ _ c.in_ok-pay_one.ensures _ _ _ c.bucket-b.ensures c.entry_place-at.ensures c.entry_place-head.ensures c.put_entry.ensures)))
