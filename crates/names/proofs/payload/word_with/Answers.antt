-- `names::payload::word_with` meets its contract: the parts of the word do not overlap.
use native.Mathlib.Omega.{arith}
use borrow.Author.Rules.{rules}
use Rattle.names.proofs.Payloads.{text_few, payload_small, word_is}
use Rattle.names.proofs.payload.word_with.Goals as goal

pub payload-v-requires : goal.payload-v-requires
payload-v-requires c = (search text_few, search rules)

pub overflow_mul-result : goal.overflow_mul-result
overflow_mul-result c =
    let l = text_few _ _ _ c.token_text-x.ensures in
    let h = payload_small _ _ _ _ l c.requires c.payload-v.ensures in
    omega arith

pub overflow_add-result : goal.overflow_add-result
overflow_add-result c =
    let l = text_few _ _ _ c.token_text-x.ensures in
    let h = payload_small _ _ _ _ l c.requires c.payload-v.ensures in
    omega arith

pub returns : goal.returns
returns c = search word_is
