-- `answers::write_four` meets its contract: one word after another.
use Rattle.answers.proofs.Written.{four_writes}
use Rattle.answers.proofs.write_four.Goals as goal

pub returns : goal.returns
returns c =
    let z = c.args in
    four_writes z.m z.p z.n z.l z.answer.now c.put.new.words c.put-2.new.words
    c.put-3.new.words _
    c.put.ensures
    c.put-2.ensures c.put-3.ensures
    c.put-4.ensures
