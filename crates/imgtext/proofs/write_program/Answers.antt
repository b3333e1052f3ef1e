-- `imgtext::write_program` meets its contract: what the operation promises is what is printed.
use lib.ListN.{replicate}
use Rattle.imgtext.proofs.Shown.{lent_enough, formatted_front}
use Rattle.imgtext.proofs.write_program.Goals as goal

pub returns : goal.returns
returns c = formatted_front _ _ (replicate 8193 0) (replicate 16384 0) _ lent_enough
    c.requires _ _ _ _ _ _
    c.format-answer.ensures c.put_answer.ensures
