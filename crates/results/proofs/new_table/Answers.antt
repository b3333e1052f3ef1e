use Rattle.results.proofs.Laws.{no_size, negative_size, new_table_lem}
use Rattle.results.proofs.new_table.Goals as goal

pub returns-then-kind_of-ne-INTEGER : goal.returns-then-kind_of-ne-INTEGER
returns-then-kind_of-ne-INTEGER c = search no_size

pub returns-then-is_negative : goal.returns-then-is_negative
returns-then-is_negative c = search negative_size

pub returns : goal.returns
returns c = search new_table_lem
