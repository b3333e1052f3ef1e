use Rattle.values.proofs.Laws.{pack_integer, pack_text, pack_truth, pack_table, pack_shape, nothing_is}
use Rattle.values.proofs.pack.Goals as goal

pub returns-in-Integer : goal.returns-in-Integer
returns-in-Integer c = search pack_integer

pub returns-in-Text : goal.returns-in-Text
returns-in-Text c = search pack_text

pub returns-in-Boolean : goal.returns-in-Boolean
returns-in-Boolean c = search pack_truth

pub returns-in-Nothing : goal.returns-in-Nothing
returns-in-Nothing c = search nothing_is

pub returns-in-Table : goal.returns-in-Table
returns-in-Table c = search pack_table

pub returns-in-Shape : goal.returns-in-Shape
returns-in-Shape c = search pack_shape
