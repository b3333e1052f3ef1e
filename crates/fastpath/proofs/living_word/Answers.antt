use Rattle.fastpath.proofs.Laws.{no_shape_lem, no_longer, lives}
use Rattle.fastpath.proofs.living_word.Goals as goal

pub returns-then-u-ne-SHAPE : goal.returns-then-u-ne-SHAPE
returns-then-u-ne-SHAPE c = search no_shape_lem

pub returns-then-is_destroyed : goal.returns-then-is_destroyed
returns-then-is_destroyed c = search no_longer

pub returns : goal.returns
returns c = search lives
