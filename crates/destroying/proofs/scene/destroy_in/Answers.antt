use Rattle.destroying.proofs.SceneLaws.{destroys_nothing, destroys_shape}
use Rattle.destroying.proofs.scene.destroy_in.Goals as goal

pub returns-then-w-ne-SHAPE : goal.returns-then-w-ne-SHAPE
returns-then-w-ne-SHAPE c = destroys_nothing _ _ _ _ c.if-w-ne-SHAPE.true

pub returns : goal.returns
returns c = destroys_shape _ _ _ _ _ _ _ c.if-w-ne-SHAPE.false c.number_of.ensures c.destroy_living.ensures
