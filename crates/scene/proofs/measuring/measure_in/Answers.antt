use Rattle.scene.proofs.MeasureLaws.{shows_nothing, shows_shape}
use Rattle.scene.proofs.measuring.measure_in.Goals as goal

pub returns-then-w-ne-SHAPE : goal.returns-then-w-ne-SHAPE
returns-then-w-ne-SHAPE c = search shows_nothing

pub returns : goal.returns
returns c = search shows_shape
