use Rattle.scene.proofs.MeasureLaws.{measured}
use Rattle.scene.proofs.measuring.measure.Goals as goal

pub returns : goal.returns
returns c = search measured
