use Rattle.interpreter.proofs.StatementLaws.{in_body}
use Rattle.interpreter.proofs.body.Goals as goal

pub returns : goal.returns
returns c = search in_body
