use Rattle.arguments.proofs.ArgumentLaws.{point_apart, point_rest}
use Rattle.arguments.proofs.point_and_text.Goals as goal

pub returns-then-not-are_kinds : goal.returns-then-not-are_kinds
returns-then-not-are_kinds c = search point_apart

pub returns : goal.returns
returns c = search point_rest
