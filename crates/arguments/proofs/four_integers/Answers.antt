use Rattle.arguments.proofs.ArgumentLaws.{four_apart, four_rest}
use Rattle.arguments.proofs.four_integers.Goals as goal

pub returns-then-not-are_kinds : goal.returns-then-not-are_kinds
returns-then-not-are_kinds c = search four_apart

pub returns : goal.returns
returns c = search four_rest
