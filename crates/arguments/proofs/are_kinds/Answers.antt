use Rattle.arguments.proofs.ArgumentLaws.{kinds_apart, kinds_rest}
use Rattle.arguments.proofs.are_kinds.Goals as goal

pub returns-then-not-is_kind : goal.returns-then-not-is_kind
returns-then-not-is_kind c = search kinds_apart

pub returns : goal.returns
returns c = search kinds_rest
