-- `names::index::is_spelled` meets its contract.
use Rattle.names.proofs.Walk.{other_kind, one_kind}
use Rattle.names.proofs.index.is_spelled.Goals as goal

pub returns-then-k-kind : goal.returns-then-k-kind
returns-then-k-kind c = search other_kind

pub returns : goal.returns
returns c = search one_kind
