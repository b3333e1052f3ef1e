use Rattle.groups.specs.Making.{copy_group}
use Rattle.groups.proofs.MakingLaws.{copy_sources}
use Rattle.groups.proofs.making.copy_group.Goals as goal

pub new_group-requires : goal.new_group-requires
new_group-requires c = search copy_sources

pub returns : goal.returns
unfolding copy_group
returns c = rw (← c.first_at.ensures, ← c.place_of-at.ensures, ← c.count_at-n.ensures) c.new_group.ensures
