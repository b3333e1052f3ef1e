-- `reader::place_among` meets its contract: the place of a token that is there, else the length.
use borrow.Author.Tests.{lt-ltb, le-ltb}
use Rattle.meaning.specs.Basics.{if◌then◌otherwise◌}
use Rattle.reader.specs.Reading.{place_among}
use Rattle.reader.proofs.place_among.Goals as goal

pub returns-then-i-tokens : goal.returns-then-i-tokens
unfolding place_among if◌then◌otherwise◌
returns-then-i-tokens c = rw (lt-ltb _ _ c.if-i-tokens.true) c.place_of.ensures

pub returns : goal.returns
unfolding place_among if◌then◌otherwise◌
returns c = rw (le-ltb _ _ c.if-i-tokens.false)
