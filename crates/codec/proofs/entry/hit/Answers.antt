-- `codec::entry::hit` meets its contract: a bit of the hit map.
use Rattle.block.specs.Content.{hit_in}
use Rattle.codec.proofs.entry.hit.Goals as goal

pub returns : goal.returns
unfolding hit_in
returns c = c.test.ensures
