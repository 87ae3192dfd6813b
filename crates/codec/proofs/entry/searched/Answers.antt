-- `codec::entry::searched` meets its contract: a bit of the searched map.
use Rattle.block.specs.Content.{searched_in}
use Rattle.codec.proofs.entry.searched.Goals as goal

pub returns : goal.returns
unfolding searched_in
returns c = c.test.ensures
