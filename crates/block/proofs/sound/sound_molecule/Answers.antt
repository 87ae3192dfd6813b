-- `block::sound::sound_molecule` meets its contract: the test of strand blocks with the numbers of its kind.
use Rattle.block.specs.Block.{sound_molecule}
use Rattle.block.proofs.sound.sound_molecule.Goals as goal

pub returns : goal.returns
unfolding sound_molecule
returns c = c.sound_strand.ensures
