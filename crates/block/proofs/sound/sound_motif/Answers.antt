-- `block::sound::sound_motif` meets its contract: the test of strand blocks with the numbers of its kind.
use Rattle.block.specs.Motif.{sound_motif}
use Rattle.block.proofs.sound.sound_motif.Goals as goal

pub returns : goal.returns
unfolding sound_motif
returns c = c.sound_strand.ensures
