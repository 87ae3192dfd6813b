-- `block::sound::sound_at` meets its contract: block d is the part that is tested; where there is none, a part of another length is unsound.
use native.Mathlib.Omega.{arith}
use Rattle.block.specs.Content.{molecule_kind}
use Rattle.block.specs.Block.{sound_molecule}
use Rattle.block.proofs.SoundLaws as laws
use Rattle.block.proofs.sound.sound_at.Goals as goal

pub returns : goal.returns
unfolding sound_molecule
returns c = laws.strand_length molecule_kind _ (laws.no_block c.args.buf.now c.args.d (omega arith))
