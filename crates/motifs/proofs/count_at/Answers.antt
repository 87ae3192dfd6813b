-- `motifs::count_at` meets its contract: byte 1 of a block with a motif is the number of its bases.
use mathlib.Core.Path.{◌∙◌}
use Rattle.motifs.proofs.ReadLaws as reading
use Rattle.motifs.proofs.count_at.Goals as goal

pub returns : goal.returns
returns c = c.from.ensures ∙ reading.count_is c.args.motifs.now c.args.t c.requires.1 _ c.block_at-b.ensures
