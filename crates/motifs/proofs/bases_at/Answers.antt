-- `motifs::bases_at` meets its contract: the bases of a motif are a part of its block.
use Rattle.motifs.proofs.ReadLaws as reading
use Rattle.motifs.proofs.bases_at.Goals as goal

pub returns : goal.returns
returns c = rw c.from-e.ensures (reading.bases_are c.args.motifs.now c.args.t (c.requires.0.each _ c.requires.1) _ c.block_at-b.ensures)
