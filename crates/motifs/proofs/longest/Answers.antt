-- `motifs::longest` meets its contract.
-- Invariant: m is the number of bases of the longest of the first t motifs.
use Rattle.motifs.proofs.ReadLaws as reading
use Rattle.motifs.proofs.longest.Goals as goal

pub loop-t-init : goal.loop-t-init
loop-t-init c = reading.longest_none c.args.motifs.now

pub loop-t-preserved : goal.loop-t-preserved
loop-t-preserved c = reading.longest_next c.args.motifs.now c.loop-t.t c.loop-t.invariant c.count_at.ensures c.max-m.ensures
