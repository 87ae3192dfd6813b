-- `motifs::Motifs::new` meets its contract.
-- Invariant: the mates of the first t motifs stand in their rows.
use Rattle.motifs.specs.Unpacked.{MatesTo}
use Rattle.motifs.proofs.Motifs.new.Given as goal

abbrev pub invariant-loop-t : goal.invariant-loop-t
invariant-loop-t l = MatesTo l.blocks l.mates l.t
