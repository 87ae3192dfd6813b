-- `motifs::Motifs::tables` meets its contract.
-- Invariant: the tables of the first t motifs stand in their rows.
use mathlib.Core.Path.{◌≡◌}
use lib.ListN.{length}
use Rattle.calls.specs.Motifs.{most_motifs}
use Rattle.motifs.specs.Unpacked.{TablesTo}
use Rattle.motifs.proofs.Motifs.tables.Given as goal

abbrev pub invariant-loop-t : goal.invariant-loop-t
invariant-loop-t l = (length l.tables ≡ most_motifs) × TablesTo l.self.blocks.now l.tables l.t
