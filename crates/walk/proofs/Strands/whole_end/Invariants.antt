-- `walk::Strands::whole_end` meets its contract. The invariant: Q[0..l) takes the motif to `from` and no further, and no arc leaves Q[0..l) (`Walked`); the
-- tables are those of the motif.
use Prim.Native.Nat.{◌-◌}
use lib.ListN.{length}
use Rattle.walk.specs.InStrands.{WalkedIn, TablesIn}
use Rattle.walk.proofs.Strands.whole_end.Given as goal

abbrev pub invariant-loop-l : goal.invariant-loop-l
invariant-loop-l l =
    WalkedIn l.self (record { base = l.l; from = l.from }) × TablesIn l.self l.tables

abbrev pub decreases-loop-l : goal.decreases-loop-l
decreases-loop-l l = length l.self.molecule.bases.now - l.l
