-- `walk::carries` meets its contract. The invariant: Q[lo..l) takes the motif to `from` and no further, and no arc of the window goes past l
-- (`Passed`); the tables are those of the motif. It stops before the end where no embedding of the whole motif is left (`too_short`, `out_of_bounds`).
use Prim.Native.Nat.{◌-◌}
use lib.ListN.{length}
use Rattle.strand.specs.Lent.{on_strand, on_pair}
use Rattle.walk.specs.Walk.{TablesFor}
use Rattle.walk.proofs.WindowWalk.{Passed}
use Rattle.walk.proofs.carries.Given as goal

abbrev pub invariant-loop-l : goal.invariant-loop-l
invariant-loop-l l =
    on_pair Passed l.motif l.molecule l.lo l.hi l.from l.l × on_strand TablesFor l.motif (length l.molecule.bases.now) l.tables

abbrev pub decreases-loop-l : goal.decreases-loop-l
decreases-loop-l l = l.hi - l.l
