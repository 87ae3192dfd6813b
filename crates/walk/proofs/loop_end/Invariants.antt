-- `walk::loop_end` meets its contract. The invariant: the bases that were walked take the motif from `from` to `end` and no further.
use Prim.Native.Nat.{◌+◌}
use lib.ListN.{length}
use Rattle.arcs.specs.Pairs.{BestIn}
use Rattle.walk.proofs.loop_end.Given as goal

abbrev pub invariant-loop-base : goal.invariant-loop-base
invariant-loop-base l = BestIn l.pair (length l.pair.motif.bases.now) l.from l.end l.lo (l.lo + l.base-index)
