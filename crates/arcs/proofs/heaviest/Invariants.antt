-- `arcs::heaviest` meets its contract. The invariant (`Seen`): `best` is the first longest of the arcs that begin before l, and no arc before l goes past it.
-- An arc's inside needs no look: what lies in it is shorter.
use Prim.Native.Nat.{◌-◌}
use Rattle.arcs.proofs.Arcs.{Seen}
use Rattle.arcs.proofs.heaviest.Given as goal

abbrev pub invariant-loop-l : goal.invariant-loop-l
invariant-loop-l l = Seen l.qm l.lo l.hi l.best l.size l.l

abbrev pub decreases-loop-l : goal.decreases-loop-l
decreases-loop-l l = l.hi - l.l
