-- `arcs::bounds::fill` meets its contract. The invariant (`Climbing`): the bounds before base i are written, and `bound` is the one there; the last one is set
-- after the loop.
use Rattle.arcs.proofs.BoundLaws.{Climbing}
use Rattle.arcs.proofs.bounds.fill.Given as goal

abbrev pub invariant-loop-i : goal.invariant-loop-i
invariant-loop-i l = Climbing l.p l.q l.from l.lo l.hi l.initial.tables l.tables l.bound l.i
