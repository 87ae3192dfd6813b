-- `walk::unbonded` meets its contract. The invariant: the bases from lo to before i are unbonded.
use Rattle.walk.specs.Walk.{Unbonded}
use Rattle.walk.proofs.unbonded.Given as goal

abbrev pub invariant-loop-i : goal.invariant-loop-i
invariant-loop-i l = Unbonded l.qm l.lo l.i
