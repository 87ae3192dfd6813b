-- `placing::path::middle` meets its contract. The invariant: mid is l or halves the bases (`Between`).
use Prim.Native.Nat.{◌-◌}
use Rattle.lists.specs.Vocabulary.{nth}
use Rattle.placing.specs.Placing.{Between}
use Rattle.placing.proofs.path.middle.Given as goal

abbrev pub invariant-loop-next : goal.invariant-loop-next
invariant-loop-next l = Between l.qm l.l l.hi l.kept l.mid

abbrev pub decreases-loop-next : goal.decreases-loop-next
decreases-loop-next l = nth l.qm l.l - l.mid
