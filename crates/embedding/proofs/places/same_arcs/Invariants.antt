-- `embedding::places::same_arcs` meets its contract. The invariant: the arcs of the first i positions are kept.
use Prim.Native.Nat.{ℕ, ◌<◌}
use Rattle.embedding.specs.Places.{ArcKept}
use Rattle.embedding.proofs.places.same_arcs.Given as goal

abbrev pub invariant-loop-i : goal.invariant-loop-i
invariant-loop-i l = (x : ℕ) → x < l.i → ArcKept l.pm l.qm l.places x
