-- `strand::nesting::closes` meets its contract: the bases passed have their mates inside the arc; the walk jumps over arcs that do.
use Prim.Native.Nat.{◌-◌, ◌≤◌, ◌<◌}
use lib.ListN.{length}
use Rattle.lists.specs.Vocabulary.{nth}
use Rattle.strand.proofs.NestingLaws.{Passed}
use Rattle.strand.proofs.nesting.closes.Given as goal

abbrev pub invariant-loop-k : goal.invariant-loop-k
invariant-loop-k l = (l.k ≤ length l.mates) × (l.i < l.end → l.k ≤ l.end) × Passed (nth l.mates) l.i l.k

abbrev pub decreases-loop-k : goal.decreases-loop-k
decreases-loop-k l = length l.mates - l.k
