-- `strand::nesting::arcs_close` meets its contract: from the end on, the arcs that begin at i or later hold the mates inside them, so none of them
-- is crossed.
use Prim.Native.Nat.{ℕ, ◌≤◌, ◌<◌}
use lib.ListN.{length}
use Rattle.lists.specs.Vocabulary.{nth}
use Rattle.strand.specs.Nesting.{Closes}
use Rattle.strand.proofs.nesting.arcs_close.Given as goal

abbrev pub invariant-loop-i : goal.invariant-loop-i
invariant-loop-i l = (l.i ≤ length l.mates) × ((k : ℕ) → l.i ≤ k → k < length l.mates → Closes (nth l.mates) k)
