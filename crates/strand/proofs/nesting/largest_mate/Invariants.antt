-- `strand::nesting::largest_mate` meets its contract: none of the first i mates is above the largest so far.
use Prim.Native.Nat.{ℕ, ◌≤◌, ◌<◌}
use Rattle.lists.specs.Vocabulary.{nth}
use Rattle.strand.proofs.nesting.largest_mate.Given as goal

abbrev pub invariant-loop-mate : goal.invariant-loop-mate
invariant-loop-mate l = (k : ℕ) → k < l.mate-index → nth l.mates k ≤ l.largest
