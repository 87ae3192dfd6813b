-- `block::walk::weigh` meets its contract: the total has what the low bytes of the mates passed add, and `outside` is 0 exactly where they are in range.
use Prim.Native.Nat.{◌+◌, ◌*◌, ◌≤◌}
use mathlib.Core.Path.{◌≡◌}
use lib.ListN.{length}
use Rattle.block.specs.Walk.{low_sum}
use Rattle.block.proofs.WalkLaws.{Counted}
use Rattle.block.proofs.walk.weigh.Given as goal

abbrev pub invariant-loop-mate : goal.invariant-loop-mate
invariant-loop-mate l =
    (l.weight ≡ l.at + 2 * l.mate-index + 1) × (l.total ≡ l.sum + low_sum l.at l.mates l.mate-index) × (l.total ≤ 129540 * (l.at + 2 * l.mate-index))
    × Counted l.mates (length l.mates) l.mate-index l.outside
