-- `strand::key::key` meets its contract: the sum over the first i positions lacks what stands from i on, and stays small.
use Prim.Native.Nat.{◌*◌, ◌≤◌}
use mathlib.Core.Path.{◌≡◌}
use lib.ListN.{length}
use Rattle.strand.proofs.KeyLaws.{SummedTo}
use Rattle.strand.proofs.key.key.Given as goal

abbrev pub invariant-loop-i : goal.invariant-loop-i
invariant-loop-i l =
    (length l.bases ≤ 4096) × (length l.mates ≡ length l.bases) × SummedTo l.bases l.mates l.i l.sum × (l.sum ≤ 65790 * l.i)
