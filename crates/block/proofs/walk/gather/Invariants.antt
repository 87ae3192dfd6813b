-- `block::walk::gather` meets its contract: the total is the sum over the bytes passed, and at most 129,540 for each, so 32 bits hold it.
use Prim.Native.Nat.{◌+◌, ◌*◌, ◌≤◌}
use mathlib.Core.Path.{◌≡◌}
use Rattle.block.specs.Content.{sum_to}
use Rattle.block.proofs.walk.gather.Given as goal

abbrev pub invariant-loop-b : goal.invariant-loop-b
invariant-loop-b l = (l.place ≡ l.a + l.b-index) × (l.total ≡ sum_to l.s (l.a + l.b-index)) × (l.total ≤ 129540 * (l.a + l.b-index))
