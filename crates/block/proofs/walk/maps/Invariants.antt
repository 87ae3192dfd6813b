-- `block::walk::maps` meets its contract: the total has the bytes of both maps that have been passed, and `least` is 1 exactly where each hit byte lies
-- within its searched byte.
use Prim.Native.Nat.{◌+◌, ◌*◌, ◌≤◌}
use mathlib.Core.Path.{◌≡◌}
use Rattle.lists.specs.Vocabulary.{every, choose}
use Rattle.block.proofs.SoundLaws.{hit_byte}
use Rattle.block.proofs.WalkLaws.{MapsPassed}
use Rattle.block.proofs.walk.maps.Given as goal

abbrev pub invariant-loop-i : goal.invariant-loop-i
invariant-loop-i l =
    MapsPassed l.s l.i l.total × (l.total ≤ 129540 * (380 + 2 * l.i)) × (l.least ≡ choose (every l.i (hit_byte l.s)) 1 0)
