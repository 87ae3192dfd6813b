-- `window::search::Strands::last_start` meets its contract: the window from s carries the motif, and none from behind b (`StartsAt`).
use Prim.Native.Nat.{◌-◌, ◌≤◌}
use mathlib.Core.Path.{◌≡◌}
use lib.ListN.{length}
use Rattle.window.specs.InStrands.{TablesIn, StartsIn}
use Rattle.window.proofs.search.Strands.last_start.Given as goal

abbrev pub invariant-loop-s : goal.invariant-loop-s
invariant-loop-s l = record {
  starts : StartsIn l.self l.s l.b l.hi;
  within : (l.first ≤ l.s) × (l.b ≤ l.last);
  tables_for : TablesIn l.self l.tables;
  work_room : length l.work ≡ length l.initial.work;
}

abbrev pub decreases-loop-s : goal.decreases-loop-s
decreases-loop-s l = l.b - l.s
