-- `window::search::Strands::least_end` meets its contract: the window to e carries the motif, and none that ends before a (`EndsAt`).
use Prim.Native.Nat.{◌-◌, ◌≤◌}
use mathlib.Core.Path.{◌≡◌}
use lib.ListN.{length}
use Rattle.window.specs.InStrands.{TablesIn, EndsIn}
use Rattle.window.proofs.search.Strands.least_end.Given as goal

abbrev pub invariant-loop-a : goal.invariant-loop-a
invariant-loop-a l = record {
  ends : EndsIn l.self l.lo l.a l.e;
  within : (l.low ≤ l.a) × (l.e ≤ l.most);
  tables_for : TablesIn l.self l.tables;
  work_room : length l.work ≡ length l.initial.work;
}

abbrev pub decreases-loop-a : goal.decreases-loop-a
decreases-loop-a l = l.e - l.a
