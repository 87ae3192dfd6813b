-- `window::search::Strands::search_lent` meets its contract: what the search knows holds at first and after each step (`Seek`), `low` rises, and
-- behind the molecule's
-- end, or where the best window has as many bases as the motif, the best is the tightest.
use Prim.Native.Nat.{◌+◌, ◌-◌}
use mathlib.Core.Path.{◌≡◌}
use lib.ListN.{length}
use Rattle.window.specs.InStrands.{TablesIn, SeekIn}
use Rattle.window.proofs.search.Strands.search_lent.Given as goal

abbrev pub invariant-loop-at : goal.invariant-loop-at
invariant-loop-at l = record {
  seek : SeekIn l.self l.at;
  tables_for : TablesIn l.self l.tables;
  work_room : length l.work ≡ length l.initial.work;
}

abbrev pub decreases-loop-at : goal.decreases-loop-at
decreases-loop-at l = length l.self.molecule.bases.now + length l.self.motif.bases.now + 2 - l.at.low
