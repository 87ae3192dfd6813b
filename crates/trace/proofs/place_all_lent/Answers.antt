-- `trace::place_all_lent` meets its contract: the tables are filled, with bounds for all starts, and the work slice has room
-- for every molecule (`levels_whole`).
use native.Mathlib.Omega.{arith}
use Rattle.placing.proofs.Top.{all_sealed}
use Rattle.placing.proofs.Levels.{levels_whole}
use Rattle.trace.proofs.place_all_lent.Goals as goal

pub place-requires : goal.place-requires
place-requires c =
    record {
      segment = (omega arith, omega arith, c.requires.setting.segment.same);
      lo_le_hi = omega arith;
      sealed = all_sealed c.requires.setting.molecule;
      to_in_bounds = c.requires.room;
      arc_levels = levels_whole _ _ _ c.requires.setting.molecule c.requires.setting.short (omega (arith, c.requires.work_room));
      all_starts = c.all_starts.ensures;
    }
