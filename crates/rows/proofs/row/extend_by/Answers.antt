-- `rows::row::extend_by` meets its contract. The invariant: the entries before j are looked up where the base's row leads, j or j + 1 (`Written`); both are
-- not yet written.
use native.Mathlib.Omega.{arith}
use Rattle.rows.proofs.Pass.{pass_set}
use Rattle.rows.proofs.TableLaws as tables
use Rattle.rows.proofs.row.extend_by.Goals as goal

pub loop-j-preserved : goal.loop-j-preserved
loop-j-preserved c =
    pass_set _ _ _ _ _ _ c.loop-j.invariant c.loop-j.auto.j (omega arith)
    (tables.extend_step _ _ _ _ _ _ _ c.requires.steps c.loop-j.invariant c.loop-j-test.true c.extend_entry.ensures)
