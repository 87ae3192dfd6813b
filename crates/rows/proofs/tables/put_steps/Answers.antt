-- `rows::tables::put_steps` meets its contract. The invariant: from `at` on the entries before j are the base's (`Written`); the last one is set after the
-- loop.
use native.Mathlib.Omega.{arith}
use mathlib.Core.Path.{refl}
use Rattle.rows.proofs.Pass.{pass_set}
use Rattle.rows.proofs.Passes as passes
use Rattle.rows.proofs.TableLaws as tables
use Rattle.rows.proofs.tables.put_steps.Goals as goal

pub loop-j-preserved : goal.loop-j-preserved
loop-j-preserved c =
    passes.set_at _ _ _ _ _ _ _ c.loop-j.invariant (omega arith) (omega (arith, c.loop-j-test.true))
    (passes.unit_step _ _ _ _ _ _ c.loop-j-test.true c.unit_entry.ensures)

pub returns : goal.returns
returns c =
    pass_set _ _ _ _ _ _ (tables.steps_end _ _ _ _ _ _ c.loop-j.invariant (omega arith) (omega (arith, c.loop-j-test.false))) (omega arith) (omega arith)
    (passes.unit_last _ _ _ _ _ _ (omega arith) refl)
