-- `rows::row::over` meets its contract. The invariant: past `at` the entries before j are what the arc takes with its left end (`Written`); the row that is
-- read lies before `at`.
use mathlib.Core.Path.{◌∙◌}
use native.Mathlib.Omega.{arith}
use Rattle.rows.proofs.Passes as passes
use Rattle.rows.proofs.TableLaws.{own_match, mate_match}
use Rattle.rows.proofs.row.over.Goals as goal

pub loop-j-preserved : goal.loop-j-preserved
loop-j-preserved c =
    passes.set_at _ _ _ _ _ _ _ c.loop-j.invariant c.loop-j.auto.j (omega (arith, c.loop-j-test.true)) (passes.over_step _ _ _ _ _ _
    _ _ _ _ c.loop-j.invariant (omega (arith, c.loop-j-test.true)) (omega arith) _ _
    (own_match c.args.motif.now.made _ c.args.x _ (omega arith) (c.from-left.ensures ∙ c.letter_class.ensures))
    (mate_match c.args.motif.now.made _ c.args.y _ (omega arith) (c.from-right.ensures ∙ c.letter_class-2.ensures)) c.over_entry.ensures)
