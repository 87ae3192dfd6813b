-- `rows::row::close_arc` meets its contract: one pass, or three passes over whole rows, leave the entries of the arc (`remade_short`, `remade`).
use native.Mathlib.Omega.{arith}
use Rattle.rows.proofs.Parts.{part}
use Rattle.rows.proofs.Passes as passes
use Rattle.rows.proofs.TableLaws as law
use Rattle.rows.proofs.row.close_arc.Goals as goal

pub close_short-requires-clause-steps : goal.close_short-requires-clause-steps
close_short-requires-clause-steps c = law.steps_of _ _ _ _ _ _ c.args.motif.now.made c.requires.y_letter c.steps_at-at.ensures.0 c.requires.segment.1

pub returns-then-end-from : goal.returns-then-end-from
returns-then-end-from c =
    passes.remade_short _ _ _ _ _ _ _ (part c.steps_at-at.result c.args.motif.now.tables.now)
    (law.step_capped _ _ _ _ _ _ c.args.motif.now.made c.requires.y_letter c.steps_at-at.ensures.0 c.requires.segment.1)
    c.min-end.ensures _ _ c.requires.by_index c.close_short.ensures

pub returns : goal.returns
returns c =
    passes.remade _ _ _ _ _ _ _ (part c.steps_at-at.result c.args.motif.now.tables.now)
    (law.step_capped _ _ _ _ _ _ c.args.motif.now.made c.requires.y_letter c.steps_at-at.ensures.0 c.requires.segment.1)
    c.min-end.ensures _ _ _ _ _ (omega (arith, c.requires.segment.1)) c.requires.by_index c.over.ensures
    c.step.ensures c.raise.ensures
