-- `rows::row::close_short` meets its contract. The invariant: the entries before j are the arc's, those from j on as before (`Written`).
use mathlib.Core.Path.{◌∙◌}
use native.Mathlib.Omega.{arith}
use Rattle.lists.specs.Vocabulary.{nth}
use Rattle.rows.specs.Rows.{matches}
use Rattle.rows.proofs.Pass.{pass_set}
use Rattle.rows.proofs.Passes as passes
use Rattle.rows.proofs.TableLaws.{own_match, mate_match}
use Rattle.rows.proofs.row.close_short.Goals as goal

pub loop-j-preserved : goal.loop-j-preserved
loop-j-preserved c =
    pass_set _ _ _ _ _ _ c.loop-j.invariant c.loop-j.auto.j (omega (arith, c.loop-j-test.true, c.requires.from_le_end)) (passes.short_step
    (matches c.args.motif.now.bases.now c.args.x) (matches c.args.motif.now.bases.now c.args.y) (nth c.args.motif.now.mates.now)
    c.args.to c.args.steps.now c.args.row.now c.loop-j.row c.args.from c.loop-j.j
    c.loop-j.invariant _ _ _ _ _ (omega (arith, c.loop-j-test.true, c.requires.from_le_end)) c.capped-both.ensures
    (own_match c.args.motif.now.made c.loop-j.j c.args.x _
    (omega (arith, c.loop-j-test.true, c.requires.from_le_end, c.requires.segment.1)) (c.from-left.ensures ∙ c.letter_class.ensures))
    (mate_match c.args.motif.now.made c.loop-j.j c.args.y _
    (omega (arith, c.loop-j-test.true, c.requires.from_le_end, c.requires.segment.1)) (c.from-right.ensures ∙ c.letter_class-2.ensures))
    c.over_entry-over.ensures c.max.ensures)
