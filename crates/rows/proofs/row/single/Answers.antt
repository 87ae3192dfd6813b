-- `rows::row::single` meets its contract: the base's row in the tables is copied, and its last entry cut at `to`.
use native.Mathlib.Omega.{arith}
use mathlib.Core.Path.{◌∙◌}
use Rattle.rows.proofs.Pass.{pass_set, pass_as}
use Rattle.rows.proofs.TableLaws as tables
use Rattle.rows.proofs.row.single.Goals as goal

pub copy_steps-requires : goal.copy_steps-requires
copy_steps-requires c =
    record {
      from_le_end = (omega arith, (omega arith, omega arith));
      steps = tables.steps_of _ _ _ _ _ _ c.args.motif.now.made c.requires.b_letter c.steps_at-at.ensures.0 (omega arith);
    }

pub returns : goal.returns
returns c =
    pass_set _ _ _ _ _ _ (pass_as _ _ _ _ _ _ c.copy_steps.ensures
    (λ k h. tables.step_unit _ _ _ _ _ _ c.args.motif.now.made c.requires.b_letter c.steps_at-at.ensures.0 c.requires.segment.1 k
    (omega (arith, c.requires.from_le_last)))) (omega arith) (omega arith) (c.min.ensures
    ∙ tables.step_capped _ _ _ _ _ _ c.args.motif.now.made c.requires.b_letter c.steps_at-at.ensures.0 c.requires.segment.1 _
    c.requires.from_le_last.1)
