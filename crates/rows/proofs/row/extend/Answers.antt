-- `rows::row::extend` meets its contract: the base's row in the tables says where it takes each start.
use Prim.Native.Nat.{ℕ}
use native.Mathlib.Omega.{arith}
use mathlib.Core.Path.{ap}
use Rattle.lists.specs.Vocabulary.{nth}
use Rattle.rows.proofs.Pass.{pass_as, pass_end}
use Rattle.rows.proofs.TableLaws as tables
use Rattle.rows.proofs.Parts.{part}
use Rattle.rows.proofs.row.extend.Goals as goal

pub extend_by-requires-clause-steps : goal.extend_by-requires-clause-steps
extend_by-requires-clause-steps c = tables.steps_of _ _ _ _ _ _ c.args.motif.now.made c.requires.b_letter c.steps_at-at.ensures.0 (omega arith)

pub returns : goal.returns
returns c =
    pass_end _ _ _ _ _ _ (pass_as (λ (j : ℕ). nth c.args.row.now (nth (part c.steps_at-at.result c.args.motif.now.tables.now) j)) _ _ _
    _ _ c.extend_by.ensures (λ k h. ap (nth c.args.row.now) (tables.step_unit _ _ _ _ _ _ c.args.motif.now.made
    c.requires.b_letter c.steps_at-at.ensures.0 c.requires.segment.1 k (omega (arith, c.min-end.ensures)))))
    (omega (arith, c.min-end.ensures)) (omega (arith, c.min-end.ensures))
