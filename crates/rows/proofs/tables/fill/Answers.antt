-- `rows::tables::fill` meets its contract: the classes and the four rows stand side by side, and each pass leaves the others as they are.
use native.Mathlib.Omega.{arith}
use Rattle.rows.proofs.TableLaws as tables
use Rattle.rows.proofs.tables.fill.Goals as goal

pub returns : goal.returns
returns c =
    tables.tables_made _ _ _ _ _ _ _ _ (λ i. omega (arith, c.shared_slice_known-1.given i))
    (omega (arith, c.requires.room, c.put_classes.ensures.long)) c.add_mates.ensures c.put_base.ensures
    c.put_base-2.ensures c.put_base-3.ensures c.put_base-4.ensures
