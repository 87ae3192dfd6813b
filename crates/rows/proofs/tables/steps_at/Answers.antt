-- `rows::tables::steps_at` meets its contract: the product is that of `steps_at`, and two bits are below 4.
use mathlib.Core.Path.{refl}
use Rattle.rows.specs.Rows.{steps_at}
use Rattle.rows.proofs.TableLaws as tables
use Rattle.rows.proofs.tables.steps_at.Goals as goal

pub returns : goal.returns
unfolding steps_at
returns c = (refl, tables.steps_within _ _)
