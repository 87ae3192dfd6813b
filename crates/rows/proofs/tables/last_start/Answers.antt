-- `rows::tables::last_start` meets its contract: the bound is read where `bound_at` has it.
use native.Mathlib.Omega.{arith}
use Rattle.rows.specs.Rows.{bound_at}
use Rattle.rows.proofs.tables.last_start.Goals as goal

pub returns : goal.returns
unfolding bound_at
returns c = omega (arith, c.min.ensures)
