-- `rows::row::extend_by` meets its contract. The invariant: the entries before j are looked up where the base's row leads, j or j + 1 (`Written`); both are
-- not yet written.
use Rattle.lists.specs.Vocabulary.{nth}
use Rattle.rows.specs.Rows.{Written}
use Rattle.rows.proofs.row.extend_by.Given as goal

abbrev pub invariant-loop-j : goal.invariant-loop-j
invariant-loop-j l = Written (λ k. nth l.initial.row (nth l.steps k)) l.initial.row l.row l.from l.j
