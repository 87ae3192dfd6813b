-- `rows::row::step` meets its contract. The invariant: the entries before j are taken on, those from j on as before (`Written`).
use Rattle.lists.specs.Vocabulary.{nth}
use Rattle.rows.specs.Rows.{Written}
use Rattle.rows.proofs.row.step.Given as goal

abbrev pub invariant-loop-j : goal.invariant-loop-j
invariant-loop-j l = Written (λ k. nth l.steps (nth l.initial.row k)) l.initial.row l.row l.from l.j
