-- `rows::row::copy_steps` meets its contract. The invariant: the entries before j are copied (`Written`).
use Rattle.lists.specs.Vocabulary.{nth}
use Rattle.rows.specs.Rows.{Written}
use Rattle.rows.proofs.row.copy_steps.Given as goal

abbrev pub invariant-loop-j : goal.invariant-loop-j
invariant-loop-j l = Written (nth l.steps) l.initial.row l.row l.from l.j
