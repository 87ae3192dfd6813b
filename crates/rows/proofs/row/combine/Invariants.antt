-- `rows::row::combine` meets its contract. The invariant: the entries before j are looked up, those from j on as before (`Written`). What is read is not yet
-- written: the first row's entry for j stands at j or later, and its value is j or more.
use Prim.Native.Nat.{◌+◌}
use Rattle.lists.specs.Vocabulary.{nth}
use Rattle.rows.specs.Rows.{Written}
use Rattle.rows.proofs.row.combine.Given as goal

abbrev pub invariant-loop-j : goal.invariant-loop-j
invariant-loop-j l = Written (λ k. nth l.initial.row (l.then + nth l.initial.row (l.first + k))) l.initial.row l.row
    l.from l.j
