-- `rows::row::raise` meets its contract. The invariant: the entries before j are raised, those from j on and the row at `at` as before (`Written`).
use Prim.Native.Nat.{◌+◌, min, max}
use Rattle.lists.specs.Vocabulary.{nth}
use Rattle.rows.specs.Rows.{Written}
use Rattle.rows.proofs.row.raise.Given as goal

abbrev pub invariant-loop-j : goal.invariant-loop-j
invariant-loop-j l = Written (λ k. max (min (nth l.initial.row k) l.to) (nth l.initial.row (l.at + k))) l.initial.row l.row
    l.from l.j
