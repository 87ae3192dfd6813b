-- `rows::row::cut` meets its contract. The invariant: the entries from `at` on are the lesser of the row's and `to`, as far as at + j (`Written`); the row
-- itself lies before `at`, and stays.
use Prim.Native.Nat.{◌+◌, ◌-◌, min}
use Rattle.lists.specs.Vocabulary.{nth}
use Rattle.rows.specs.Rows.{Written}
use Rattle.rows.proofs.row.cut.Given as goal

abbrev pub invariant-loop-j : goal.invariant-loop-j
invariant-loop-j l = Written (λ k. min (nth l.initial.row (k - l.at)) l.to) l.initial.row l.row (l.at + l.from) (l.at + l.j)
