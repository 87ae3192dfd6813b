-- `rows::row::over` meets its contract. The invariant: past `at` the entries before j are what the arc takes with its left end (`Written`); the row that is
-- read lies before `at`.
use Prim.Native.Nat.{◌+◌, ◌-◌}
use Rattle.lists.specs.Vocabulary.{nth}
use Rattle.embedding.specs.Row.{over_at}
use Rattle.rows.specs.Rows.{Written, matches}
use Rattle.rows.proofs.row.over.Given as goal

abbrev pub invariant-loop-j : goal.invariant-loop-j
invariant-loop-j l = Written (λ k. over_at (matches l.motif.bases.now l.x) (matches l.motif.bases.now l.y) (nth l.motif.mates.now) l.to
    (nth l.initial.row (k - l.at + 1)) (k - l.at)) l.initial.row l.row
    (l.at + l.from) (l.at + l.j)
