-- `rows::row::close_short` meets its contract. The invariant: the entries before j are the arc's, those from j on as before (`Written`).
use Prim.Native.Nat.{◌+◌, min, max}
use Rattle.lists.specs.Vocabulary.{nth}
use Rattle.embedding.specs.Row.{over_at}
use Rattle.rows.specs.Rows.{Written, matches}
use Rattle.rows.proofs.row.close_short.Given as goal

abbrev pub invariant-loop-j : goal.invariant-loop-j
invariant-loop-j l = Written (λ k. max (min (nth l.steps (nth l.initial.row k)) l.to)
    (over_at (matches l.motif.bases.now l.x) (matches l.motif.bases.now l.y) (nth l.motif.mates.now) l.to (nth l.initial.row (k + 1)) k))
    l.initial.row l.row l.from l.j
