-- `rows::tables::put_steps` meets its contract. The invariant: from `at` on the entries before j are the base's (`Written`); the last one is set after the
-- loop.
use Prim.Native.Nat.{◌+◌, ◌-◌}
use lib.ListN.{length}
use Rattle.lists.specs.Vocabulary.{nth}
use Rattle.embedding.specs.Row.{unit_at}
use Rattle.rows.specs.Rows.{Written, matches}
use Rattle.rows.proofs.tables.put_steps.Given as goal

abbrev pub invariant-loop-j : goal.invariant-loop-j
invariant-loop-j l = Written (λ k. unit_at (matches l.p l.b) (nth l.pm) (length l.p) (k - l.at)) l.initial.tables l.tables (l.at + 0)
    (l.at + l.j)
