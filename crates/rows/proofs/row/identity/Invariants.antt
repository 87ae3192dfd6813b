-- `rows::row::identity` meets its contract. The invariant: each entry before j is its own index (`Written`).
use Rattle.rows.specs.Rows.{Written}
use Rattle.rows.proofs.row.identity.Given as goal

abbrev pub invariant-loop-j : goal.invariant-loop-j
invariant-loop-j l = Written (λ k. k) l.initial.row l.row l.from l.j
