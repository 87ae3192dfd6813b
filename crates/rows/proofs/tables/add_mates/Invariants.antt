-- `rows::tables::add_mates` meets its contract. The invariant: the entries before j have both classes, those from j on as before (`Written`).
use Rattle.rows.specs.Rows.{Written, classes_at}
use Rattle.rows.proofs.tables.add_mates.Given as goal

abbrev pub invariant-loop-j : goal.invariant-loop-j
invariant-loop-j l = Written (classes_at l.p l.pm) l.initial.tables l.tables 0 l.j
