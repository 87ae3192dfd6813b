-- `arcs::flat_row` meets its contract. The invariant: the row is that of Q[i..hi); a base put in front makes it that of Q[i - 1..hi) (`front_row`). Every row
-- has the starts up to the bound where its stretch begins, which is no earlier than `from` (`starts`).
use Prim.Native.Nat.{◌≤◌}
use Rattle.arcs.specs.Pairs.{RowIn}
use Rattle.arcs.proofs.flat_row.Given as goal

abbrev pub invariant-loop-i : goal.invariant-loop-i
invariant-loop-i l = (l.lo ≤ l.i) × RowIn l.pair l.from l.to l.i l.hi l.work
