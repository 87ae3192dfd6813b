-- `arcs::inner_row`, `stretch_row` and `prepend`, which call each other, meet their contracts. The measure is the length of the stretch: every call goes to a
-- shorter one. inner_row closes the longest arc's row and puts what lies behind it and before it beside (`right_row`, `prepended_row`); without an arc it is
-- the row of flat_row (`no_arcs`). stretch_row makes the row of the last base or arc (`single_row`, `arc_front`) and puts the rest before it. prepend's
-- invariant: the row is the old one with Q[i..hi) in front, and no arc leaves Q[lo..i); `prepend_front` and `prepend_step` put one more base or arc in front.
-- Every row has the starts up to the bound where its stretch begins; `bounded_within` hands the bounds on.
use Prim.Native.Nat.{◌-◌, ◌≤◌}
use Rattle.arcs.specs.Arcs.{Sealed}
use Rattle.arcs.specs.Pairs.{PutBefore}
use Rattle.arcs.proofs.+inner_row_prepend_stretch_row.Given as goal

abbrev pub decreases-inner_row : goal.decreases-inner_row
decreases-inner_row l = l.r - l.l

abbrev pub decreases-prepend : goal.decreases-prepend
decreases-prepend l = l.hi - l.lo

abbrev pub decreases-stretch_row : goal.decreases-stretch_row
decreases-stretch_row l = l.hi - l.lo

abbrev pub invariant-prepend-loop-i : goal.invariant-prepend-loop-i
invariant-prepend-loop-i l =
    (l.lo ≤ l.i) × (l.i ≤ l.hi) × Sealed l.pair.qm.now l.lo l.i × PutBefore l.pair l.from l.to l.i l.hi l.initial.work l.work

abbrev pub decreases-prepend-loop-i : goal.decreases-prepend-loop-i
decreases-prepend-loop-i l = l.i - l.lo
