-- `trace::place`, `place_arc`, `enter`, `past`, `along` and `descend`, which call each other, meet their contracts. The measure is 8192 times the length of
-- the stretch and a small rank for each function; along's rank falls with the kept arc, which moves towards l. place's invariant: Q[lo..l) takes the motif to
-- j and no further, and its places are laid. The others put places together by the laws of `LaidBut` (`but_take`, `but_rest`, `but_but`, `but_after`).
use mathlib.Core.Path.{◌≡◌}
use Prim.Native.Nat.{◌+◌, ◌-◌, ◌*◌}
use lib.ListN.{length}
use Rattle.placing.specs.Placing.{Walked}
use Rattle.placing.specs.Pairs.{LaidIn}
use Rattle.trace.proofs.+along_descend_enter_past_place_place_arc.Given as goal

abbrev pub decreases-along : goal.decreases-along
decreases-along l = 8192 * (l.hi - l.l) + 2 + (l.kept - l.l)

abbrev pub decreases-descend : goal.decreases-descend
decreases-descend l = 8192 * (l.hi - l.lo) + 4100

abbrev pub decreases-enter : goal.decreases-enter
decreases-enter l = 8192 * (l.r + 1 - l.l)

abbrev pub decreases-past : goal.decreases-past
decreases-past l = 8192 * (l.hi - l.l) + 1

abbrev pub decreases-place : goal.decreases-place
decreases-place l = 8192 * (l.hi - l.lo)

abbrev pub decreases-place_arc : goal.decreases-place_arc
decreases-place_arc l = 8192 * (l.r - l.l)

abbrev pub invariant-place-loop-l : goal.invariant-place-loop-l
invariant-place-loop-l l = record {
  walked : Walked l.pair.motif.bases.now l.pair.motif.mates.now l.pair.q.now l.pair.qm.now l.to l.from l.lo l.hi l.j l.l;
  laid : LaidIn l.pair l.from l.j l.lo l.l l.initial.places l.places;
  work_room : length l.work ≡ length l.initial.work;
}

abbrev pub decreases-place-loop-l : goal.decreases-place-loop-l
decreases-place-loop-l l = l.hi - l.l
