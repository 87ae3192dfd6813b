-- `placing::path::keep` meets its contract: the kept row, cut to the segment, is the first row of the slice that is handed to the walk over the arcs.
use Prim.Native.Nat.{◌+◌}
use native.Mathlib.Omega.{arith}
use lib.ListN.{length}
use Rattle.arcs.proofs.Made.{cut_kept_row}
use Rattle.arcs.proofs.BoundLaws.{starts_row}
use Rattle.placing.proofs.Descent.{room_rest, ready}
use Rattle.placing.proofs.path.keep.Goals as goal

pub inner_row-requires-clause-room : goal.inner_row-requires-clause-room
inner_row-requires-clause-room c =
    room_rest _ _ _ _ c.cut.new.row c.args.pair.now.sound.short c.requires.l_lt_r.1.0 (omega (arith, c.requires.room, c.cut.auto.row))

pub inner_row-requires-clause-kept_row : goal.inner_row-requires-clause-kept_row
inner_row-requires-clause-kept_row c =
    let K = c.requires.kept_around in
    cut_kept_row (length c.args.pair.now.motif.bases.now + 1) c.args.work.now c.cut.new.row K.low K.high c.requires.closed
    (omega (arith, c.requires.room, c.cut.auto.row)) K.first_row c.cut.ensures

pub returns : goal.returns
returns c =
    ready c.inner_row.new.work (omega (arith, c.requires.room, c.cut.auto.row)) c.cut.ensures
    (starts_row c.requires.all_starts c.requires.segment.1 (omega (arith, c.requires.l_lt_r)) c.inner_row.ensures)
