-- `placing::take::take_at` meets its contract: the inner row for a segment as long as the arc says what the arc takes (`taken_at`).
use native.Mathlib.Omega.{arith}
use Rattle.arcs.proofs.BoundLaws.{starts_row}
use Rattle.arcs.proofs.Arcs.{room_any}
use Rattle.arcs.proofs.Pairs.{setting_of}
use Rattle.placing.proofs.Top.{segment_high}
use Rattle.placing.proofs.Descent.{taken_at}
use Rattle.placing.proofs.take.take_at.Goals as goal

pub inner_row-requires-clause-room : goal.inner_row-requires-clause-room
inner_row-requires-clause-room c = room_any (omega (arith, c.args.pair.now.sound.short, c.requires.l_lt_r)) c.requires.room

pub returns-clause-taken : goal.returns-clause-taken
returns-clause-taken c =
    let S = setting_of c.args.pair.now c.requires.segment in
    let L = c.requires.l_lt_r in
    let H = segment_high _ _ _ S c.requires.from_lt_to.0 c.min-end.ensures L.0 L.1.0 L.1.1 in
    taken_at _ _ _ _ S c.requires.from_lt_to.0 c.min-end.ensures L.0 L.1.0 L.1.1
    (starts_row c.requires.all_starts (omega (arith, H, c.requires.segment)) (omega (arith, L)) c.inner_row.ensures) c.write_take.ensures.takes
