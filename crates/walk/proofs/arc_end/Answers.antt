-- `walk::arc_end` meets its contract: where the bound behind the arc is `from`, the arc takes nothing (`arc_skipped`); else the inner row tells
-- (`arc_ends`).
use Prim.Native.Nat.{◌+◌}
use native.Mathlib.Omega.{arith}
use Rattle.arcs.proofs.Pairs.{rest_of, rest_setting}
use Rattle.arcs.proofs.Made.{bounded_within, starts, letter_at, no_kept_row}
use Rattle.walk.proofs.Whole.{room_whole, arc_skipped, arc_ends}
use Rattle.walk.proofs.arc_end.Goals as goal

pub returns-then-most-from : goal.returns-then-most-from
returns-then-most-from c =
    arc_skipped c.requires.bounded.0 c.requires.l_lt_r.0 c.args.pair.now.motif.mates.now c.args.pair.now.qm.now _
    c.requires.bounded.1 c.if-most-from.true (omega (arith, c.requires.from_in_bounds))

pub inner_row-requires : goal.inner_row-requires
inner_row-requires c =
    record {
      segment = rest_of c.args.pair.now (omega (arith, c.requires.from_in_bounds));
      l_lt_r = c.requires.l_lt_r;
      room = room_whole _ _ _ _ _ c.args.pair.now.sound.short c.requires.l_lt_r.1.0 c.requires.work_room;
      bounded = bounded_within c.requires.bounded.0 _ _ (omega arith) (omega (arith, c.requires.l_lt_r.0)) (omega arith);
      kept_row = no_kept_row _;
    }

pub arc_entry-requires : goal.arc_entry-requires
arc_entry-requires c =
    let S = rest_setting c.args.pair.now {from = c.args.from} (omega (arith, c.requires.from_in_bounds)) in
    record {
      pm_len = c.args.pair.now.sound.same;
      from_in_bounds = (
        c.requires.from_in_bounds,
        (c.inner_row.ensures.is.best _ (omega arith) (starts (bounded_within c.requires.bounded.0 (c.args.l + 1)
            c.args.r (omega arith) (omega (arith, c.requires.l_lt_r.0)) (omega arith)) _ (omega (arith, c.requires.from_in_bounds)) (omega arith)
            (omega arith))).reach.upto,
      );
      y_letter = letter_at S _ c.requires.l_lt_r.1.0;
    }

pub returns : goal.returns
returns c =
    let S = rest_setting c.args.pair.now {from = c.args.from} (omega (arith, c.requires.from_in_bounds)) in
    rw c.arc_entry.ensures (arc_ends c.requires.bounded.0 c.requires.l_lt_r.0 S c.requires.from_in_bounds
    c.requires.l_lt_r.1.0 c.requires.l_lt_r.1.1 c.inner_row.ensures)
