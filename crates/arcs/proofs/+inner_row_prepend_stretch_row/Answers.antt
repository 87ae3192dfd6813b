-- `arcs::inner_row`, `stretch_row` and `prepend`, which call each other, meet their contracts. The measure is the length of the stretch: every call goes to a
-- shorter one. inner_row closes the longest arc's row and puts what lies behind it and before it beside (`right_row`, `prepended_row`); without an arc it is
-- the row of flat_row (`no_arcs`). stretch_row makes the row of the last base or arc (`single_row`, `arc_front`) and puts the rest before it. prepend's
-- invariant: the row is the old one with Q[i..hi) in front, and no arc leaves Q[lo..i); `prepend_front` and `prepend_step` put one more base or arc in front.
-- Every row has the starts up to the bound where its stretch begins; `bounded_within` hands the bounds on.
use mathlib.Core.Path.{◌≡◌, sym, ap, ◌∙◌}
use Prim.Native.Nat.{◌+◌, ◌-◌, ◌*◌, ◌≤◌, ◌<◌}
use native.Mathlib.Omega.{arith}
use lib.ListN.{length}
use Rattle.embedding.proofs.Rows.{row_from}
use Rattle.rows.specs.Rows.{last_at}
use Rattle.rows.proofs.Parts.{part_length, back_length}
use Rattle.arcs.proofs.Arcs.{room_less, room_one, room_child, room_more, room_light, room_past, light_one, light_at}
use Rattle.arcs.proofs.Arcs.{split_sealed, around, back_of}
use Rattle.arcs.proofs.Pairs.{setting_of}
use Rattle.arcs.proofs.Made.{bounded_within, starts, letter_at, no_kept_row, row_at, row_to, row_is, right_row, single_row, prepend_none}
use Rattle.arcs.proofs.Made.{prepend_step, closed_row, inner_from, prepended_row, prepend_front, arc_front, range_over, range_under, looked}
use Rattle.arcs.proofs.+inner_row_prepend_stretch_row.Goals as goal
use Rattle.arcs.proofs.+inner_row_prepend_stretch_row.Goals.{inner_row-then-heavy_r-r, inner_row-else-heavy_r-r, stretch_row-then-l-r, stretch_row-else-l-r}

pub inner_row-inner_row-requires : goal.inner_row-inner_row-requires
inner_row-inner_row-requires t c =
    let A = around c.args.pair.now.sound.molecule c.requires.l_lt_r.0 c.requires.l_lt_r.1.0 c.requires.l_lt_r.1.1
    c.heaviest-heavy_l.ensures c.if-r-heavy_l.false c.mate-heavy_r.ensures in (
      omega (arith, c.decreases, A.low, A.up, A.end),
      (
        c.requires.segment,
        (
          (A.up, (A.inside, A.mate)),
          (
            room_less _ _ (omega (arith, A.low, A.up, A.end)) c.requires.room,
            (
              bounded_within c.requires.bounded _ _ (omega (arith, A.low)) (omega (arith, A.up)) (omega (arith, A.end)),
              c.requires.kept_row,
            ),
          ),
        ),
      ),
    )

pub inner_row-close-requires : goal.inner_row-close-requires
inner_row-close-requires t c =
    let A = around c.args.pair.now.sound.molecule c.requires.l_lt_r.0 c.requires.l_lt_r.1.0 c.requires.l_lt_r.1.1
    c.heaviest-heavy_l.ensures c.if-r-heavy_l.false c.mate-heavy_r.ensures in
    let D = bounded_within c.requires.bounded c.heaviest-heavy_l.result c.mate-heavy_r.result A.low (omega (arith, A.up))
    (omega (arith, A.end)) in record {
      segment = c.requires.segment;
      l_lt_r = (A.up, A.inside);
      l_room = (omega (arith, D.room, A.up), D.start);
      room = omega (arith, room_one c.requires.room, c.inner_row.auto.work);
      by_index = inner_from D.bounds A.up c.inner_row.ensures;
    }

pub inner_row-stretch_row-requires : goal.inner_row-stretch_row-requires
inner_row-stretch_row-requires t c =
    let A = around c.args.pair.now.sound.molecule c.requires.l_lt_r.0 c.requires.l_lt_r.1.0 c.requires.l_lt_r.1.1
    c.heaviest-heavy_l.ensures c.if-r-heavy_l.false c.mate-heavy_r.ensures in
    let long : 2 * (length c.args.pair.now.motif.bases.now + 1) ≤ length c.close.new.work = omega (
      arith,
      c.close.auto.work,
      c.inner_row.auto.work,
      room_one c.requires.room,
    ) in (
      omega (arith, c.decreases, A.low, A.up, A.end),
      (
        c.requires.segment,
        (
          omega (arith, c.if-heavy_r-r.true, c.requires.l_lt_r.1.0),
          (
            A.right,
            (
              light_at (room_past _ _ _ c.requires.room A.light_r c.requires.l_lt_r.0) (omega (
                arith,
                part_length (length c.args.pair.now.motif.bases.now + 1) c.close.new.work (omega (arith, long)),
                c.close.auto.work,
                c.inner_row.auto.work,
              )),
              bounded_within c.requires.bounded _ _ (omega (arith, A.low, A.up)) (omega (arith, A.end)) (omega arith),
            ),
          ),
        ),
      ),
    )

pub inner_row-combine-requires : goal.inner_row-combine-requires
inner_row-combine-requires t c =
    let A = around c.args.pair.now.sound.molecule c.requires.l_lt_r.0 c.requires.l_lt_r.1.0 c.requires.l_lt_r.1.1
    c.heaviest-heavy_l.ensures c.if-r-heavy_l.false c.mate-heavy_r.ensures in
    let D = bounded_within c.requires.bounded c.heaviest-heavy_l.result c.mate-heavy_r.result A.low (omega (arith, A.up))
    (omega (arith, A.end)) in
    let long : 2 * (length c.args.pair.now.motif.bases.now + 1) ≤ length c.close.new.work = omega (
      arith,
      c.close.auto.work,
      c.inner_row.auto.work,
      room_one c.requires.room,
    ) in
    let F = closed_row _ _ (setting_of c.args.pair.now c.requires.segment) A.up A.inside A.mate D.bounds c.inner_row.ensures c.close.ensures in
    let L = back_length (length c.args.pair.now.motif.bases.now + 1) c.close.new.work (omega (arith, long))
    c.stretch_row.new.work c.stretch_row.auto.work in record {
      from_le_last = (
        omega (arith, c.last_start-last.ensures, c.requires.segment.0, D.start),
        (
          omega (arith, c.last_start-last.ensures, c.requires.segment.1, c.args.pair.now.motif.small),
          omega (arith, c.last_start-last.ensures, c.requires.segment.1, long, L),
        ),
      );
      by_index = rw c.last_start-last.ensures (range_under (length c.args.pair.now.motif.bases.now + 1) c.close.new.work
          c.stretch_row.new.work (omega (arith, long)) (omega (arith, c.requires.segment.1))
          (omega arith) (omega (arith, c.requires.segment.1, long, L)) F.is);
    }

pub inner_row-prepend-requires : goal.inner_row-prepend-requires
inner_row-prepend-requires t c =
    let A = around c.args.pair.now.sound.molecule c.requires.l_lt_r.0 c.requires.l_lt_r.1.0 c.requires.l_lt_r.1.1
    c.heaviest-heavy_l.ensures c.if-r-heavy_l.false c.mate-heavy_r.ensures in
    let long : 2 * (length c.args.pair.now.motif.bases.now + 1) ≤ length c.close.new.work = omega (
      arith,
      c.close.auto.work,
      c.inner_row.auto.work,
      room_one c.requires.room,
    ) in
    let same : length c.if-heavy_r-r.work ≡ length c.args.work.now = elim c.if-heavy_r-r.branch [
      | inner_row-then-heavy_r-r b ↦
          ap length b.work-is ∙ b.combine.auto.row ∙ back_length (length c.args.pair.now.motif.bases.now + 1) c.close.new.work
          (omega (arith, long)) b.stretch_row.new.work b.stretch_row.auto.work
          ∙ c.close.auto.work ∙ c.inner_row.auto.work
      | inner_row-else-heavy_r-r b ↦ ap length b.work-is ∙ c.close.auto.work ∙ c.inner_row.auto.work
    ] in (
      omega (arith, c.decreases, A.low, A.up, A.end),
      (
        c.requires.segment,
        (
          omega (arith, A.low, A.up, A.end, c.requires.l_lt_r.1.0),
          (
            A.left,
            (
              light_at (room_light _ _ _ c.requires.room A.light_l c.requires.l_lt_r.0) same,
              bounded_within c.requires.bounded _ _ (omega arith) A.low (omega (arith, A.up, A.end)),
            ),
          ),
        ),
      ),
    )

pub inner_row-returns-then-l-heavy_l : goal.inner_row-returns-then-l-heavy_l
inner_row-returns-then-l-heavy_l t c =
    let A = around c.args.pair.now.sound.molecule c.requires.l_lt_r.0 c.requires.l_lt_r.1.0 c.requires.l_lt_r.1.1
    c.heaviest-heavy_l.ensures c.if-r-heavy_l.false c.mate-heavy_r.ensures in
    let D = bounded_within c.requires.bounded c.heaviest-heavy_l.result c.mate-heavy_r.result A.low (omega (arith, A.up))
    (omega (arith, A.end)) in
    let long : 2 * (length c.args.pair.now.motif.bases.now + 1) ≤ length c.close.new.work = omega (
      arith,
      c.close.auto.work,
      c.inner_row.auto.work,
      room_one c.requires.room,
    ) in
    let F = closed_row _ _ (setting_of c.args.pair.now c.requires.segment) A.up A.inside A.mate D.bounds c.inner_row.ensures c.close.ensures in
    prepended_row A.low (omega (arith, A.up, A.end)) A.split_l
    (bounded_within c.requires.bounded _ _ (omega arith) A.low (omega (arith, A.up, A.end))).bounds
    (elim c.if-heavy_r-r.branch [
      | inner_row-then-heavy_r-r b ↦
          row_is b.work-is (right_row (length c.args.pair.now.motif.bases.now + 1) c.close.new.work b.stretch_row.new.work b.combine.new.row A
          c.requires.bounded (omega (arith, long)) (omega (arith, c.requires.segment.1)) F b.stretch_row.ensures
          (rw b.last_start-last.ensures at b.combine.ensures))
      | inner_row-else-heavy_r-r b ↦ row_is b.work-is (row_to (omega (arith, A.end, b.if-heavy_r-r.false)) F)
    ])
    c.prepend.ensures

pub inner_row-returns-else-l-heavy_l : goal.inner_row-returns-else-l-heavy_l
inner_row-returns-else-l-heavy_l t c =
    let A = around c.args.pair.now.sound.molecule c.requires.l_lt_r.0 c.requires.l_lt_r.1.0 c.requires.l_lt_r.1.1
    c.heaviest-heavy_l.ensures c.if-r-heavy_l.false c.mate-heavy_r.ensures in
    let D = bounded_within c.requires.bounded c.heaviest-heavy_l.result c.mate-heavy_r.result A.low (omega (arith, A.up))
    (omega (arith, A.end)) in
    let long : 2 * (length c.args.pair.now.motif.bases.now + 1) ≤ length c.close.new.work = omega (
      arith,
      c.close.auto.work,
      c.inner_row.auto.work,
      room_one c.requires.room,
    ) in
    let F = closed_row _ _ (setting_of c.args.pair.now c.requires.segment) A.up A.inside A.mate D.bounds c.inner_row.ensures c.close.ensures in
    row_at (omega (arith, A.low, c.if-l-heavy_l.false)) (elim c.if-heavy_r-r.branch [
      | inner_row-then-heavy_r-r b ↦
          row_is b.work-is (right_row (length c.args.pair.now.motif.bases.now + 1) c.close.new.work b.stretch_row.new.work b.combine.new.row A
          c.requires.bounded (omega (arith, long)) (omega (arith, c.requires.segment.1)) F b.stretch_row.ensures
          (rw b.last_start-last.ensures at b.combine.ensures))
      | inner_row-else-heavy_r-r b ↦ row_is b.work-is (row_to (omega (arith, A.end, b.if-heavy_r-r.false)) F)
    ])

pub prepend-loop-i-init : goal.prepend-loop-i-init
prepend-loop-i-init t c = (omega arith, omega arith, c.requires.sealed, prepend_none _ _)

pub prepend-extend-requires : goal.prepend-extend-requires
prepend-extend-requires t c =
    let kn : c.loop-i.i - 1 < length c.args.pair.now.q.now = omega
    (arith, c.loop-i.invariant.1, c.requires.lo_le_hi, c.loop-i-test.true) in
    let low = starts c.requires.bounded (c.loop-i.i - 1) c.requires.segment.0
    (omega (arith, c.loop-i.invariant.0, c.loop-i-test.true)) (omega (arith, c.loop-i.invariant.1)) in record {
      segment = c.requires.segment;
      from_le_last = omega (arith, c.last_start-last.ensures, low);
      b_letter = letter_at (setting_of c.args.pair.now c.requires.segment) _ kn;
      to_in_bounds = omega (arith, c.requires.segment.1, light_one c.requires.light_room, c.loop-i.auto.work);
    }

pub prepend-inner_row-requires : goal.prepend-inner_row-requires
prepend-inner_row-requires t c =
    let B = back_of c.args.pair.now.sound.molecule c.loop-i.invariant.2 (omega (arith, c.loop-i.invariant.1, c.requires.lo_le_hi))
    c.loop-i-test.true (omega (arith, c.loop-i-test.true)) c.mate-l.ensures in
    let ck : c.mate-l.result < c.loop-i.i - 1 = omega (arith, B.high, c.if-l-r.false) in
    let kn : c.loop-i.i - 1 < length c.args.pair.now.q.now = omega
    (arith, c.loop-i.invariant.1, c.requires.lo_le_hi, c.loop-i-test.true) in (
      omega (arith, c.decreases, B.low, ck, c.loop-i.invariant.1, c.loop-i-test.true),
      (
        c.requires.segment,
        (
          (ck, (kn, B.back)),
          (
            room_more (room_less _ _ (omega (arith, B.back)) (room_child c.requires.light_room c.mate-l.result B.low
                (omega (arith, ck, c.loop-i.invariant.1)) (omega (arith, ck, B.back)))) (omega (
                  arith,
                  part_length (length c.args.pair.now.motif.bases.now + 1) c.loop-i.work
                      (omega (arith, light_one c.requires.light_room, c.loop-i.auto.work)),
                  c.loop-i.auto.work,
                )),
            (
              bounded_within c.requires.bounded _ _ (omega (arith, B.low)) (omega (arith, ck)) (omega (arith, c.loop-i.invariant.1)),
              no_kept_row _,
            ),
          ),
        ),
      ),
    )

pub prepend-close-requires : goal.prepend-close-requires
prepend-close-requires t c =
    let B = back_of c.args.pair.now.sound.molecule c.loop-i.invariant.2 (omega (arith, c.loop-i.invariant.1, c.requires.lo_le_hi))
    c.loop-i-test.true (omega (arith, c.loop-i-test.true)) c.mate-l.ensures in
    let ck : c.mate-l.result < c.loop-i.i - 1 = omega (arith, B.high, c.if-l-r.false) in
    let kn : c.loop-i.i - 1 < length c.args.pair.now.q.now = omega
    (arith, c.loop-i.invariant.1, c.requires.lo_le_hi, c.loop-i-test.true) in
    let D = bounded_within c.requires.bounded c.mate-l.result (c.loop-i.i - 1) B.low B.high
    (omega (arith, c.loop-i.invariant.1)) in record {
      segment = c.requires.segment;
      l_lt_r = (ck, kn);
      l_room = (omega (arith, D.room, ck), D.start);
      room = omega (
        arith,
        c.inner_row.auto.work,
        part_length (length c.args.pair.now.motif.bases.now + 1) c.loop-i.work
            (omega (arith, light_one c.requires.light_room, c.loop-i.auto.work)),
        c.loop-i.auto.work,
        room_one (room_child c.requires.light_room c.mate-l.result B.low (omega (arith, ck, c.loop-i.invariant.1))
            (omega (arith, ck, B.back))),
      );
      by_index = inner_from D.bounds ck c.inner_row.ensures;
    }

pub prepend-combine-requires : goal.prepend-combine-requires
prepend-combine-requires t c =
    let B = back_of c.args.pair.now.sound.molecule c.loop-i.invariant.2 (omega (arith, c.loop-i.invariant.1, c.requires.lo_le_hi))
    c.loop-i-test.true (omega (arith, c.loop-i-test.true)) c.mate-l.ensures in
    let ck : c.mate-l.result < c.loop-i.i - 1 = omega (arith, B.high, c.if-l-r.false) in
    let kn : c.loop-i.i - 1 < length c.args.pair.now.q.now = omega
    (arith, c.loop-i.invariant.1, c.requires.lo_le_hi, c.loop-i-test.true) in
    let D = bounded_within c.requires.bounded c.mate-l.result (c.loop-i.i - 1) B.low B.high
    (omega (arith, c.loop-i.invariant.1)) in
    let F = arc_front _ _ c.loop-i.i (omega (arith, c.loop-i-test.true)) (setting_of c.args.pair.now c.requires.segment) ck kn B.back D.bounds
    c.inner_row.ensures c.close.ensures in
    let L = back_length (length c.args.pair.now.motif.bases.now + 1) c.loop-i.work
    (omega (arith, light_one c.requires.light_room, c.loop-i.auto.work)) c.close.new.work
    (c.close.auto.work ∙ c.inner_row.auto.work) in
    let long : 2 * (length c.args.pair.now.motif.bases.now + 1) ≤ length c.loop-i.work - (length c.args.pair.now.motif.bases.now + 1) = omega (
      arith,
      c.loop-i.auto.work,
      room_one
          (room_child c.requires.light_room c.mate-l.result B.low (omega (arith, ck, c.loop-i.invariant.1)) (omega (arith, ck, B.back))),
    ) in record {
      from_le_last = (
        omega (arith, c.last_start-last-else-l-r.ensures, c.requires.segment.0, D.start),
        (
          omega (arith, c.last_start-last-else-l-r.ensures, c.requires.segment.1, c.args.pair.now.motif.small),
          omega (arith, c.last_start-last-else-l-r.ensures, c.requires.segment.1, long, L),
        ),
      );
      by_index = rw c.last_start-last-else-l-r.ensures (range_over (length c.args.pair.now.motif.bases.now + 1) c.loop-i.work
          c.close.new.work (omega (arith, light_one c.requires.light_room, c.loop-i.auto.work))
          (omega (arith, c.requires.segment.1, long, L)) F.is);
    }

pub prepend-loop-i-preserved-then-l-r : goal.prepend-loop-i-preserved-then-l-r
prepend-loop-i-preserved-then-l-r t c =
    let B = back_of c.args.pair.now.sound.molecule c.loop-i.invariant.2 (omega (arith, c.loop-i.invariant.1, c.requires.lo_le_hi))
    c.loop-i-test.true (omega (arith, c.loop-i-test.true)) c.mate-l.ensures in
    let D = bounded_within c.requires.bounded c.mate-l.result c.loop-i.i B.low (omega (arith, B.high))
    c.loop-i.invariant.1 in (
      B.low,
      omega (arith, B.high, c.loop-i.invariant.1),
      B.seal,
      prepend_front _ _ _ (omega (arith, c.loop-i-test.true)) c.loop-i.invariant.1 c.if-l-r.true B.mate D.bounds
          c.loop-i.invariant.3 c.last_start-last.ensures c.extend.ensures,
    )

pub prepend-loop-i-preserved : goal.prepend-loop-i-preserved
prepend-loop-i-preserved t c =
    let B = back_of c.args.pair.now.sound.molecule c.loop-i.invariant.2 (omega (arith, c.loop-i.invariant.1, c.requires.lo_le_hi))
    c.loop-i-test.true (omega (arith, c.loop-i-test.true)) c.mate-l.ensures in
    let ck : c.mate-l.result < c.loop-i.i - 1 = omega (arith, B.high, c.if-l-r.false) in
    let kn : c.loop-i.i - 1 < length c.args.pair.now.q.now = omega
    (arith, c.loop-i.invariant.1, c.requires.lo_le_hi, c.loop-i-test.true) in
    let D = bounded_within c.requires.bounded c.mate-l.result (c.loop-i.i - 1) B.low B.high
    (omega (arith, c.loop-i.invariant.1)) in
    let F = arc_front _ _ c.loop-i.i (omega (arith, c.loop-i-test.true)) (setting_of c.args.pair.now c.requires.segment) ck kn B.back D.bounds
    c.inner_row.ensures c.close.ensures in
    let E = bounded_within c.requires.bounded c.mate-l.result c.loop-i.i B.low (omega (arith, B.high))
    c.loop-i.invariant.1 in (
      B.low,
      omega (arith, B.high, c.loop-i.invariant.1),
      B.seal,
      prepend_step (omega (arith, B.high)) c.loop-i.invariant.1 (B.split _) E.bounds F.is c.loop-i.invariant.3 (looked c.args.from
          (last_at (length c.args.pair.now.motif.bases.now) c.args.pair.now.motif.tables.now c.args.to c.mate-l.result) c.args.to
          (length c.args.pair.now.motif.bases.now + 1) c.loop-i.work c.close.new.work
          c.combine.new.row (omega (arith, light_one c.requires.light_room, c.loop-i.auto.work))
          (omega (arith, c.requires.segment.1)) (omega arith) (row_from F.is)
          (rw c.last_start-last-else-l-r.ensures at c.combine.ensures)),
    )

pub stretch_row-single-requires : goal.stretch_row-single-requires
stretch_row-single-requires t c =
    let kn : c.args.hi - 1 < length c.args.pair.now.q.now = omega (arith, c.requires.lo_lt_hi) in
    let low = starts c.requires.bounded (c.args.hi - 1) c.requires.segment.0 (omega (arith, c.requires.lo_lt_hi))
    (omega arith) in record {
      segment = c.requires.segment;
      from_le_last = omega (arith, c.last_start-last.ensures, low);
      b_letter = letter_at (setting_of c.args.pair.now c.requires.segment) _ kn;
      to_in_bounds = omega (arith, c.requires.segment.1, light_one c.requires.light_room);
    }

pub stretch_row-inner_row-requires : goal.stretch_row-inner_row-requires
stretch_row-inner_row-requires t c =
    let B = back_of c.args.pair.now.sound.molecule c.requires.sealed (omega (arith, c.requires.lo_lt_hi)) (omega (arith, c.requires.lo_lt_hi))
    (omega (arith, c.requires.lo_lt_hi)) c.mate-l.ensures in
    let ck : c.mate-l.result < c.args.hi - 1 = omega (arith, B.high, c.if-l-r.false) in
    let kn : c.args.hi - 1 < length c.args.pair.now.q.now = omega (arith, c.requires.lo_lt_hi) in (
      omega (arith, c.decreases, B.low, ck),
      (
        c.requires.segment,
        (
          (ck, (kn, B.back)),
          (
            room_more (room_less _ _ (omega (arith, B.back))
                (room_child c.requires.light_room c.mate-l.result B.low (omega (arith, ck)) (omega (arith, ck, B.back)))) (omega arith),
            (bounded_within c.requires.bounded _ _ (omega (arith, B.low)) (omega (arith, ck)) (omega arith), no_kept_row _),
          ),
        ),
      ),
    )

pub stretch_row-close-requires : goal.stretch_row-close-requires
stretch_row-close-requires t c =
    let B = back_of c.args.pair.now.sound.molecule c.requires.sealed (omega (arith, c.requires.lo_lt_hi)) (omega (arith, c.requires.lo_lt_hi))
    (omega (arith, c.requires.lo_lt_hi)) c.mate-l.ensures in
    let ck : c.mate-l.result < c.args.hi - 1 = omega (arith, B.high, c.if-l-r.false) in
    let kn : c.args.hi - 1 < length c.args.pair.now.q.now = omega (arith, c.requires.lo_lt_hi) in
    let D = bounded_within c.requires.bounded c.mate-l.result (c.args.hi - 1) B.low B.high (omega arith) in record {
      segment = c.requires.segment;
      l_lt_r = (ck, kn);
      l_room = (omega (arith, D.room, ck), D.start);
      room = omega (
        arith,
        c.inner_row.auto.work,
        room_one (room_child c.requires.light_room c.mate-l.result B.low (omega (arith, ck)) (omega (arith, ck, B.back))),
      );
      by_index = inner_from D.bounds ck c.inner_row.ensures;
    }

pub stretch_row-returns-then-lo-l : goal.stretch_row-returns-then-lo-l
stretch_row-returns-then-lo-l t c =
    let B = back_of c.args.pair.now.sound.molecule c.requires.sealed (omega (arith, c.requires.lo_lt_hi)) (omega (arith, c.requires.lo_lt_hi))
    (omega (arith, c.requires.lo_lt_hi)) c.mate-l.ensures in
    let kn : c.args.hi - 1 < length c.args.pair.now.q.now = omega (arith, c.requires.lo_lt_hi) in
    let D = bounded_within c.requires.bounded c.mate-l.result (c.args.hi - 1) B.low B.high (omega arith) in
    prepended_row B.low (omega (arith, B.high)) (split_sealed B.seal _)
    (bounded_within c.requires.bounded _ _ (omega arith) B.low (omega (arith, B.high))).bounds (elim c.if-l-r.branch [
      | stretch_row-then-l-r b ↦
          row_is b.work-is (row_at (sym b.if-l-r.true) (single_row (setting_of c.args.pair.now c.requires.segment) _ _ (omega (arith, c.requires.lo_lt_hi))
          (rw b.last_start-last.ensures at b.single.ensures)))
      | stretch_row-else-l-r b ↦
          row_is b.work-is (arc_front _ _ c.args.hi (omega (arith, c.requires.lo_lt_hi)) (setting_of c.args.pair.now c.requires.segment)
          (omega (arith, B.high, b.if-l-r.false)) kn
          B.back D.bounds b.inner_row.ensures b.close.ensures)
    ]) c.prepend.ensures

pub stretch_row-returns-else-lo-l : goal.stretch_row-returns-else-lo-l
stretch_row-returns-else-lo-l t c =
    let B = back_of c.args.pair.now.sound.molecule c.requires.sealed (omega (arith, c.requires.lo_lt_hi)) (omega (arith, c.requires.lo_lt_hi))
    (omega (arith, c.requires.lo_lt_hi)) c.mate-l.ensures in
    let kn : c.args.hi - 1 < length c.args.pair.now.q.now = omega (arith, c.requires.lo_lt_hi) in
    let D = bounded_within c.requires.bounded c.mate-l.result (c.args.hi - 1) B.low B.high (omega arith) in
    row_at (omega (arith, B.low, c.if-lo-l.false)) (elim c.if-l-r.branch [
      | stretch_row-then-l-r b ↦
          row_is b.work-is (row_at (sym b.if-l-r.true) (single_row (setting_of c.args.pair.now c.requires.segment) _ _ (omega (arith, c.requires.lo_lt_hi))
          (rw b.last_start-last.ensures at b.single.ensures)))
      | stretch_row-else-l-r b ↦
          row_is b.work-is (arc_front _ _ c.args.hi (omega (arith, c.requires.lo_lt_hi)) (setting_of c.args.pair.now c.requires.segment)
          (omega (arith, B.high, b.if-l-r.false)) kn
          B.back D.bounds b.inner_row.ensures b.close.ensures)
    ])
