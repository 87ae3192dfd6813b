-- `trace::place`, `place_arc`, `enter`, `past`, `along` and `descend`, which call each other, meet their contracts. The measure is 8192 times the length of
-- the stretch and a small rank for each function; along's rank falls with the kept arc, which moves towards l. place's invariant: Q[lo..l) takes the motif to
-- j and no further, and its places are laid. The others put places together by the laws of `LaidBut` (`but_take`, `but_rest`, `but_but`, `but_after`).
use mathlib.Core.Path.{refl, sym, ap, ◌∙◌}
use Prim.Native.Nat.{◌+◌, ◌-◌}
use native.Mathlib.Omega.{arith}
use lib.ListN.{length}
use Rattle.embedding.proofs.Recurrence.{rest}
use Rattle.rows.proofs.Parts.{part_length, back_length}
use Rattle.lists.specs.Vocabulary.{nth}
use Rattle.arcs.proofs.Arcs.{inner_sealed, split_left, heavy_end}
use Rattle.arcs.proofs.Pairs.{setting_of}
use Rattle.placing.proofs.Top.{narrow, walked_none, walked_up, walked_step, walked_unit}
use Rattle.placing.proofs.TakeLaws.{laid_none, laid_join, laid_unit}
use Rattle.placing.proofs.Descent.{but_end, but_take, but_all, but_kept, but_taken, but_rest, but_but, but_to, but_filled, but_after}
use Rattle.placing.proofs.Descent.{around_none, around_under, around_back, around_rest, reach_to, heavy_before, heavy_on, heavy_in}
use Rattle.placing.proofs.Descent.{first_end, first_split, first_behind}
use Rattle.placing.proofs.Levels.{below_next, path_at, kept_outside, kept_size, levels_least, levels_at, levels_half, levels_all}
use Rattle.placing.proofs.Levels.{levels_behind, levels_before}
use Rattle.trace.proofs.+along_descend_enter_past_place_place_arc.Goals as goal
use Rattle.trace.proofs.+along_descend_enter_past_place_place_arc.Goals.{place-then-l-r, place-else-l-r}

pub along-along-b-requires : goal.along-along-b-requires
along-along-b-requires t c =
    let M = c.middle-mid.ensures in
    let R = c.requires in
    let W = levels_least R.levels in (
      omega (arith, c.decreases, M.before c.if-mid-l.false, c.if-mid-l.false),
      record {
        setting = R.setting;
        order = R.order;
        reach = R.reach;
        arc = R.arc;
        kept_arc = (omega (arith, M.arc, M.high, R.setting.molecule.inside c.args.l (omega (arith, R.order))), λ o. M.path);
        kept_row = around_rest R.setting.segment.ends (sym c.mate-r.ensures) (omega (arith, W, c.keep.auto.work)) c.keep.ensures;
        room = R.room;
        levels = levels_half (nth c.args.pair.now.qm.now c.args.kept - c.args.kept)
            (nth c.args.pair.now.qm.now c.middle-mid.result - c.middle-mid.result) _ (M.half c.if-mid-l.false)
            (omega (arith, M.high, M.arc, R.arc.0.high c.args.l (omega arith) R.order.1.0, c.if-mid-l.false))
            (omega (
              arith,
              part_length (length c.args.pair.now.motif.bases.now + 1) c.keep.new.work (omega (arith, W, c.keep.auto.work)),
              c.keep.auto.work,
            )) R.levels;
        tables_of = R.tables_of;
      },
    )

pub along-descend-requires : goal.along-descend-requires
along-descend-requires t c =
    let M = c.middle-mid.ensures in
    let R = c.requires in
    let B = c.along-b.ensures in
    let W = levels_least R.levels in
    let end = R.arc.0.high c.args.l (omega arith) R.order.1.0 in
    let inside = R.setting.molecule.inside c.args.l (omega (arith, R.order)) in (
      omega (arith, c.decreases, c.mate-r.ensures, M.high, M.arc, c.if-mid-l.false, end),
      (
        (B.inner.from, omega (arith, B.high, R.setting.segment.ends), R.setting.segment.same),
        (
          (omega (arith, c.mate-r.ensures, M.arc), omega (arith, c.mate-r.ensures, M.arc, M.high, inside)),
          (
            reach_to _ c.mate-r.ensures B.inner,
            (
              inner_sealed R.setting.molecule _ _ (omega (arith, c.mate-r.ensures, M.arc)) (omega (arith, c.mate-r.ensures, M.arc, M.high, inside))
                  (sym c.mate-r.ensures),
              (
                (
                  R.kept_arc.0,
                  λ o. below_next (sym c.mate-r.ensures) (M.under (R.kept_arc.1 o)) (λ i. omega (arith, i, M.before c.if-mid-l.false)),
                ),
                (
                  around_back c.along-b.new.work _ _ B.low B.high (omega (arith, W, c.keep.auto.work))
                      (around_under c.args.from c.args.to (omega arith) (omega arith) c.keep.ensures.under R.kept_row),
                  (
                    omega (arith, B.high, R.room, B.long),
                    (
                      levels_at _ _ _ (omega (arith, c.mate-r.ensures, M.high, end, c.if-mid-l.false))
                          (omega (arith, c.mate-r.ensures, M.high, end, c.if-mid-l.false))
                          (back_length (length c.args.pair.now.motif.bases.now + 1) c.keep.new.work (omega (arith, W, c.keep.auto.work))
                          c.along-b.new.work c.along-b.auto.work
                          ∙ c.keep.auto.work) R.levels,
                      R.tables_of,
                    ),
                  ),
                ),
              ),
            ),
          ),
        ),
      ),
    )

pub along-returns : goal.along-returns
along-returns t c = but_but (but_to _ c.mate-r.ensures c.along-b.ensures) c.descend.ensures

pub descend-place-k-requires : goal.descend-place-k-requires
descend-place-k-requires t c =
    let N = c.args.pair.now.sound.molecule in
    let H = c.heaviest-l.ensures in
    let R = c.requires in (
      omega (arith, c.decreases, H.low, H.high),
      (
        R.segment,
        (
          (H.low, omega (arith, H.high, R.lo_le_hi)),
          (
            heavy_before N R.sealed R.lo_le_hi.1 H,
            (
              R.to_in_bounds,
              (
                levels_before (nth c.args.pair.now.qm.now c.args.kept - c.args.kept) _ N R.sealed R.lo_le_hi.1 H
                    (λ lt. kept_size N c.args.pair.now.sound.equal (λ o. path_at (R.kept_in_bounds.1 o) H) (H.arc lt)
                    (omega (arith, heavy_end N R.sealed R.lo_le_hi.1 H lt, R.lo_le_hi)))
                    (part_length (length c.args.pair.now.motif.bases.now + 1) c.args.work.now (omega (arith, levels_least R.levels))) R.levels,
                R.all_starts,
              ),
            ),
          ),
        ),
      ),
    )

pub descend-returns-then-to-k : goal.descend-returns-then-to-k
descend-returns-then-to-k t c = but_filled _ _ c.if-to-k.true c.heaviest-l.ensures.high c.place-k.ensures.best c.place-k.ensures.laid

pub descend-along-requires : goal.descend-along-requires
descend-along-requires t c =
    let N = c.args.pair.now.sound.molecule in
    let H = c.heaviest-l.ensures in
    let P = c.place-k.ensures in
    let R = c.requires in
    let I = heavy_in H P.best R.reach c.if-to-k.false in (
      omega (arith, c.decreases, H.low, R.kept_in_bounds.0, c.args.pair.now.sound.short, I),
      record {
        setting = narrow _ _ (setting_of c.args.pair.now R.segment) (omega (arith, c.if-to-k.false)) R.segment.1;
        order = (c.if-to-k.false, (I, R.lo_le_hi.1));
        reach = rest (split_left N R.sealed R.lo_le_hi.1 H I) P.best (omega (arith, c.if-to-k.false)) R.reach;
        arc = (heavy_on N R.sealed R.lo_le_hi.1 H I, H.arc I);
        kept_arc = (R.kept_in_bounds.0, λ o. path_at (R.kept_in_bounds.1 o) H);
        kept_row = around_back c.place-k.new.work _ _ P.best.reach.from (omega arith) (omega (arith, levels_least R.levels)) R.kept_around;
        room = omega (arith, R.to_in_bounds, P.laid.long);
        levels = levels_at _ _ _ (omega (arith, H.low)) (omega (arith, H.low))
            (back_length (length c.args.pair.now.motif.bases.now + 1) c.args.work.now (omega (arith, levels_least R.levels))
            c.place-k.new.work c.place-k.auto.work) R.levels;
        tables_of = R.all_starts;
      },
    )

pub descend-returns : goal.descend-returns
descend-returns t c =
    let H = c.heaviest-l.ensures in
    let P = c.place-k.ensures in
    let I = heavy_in H P.best c.requires.reach c.if-to-k.false in
    but_after _ _ P.best.reach.from (omega (arith, c.if-to-k.false)) H.low H.high P.best.reach.closed
    (split_left c.args.pair.now.sound.molecule c.requires.sealed c.requires.lo_le_hi.1 H I) P.laid c.along.ensures

pub enter-returns-then-l-kept-clause-laid_but : goal.enter-returns-then-l-kept-clause-laid_but
enter-returns-then-l-kept-clause-laid_but t c =
    let T = c.take_kept-t.ensures in
    but_kept c.if-l-kept.true c.requires.ends.1.1 (but_take T.taken T.ended (but_all _ T.taken.inner))

pub enter-descend-span-requires : goal.enter-descend-span-requires
enter-descend-span-requires t c =
    let T = c.take_kept-t.ensures in
    let R = c.requires in (
      omega (arith, c.decreases, R.ends),
      (
        (T.taken.order, omega (arith, T.taken.goes, T.taken.ends, R.setting.segment.ends), R.setting.segment.same),
        (
          (omega (arith, R.ends), omega (arith, R.ends)),
          (
            T.taken.inner,
            (
              inner_sealed R.setting.molecule _ _ R.ends.0 R.ends.1.0 R.ends.1.1,
              (
                (R.kept_arc.0, λ o. below_next R.ends.1.1 (R.kept_arc.1 o) c.if-l-kept.false),
                (
                  T.kept_around_2,
                  (
                    omega (arith, T.taken.goes, T.taken.ends, R.room, c.take_kept-t.auto.places),
                    (levels_at _ _ _ (omega arith) (omega arith) c.take_kept-t.auto.work R.levels, R.tables_of),
                  ),
                ),
              ),
            ),
          ),
        ),
      ),
    )

pub enter-returns-clause-laid_but : goal.enter-returns-clause-laid_but
enter-returns-clause-laid_but t c = but_take c.take_kept-t.ensures.taken c.take_kept-t.ensures.ended c.descend-span.ensures

pub past-place-requires : goal.past-place-requires
past-place-requires t c =
    let R = c.requires in
    let E = first_end R.setting.molecule R.arc.0 R.order.1.1 R.order.1.0 R.arc.1 (sym c.mate-r.ensures) in (
      omega (arith, c.decreases),
      (
        (R.setting.segment.order, R.setting.segment.ends, R.setting.segment.same),
        (
          (omega (arith, R.order), R.order.1.1),
          (
            R.arc.0,
            (
              R.room,
              (
                levels_all (nth c.args.pair.now.qm.now c.args.kept - c.args.kept) R.arc.0
                    (kept_outside R.setting.molecule R.setting.equal R.kept_arc.1 R.arc.1 (omega (arith, E, R.order, c.mate-r.ensures))
                    (omega (arith, c.mate-r.ensures, c.if-r-kept.true))) R.levels,
                R.tables_of,
              ),
            ),
          ),
        ),
      ),
    )

pub past-returns-then-r-kept : goal.past-returns-then-r-kept
past-returns-then-r-kept t c = but_taken _ _ c.place.ensures.best c.requires.reach c.place.ensures.laid

pub past-place-requires-2 : goal.past-place-requires-2
past-place-requires-2 t c =
    let R = c.requires in
    let E = first_end R.setting.molecule R.arc.0 R.order.1.1 R.order.1.0 R.arc.1 (sym c.mate-r.ensures) in
    let Z = first_behind R.setting.molecule R.arc.0 R.order.1.1 R.order.1.0 R.arc.1 (sym c.mate-r.ensures) in
    let K = kept_size R.setting.molecule R.setting.equal R.kept_arc.1 R.arc.1 (omega (arith, E, R.order, c.mate-r.ensures)) in (
      omega (arith, c.decreases, c.mate-r.ensures, R.arc.1),
      (
        (c.enter-t.ensures.best.reach.upto, R.setting.segment.ends, R.setting.segment.same),
        (
          (omega (arith, E), R.order.1.1),
          (
            Z,
            (
              omega (arith, R.room, c.enter-t.ensures.laid_but.long),
              (
                levels_behind (nth c.args.pair.now.qm.now c.args.kept - c.args.kept) c.mate-r.result (length c.enter-t.new.work) Z
                    (omega (arith, K, c.mate-r.ensures)) (omega (arith, c.mate-r.ensures, R.arc.1)) c.enter-t.auto.work R.levels,
                R.tables_of,
              ),
            ),
          ),
        ),
      ),
    )

pub past-returns : goal.past-returns
past-returns t c =
    let R = c.requires in
    let E = first_end R.setting.molecule R.arc.0 R.order.1.1 R.order.1.0 R.arc.1 (sym c.mate-r.ensures) in
    but_rest (omega (arith, c.mate-r.ensures, R.arc.1)) (omega (arith, E))
    (first_split R.setting.molecule R.arc.0 R.order.1.1 R.order.1.0 R.arc.1 (sym c.mate-r.ensures)) c.enter-t.ensures.best c.place-2.ensures.best
    R.reach c.enter-t.ensures.laid_but c.place-2.ensures.laid

pub place-loop-l-init : goal.place-loop-l-init
place-loop-l-init t c =
    record { walked = walked_none c.requires.segment.0 c.requires.lo_le_hi.0; laid = laid_none _ _ _ _; work_room = refl }

pub place-loop-l-preserved : goal.place-loop-l-preserved
place-loop-l-preserved t c =
    let N = c.args.pair.now.sound.molecule in
    let R = c.requires in
    let I = c.loop-l.invariant in
    let J = I.walked.best.reach in
    let up = walked_up N R.lo_le_hi.1 R.sealed I.walked c.loop-l-test.true _ c.mate-r.ensures in
    elim c.if-l-r.branch [
      | place-then-l-r w ↦
          let A = w.place_arc-j.ensures in record {
            walked = walked_step N R.lo_le_hi.1 R.sealed I.walked c.loop-l-test.true _ c.mate-r.ensures _ (rw w.j-is A.best);
            laid = rw (w.j-is, w.places-is) (laid_join _ _ J.from A.best.reach.from I.walked.low (omega (arith, up)) J.closed
                (λ u a b d. absurd (omega (arith, I.walked.seal.high u a b))) I.laid A.laid);
            work_room = ap length w.work-is ∙ w.place_arc-j.auto.work ∙ I.work_room;
          }
      | place-else-l-r w ↦
          let U = w.put_base-j.ensures in
          let B = walked_unit N R.lo_le_hi.1 R.sealed I.walked c.loop-l-test.true _ c.mate-r.ensures w.if-l-r.false (omega (arith, c.if-to-j.false)) in
          record {
            walked = walked_step N R.lo_le_hi.1 R.sealed I.walked c.loop-l-test.true _ c.mate-r.ensures _ (rw (w.j-is, U.0) B);
            laid = rw (w.j-is, w.places-is) (laid_join _ _ J.from (rw U.0 B.reach.from) I.walked.low (omega (arith, up)) J.closed
                (λ u a b d. absurd (omega (arith, I.walked.seal.high u a b))) I.laid (laid_unit _ _ _ _ _ (omega (arith, up, w.if-l-r.false)) U.0 U.1));
            work_room = ap length w.work-is ∙ I.work_room;
          }
    ]

pub place_arc-descend-requires : goal.place_arc-descend-requires
place_arc-descend-requires t c =
    let T = c.take_at-t.ensures.taken in
    let R = c.requires in
    let L = R.l_lt_r in (
      omega (arith, c.decreases, L),
      (
        (T.order, omega (arith, T.goes, T.ends, R.segment.1), R.segment.2),
        (
          (omega (arith, L), omega (arith, L)),
          (
            T.inner,
            (
              inner_sealed c.args.pair.now.sound.molecule _ _ L.0 L.1.0 L.1.1,
              (
                (omega arith, λ o. absurd (omega arith)),
                (
                  around_none _ _ _ (omega (arith, T.goes, T.ends, R.segment.1)),
                  (
                    omega (arith, T.goes, T.ends, R.from_lt_to, c.take_at-t.auto.places),
                    (levels_at _ _ _ (omega arith) (omega arith) c.take_at-t.auto.work R.levels, R.all_starts),
                  ),
                ),
              ),
            ),
          ),
        ),
      ),
    )

pub place_arc-returns-clause-laid : goal.place_arc-returns-clause-laid
place_arc-returns-clause-laid t c =
    but_end (omega (arith, c.args.pair.now.sound.equal)) (but_take c.take_at-t.ensures.taken c.take_at-t.ensures.ended c.descend.ensures)
