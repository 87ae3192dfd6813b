-- `walk::carries` meets its contract. The invariant: Q[lo..l) takes the motif to `from` and no further, and no arc of the window goes past l
-- (`Passed`); the tables are those of the motif. It stops before the end where no embedding of the whole motif is left (`too_short`, `out_of_bounds`).
use native.Mathlib.Omega.{arith}
use Rattle.embedding.proofs.Answers.{tells_yes, tells_no}
use Rattle.arcs.proofs.Made.{letter_at}
use Rattle.walk.proofs.Whole.{whole_setting, tables_filled}
use Rattle.walk.proofs.WindowWalk.{passed_none, step_in, step_arc, passed_step, passed_unit}
use Rattle.walk.proofs.WindowWalk.{all_carried, end_carried, too_short, out_of_bounds}
use Rattle.walk.proofs.carries.Goals as goal
use Rattle.walk.proofs.carries.Goals.{then-unbonded, else-unbonded+else-most-hi}

pub loop-l-init : goal.loop-l-init
loop-l-init c = (passed_none c.requires.lo_le_hi.0, c.requires.tables_for)

pub returns-then-m-from : goal.returns-then-m-from
returns-then-m-from c =
    record {
      tells = tells_yes (all_carried c.requires.proper.nested.inside c.loop-l.invariant.0 c.if-m-from.true);
      tables_for_2 = c.loop-l.invariant.1;
    }

pub returns-then-hi-l : goal.returns-then-hi-l
returns-then-hi-l c =
    record {
      tells = tells_no (too_short c.requires.proper.nested.inside c.loop-l.invariant.0 c.if-hi-l.true);
      tables_for_2 = c.loop-l.invariant.1;
    }

pub returns-then-most-hi : goal.returns-then-most-hi
returns-then-most-hi c =
    let S = whole_setting c.requires.proper c.requires.proper_2 in
    let inside = step_in S.molecule c.requires.lo_le_hi.1 c.loop-l.invariant.0 c.loop-l-test.true c.arc_within-r.ensures
    in record {
      tells = tells_no (out_of_bounds c.requires.proper.nested.inside c.loop-l.invariant.0 _ _ c.fill-most.ensures.value.1 (omega (arith, c.if-l-r.true))
          (omega (arith, inside)) c.fill-most.ensures.value.0 c.if-most-hi.true);
      tables_for_2 = tables_filled c.loop-l.invariant.1 c.fill-most.ensures.tables_len_unchanged;
    }

pub pair_of-pair-requires-else-unbonded-clause-tables : goal.pair_of-pair-requires-else-unbonded-clause-tables
pair_of-pair-requires-else-unbonded-clause-tables c = (tables_filled c.loop-l.invariant.1 c.fill-most.ensures.tables_len_unchanged).motif

pub arc_end-from-requires-clause-l_lt_r : goal.arc_end-from-requires-clause-l_lt_r
arc_end-from-requires-clause-l_lt_r c =
    let E = c.pair_of-pair-else-unbonded.ensures in
    let S = whole_setting c.requires.proper c.requires.proper_2 in
    let inside = step_in S.molecule c.requires.lo_le_hi.1 c.loop-l.invariant.0 c.loop-l-test.true c.arc_within-r.ensures in
    rw (E.3, E.4) (
      c.if-l-r.true,
      (
        omega (arith, inside, c.requires.lo_le_hi.1),
        step_arc S.molecule c.requires.lo_le_hi.1 c.loop-l.invariant.0 c.loop-l-test.true c.arc_within-r.ensures c.if-l-r.true,
      ),
    )

pub arc_end-from-requires-clause-bounded : goal.arc_end-from-requires-clause-bounded
arc_end-from-requires-clause-bounded c =
    let E = c.pair_of-pair-else-unbonded.ensures in
    rw (E.0, E.2, E.3) (c.fill-most.ensures.value.1, c.fill-most.ensures.value.0)

pub loop-l-preserved-then-l-r : goal.loop-l-preserved-then-l-r
loop-l-preserved-then-l-r c =
    let S = whole_setting c.requires.proper c.requires.proper_2 in
    let step = passed_step S.molecule c.requires.lo_le_hi.1 c.loop-l.invariant.0 c.loop-l-test.true
    c.arc_within-r.ensures in
    elim c.if-unbonded.branch [
      | then-unbonded w ↦ (
        step _ (let E = w.pair_of-pair.ensures in rw w.from-is (rw (E.0, E.1, E.3, E.4) at w.hairpin_end-from.ensures)),
        rw w.tables-is c.loop-l.invariant.1,
      )
      | else-unbonded+else-most-hi w ↦ (
        step _ (let E = w.pair_of-pair-else-unbonded.ensures in rw w.from-is (rw (E.0, E.1, E.3, E.4) at w.arc_end-from.ensures)),
        rw w.tables-is (tables_filled c.loop-l.invariant.1 w.fill-most.ensures.tables_len_unchanged),
      )
    ]

pub next_of-from-requires-clause-y_letter : goal.next_of-from-requires-clause-y_letter
next_of-from-requires-clause-y_letter c =
    letter_at (whole_setting c.requires.proper c.requires.proper_2) _ (omega (arith, c.requires.lo_le_hi.1))

pub loop-l-preserved : goal.loop-l-preserved
loop-l-preserved c =
    let S = whole_setting c.requires.proper c.requires.proper_2 in
    let E = c.pair_of-pair-else-l-r.ensures in (
      rw (c.next_of-from.ensures, E.0, E.1) (passed_unit S.molecule c.requires.lo_le_hi.1 c.loop-l.invariant.0 c.loop-l-test.true
          c.arc_within-r.ensures c.if-l-r.false (omega (arith, c.if-m-from.false))),
      c.loop-l.invariant.1,
    )

pub returns : goal.returns
returns c =
    record {
      tells = end_carried c.requires.proper.nested.inside c.loop-l.invariant.0 c.loop-l-test.false;
      tables_for_2 = c.loop-l.invariant.1;
    }
