-- `arcs::flat_row` meets its contract. The invariant: the row is that of Q[i..hi); a base put in front makes it that of Q[i - 1..hi) (`front_row`). Every row
-- has the starts up to the bound where its stretch begins, which is no earlier than `from` (`starts`).
use Prim.Native.Nat.{◌-◌}
use native.Mathlib.Omega.{arith}
use Rattle.arcs.proofs.Pairs.{setting_of}
use Rattle.arcs.proofs.Made.{bounded_within, starts, letter_at, none_row, single_row, front_row, row_at}
use Rattle.arcs.proofs.flat_row.Goals as goal

pub returns-then-hi-lo : goal.returns-then-hi-lo
returns-then-hi-lo c = none_row (omega (arith, c.if-hi-lo.true, c.requires.lo_le_hi)) (rw c.last_start-last.ensures at c.identity.ensures)

pub single-requires : goal.single-requires
single-requires c =
    record {
      segment = c.requires.segment;
      from_le_last = omega (
        arith,
        c.last_start-last-2.ensures,
        starts c.requires.bounded (c.args.hi - 1) c.requires.segment.0 (omega (arith, c.if-hi-lo.false)) (omega arith),
      );
      b_letter = letter_at (setting_of c.args.pair.now c.requires.segment) _ (omega (arith, c.requires.lo_le_hi, c.if-hi-lo.false));
      to_in_bounds = omega (arith, c.requires.segment.1, c.requires.room);
    }

pub loop-i-init : goal.loop-i-init
loop-i-init c = (
  omega (arith, c.if-hi-lo.false),
  single_row (setting_of c.args.pair.now c.requires.segment) _ _ (omega (arith, c.if-hi-lo.false)) (rw c.last_start-last-2.ensures at c.single.ensures),
)

pub extend-requires : goal.extend-requires
extend-requires c =
    record {
      segment = c.requires.segment;
      from_le_last = omega (
        arith,
        c.last_start-last-in-loop-i.ensures,
        starts c.requires.bounded (c.loop-i.i - 1) c.requires.segment.0 (omega (arith, c.loop-i-test.true)) (omega (arith, c.loop-i.auto.i)),
      );
      b_letter = letter_at (setting_of c.args.pair.now c.requires.segment) _ (omega (arith, c.requires.lo_le_hi, c.loop-i.auto.i, c.if-hi-lo.false));
      to_in_bounds = omega (arith, c.requires.segment.1, c.requires.room, c.loop-i.auto.work, c.single.auto.row);
    }

pub loop-i-preserved : goal.loop-i-preserved
loop-i-preserved c =
    let D = bounded_within c.requires.bounded (c.loop-i.i - 1) c.loop-i.i (omega (arith, c.loop-i-test.true))
    (omega arith) (omega (arith, c.loop-i.auto.i)) in (
      omega (arith, c.loop-i-test.true),
      front_row _ _ (omega (arith, c.loop-i-test.true)) (omega (arith, c.loop-i.auto.i, c.if-hi-lo.false))
          (c.requires.by_index _ (omega (arith, c.loop-i-test.true)) (omega (arith, c.loop-i.auto.i, c.if-hi-lo.false))) D.bounds c.loop-i.invariant.1
          c.last_start-last-in-loop-i.ensures c.extend.ensures,
    )

pub returns : goal.returns
returns c = row_at (omega (arith, c.loop-i-test.false, c.loop-i.invariant.0)) c.loop-i.invariant.1
