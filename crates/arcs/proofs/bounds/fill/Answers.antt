-- `arcs::bounds::fill` meets its contract. The invariant (`Climbing`): the bounds before base i are written, and `bound` is the one there; the last one is set
-- after the loop.
use native.Mathlib.Omega.{arith}
use Rattle.arcs.proofs.BoundLaws.{climbing_start, climbing_small, climbing_step, climbing_tables, climbing_end, filled_bounds, filled_last}
use Rattle.arcs.proofs.bounds.fill.Goals as goal

pub loop-i-init : goal.loop-i-init
loop-i-init c = climbing_start _ c.requires.lo_le_hi.0

pub overflow_cast-tables : goal.overflow_cast-tables
overflow_cast-tables c = omega (arith, climbing_small c.loop-i.invariant c.requires.p_len_bound.1.1)

pub next-bound-requires : goal.next-bound-requires
next-bound-requires c =
    record {
      p_len_bound = omega arith;
      tables = climbing_tables c.loop-i.invariant (omega (arith, c.requires.lo_le_hi)) c.requires.tables;
    }

pub loop-i-preserved : goal.loop-i-preserved
loop-i-preserved c = climbing_step c.loop-i.invariant (omega (arith, c.requires.lo_le_hi)) c.loop-i-test.true _ c.next-bound.ensures

pub overflow_cast-tables-2 : goal.overflow_cast-tables-2
overflow_cast-tables-2 c = omega (arith, climbing_small c.loop-i.invariant c.requires.p_len_bound.1.1)

pub returns : goal.returns
returns c =
    let W = climbing_end c.loop-i.invariant c.loop-i-test.false (omega (arith, c.requires.lo_le_hi)) in record {
      value = (
        filled_last c.args.p.now c.args.q.now c.args.from c.args.lo c.args.hi W.1 _
            c.requires.lo_le_hi.0 W.0,
        filled_bounds c.args.p.now c.args.q.now c.args.from c.args.lo c.args.hi W.1
            c.requires.lo_le_hi.0 (omega (arith, c.requires.lo_le_hi)),
        climbing_small c.loop-i.invariant c.requires.p_len_bound.1.1,
      );
      tables_len_unchanged = (W.1.long, λ k h. W.1.under k (omega arith));
    }
