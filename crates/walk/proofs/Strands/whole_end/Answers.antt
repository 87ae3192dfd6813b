-- `walk::Strands::whole_end` meets its contract. The invariant: Q[0..l) takes the motif to `from` and no further, and no arc leaves Q[0..l) (`Walked`); the
-- tables are those of the motif.
use native.Mathlib.Omega.{arith}
use Rattle.arcs.proofs.Made.{letter_at}
use Rattle.placing.proofs.Top.{all_sealed, walked_step, walked_past}
use Rattle.walk.proofs.Whole.{all_taken, all_walked}
use Rattle.walk.proofs.Strands.whole_end.Goals as goal

pub returns-then-m-from : goal.returns-then-m-from
returns-then-m-from c = all_taken c.loop-l.invariant.0 c.if-m-from.true

pub loop-l-preserved-then-l-r : goal.loop-l-preserved-then-l-r
loop-l-preserved-then-l-r c = (
  walked_step c.args.self.now.setting.molecule (omega arith) (all_sealed c.args.self.now.setting.molecule) c.loop-l.invariant.0 c.loop-l-test.true
      _ c.mate-r.ensures _ c.top_arc_end-from.ensures.best,
  c.top_arc_end-from.ensures.tables_for_2,
)

pub next_of-from-requires-clause-y_letter : goal.next_of-from-requires-clause-y_letter
next_of-from-requires-clause-y_letter c = letter_at c.args.self.now.setting _ (omega arith)

pub loop-l-preserved : goal.loop-l-preserved
loop-l-preserved c =
    let E = c.pair_of-pair.ensures in (
      rw (c.next_of-from.ensures, E.0, E.1) (walked_past c.args.self.now.setting.molecule (omega arith) (all_sealed c.args.self.now.setting.molecule)
          c.loop-l.invariant.0 c.loop-l-test.true _ c.mate-r.ensures c.if-l-r.false (omega (arith, c.if-m-from.false))),
      c.loop-l.invariant.1,
    )

pub returns : goal.returns
returns c = all_walked c.loop-l.invariant.0 c.loop-l-test.false
