-- `walk::Strands::first_arc` meets its contract. The invariant is what it promises (`Walked`).
use native.Mathlib.Omega.{arith}
use Rattle.placing.proofs.Top.{all_sealed, walked_none, walked_past}
use Rattle.walk.proofs.Strands.first_arc.Goals as goal

pub loop-l-init : goal.loop-l-init
loop-l-init c = walked_none (omega arith) (omega arith)

pub loop-l-preserved : goal.loop-l-preserved
loop-l-preserved c =
    rw c.unit-from.ensures (walked_past c.args.self.now.setting.molecule (omega arith) (all_sealed c.args.self.now.setting.molecule) c.loop-l.invariant
    c.loop-l-test.true _ c.mate-r.ensures c.if-l-r.false (omega (arith, c.if-m-from.false)))
