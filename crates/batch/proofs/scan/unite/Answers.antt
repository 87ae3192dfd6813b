-- `batch::scan::unite` meets its contract: before motif t the map has the numbers of the maps before it.
use mathlib.Core.Path.{refl}
use Rattle.batch.proofs.HitLaws as laws
use Rattle.batch.proofs.scan.unite.Goals as goal

pub loop-t-init : goal.loop-t-init
loop-t-init c = laws.unite_start c.args.todo.now _ refl

pub loop-t-preserved : goal.loop-t-preserved
loop-t-preserved c = laws.unite_next c.args.todo.now c.loop-t.t _ _ c.loop-t.invariant c.join.ensures
