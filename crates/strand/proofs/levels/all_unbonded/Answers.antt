-- `strand::levels::all_unbonded` meets its contract: of the bases passed it has counted those that are bonded.
use mathlib.Core.Path.{refl}
use native.Mathlib.Omega.{arith}
use Rattle.strand.proofs.LevelWalk.{differ_start, differ_bit, differ_next, unbonded_end}
use Rattle.strand.proofs.levels.all_unbonded.Goals as goal

pub loop-mate-init : goal.loop-mate-init
loop-mate-init c = (refl, differ_start _)

pub loop-mate-preserved : goal.loop-mate-preserved
loop-mate-preserved c = (omega arith, rw c.loop-mate.invariant.0 (differ_next _ _ (differ_bit _) c.loop-mate.invariant.1))

pub returns : goal.returns
returns c = unbonded_end _ c.loop-mate.invariant.1 (omega arith) (omega arith)
