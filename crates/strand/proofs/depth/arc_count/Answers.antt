-- `strand::depth::arc_count` meets its contract: of the bases passed it has counted the left ends.
use native.Mathlib.Omega.{arith}
use mathlib.Core.Path.{refl}
use lib.Dec.{ltb}
use Rattle.lists.specs.Vocabulary.{nth}
use Rattle.strand.proofs.FoldWalk.{below_bit, bit_most, arcs_none, arcs_short, arcs_next, arcs_end}
use Rattle.strand.proofs.depth.arc_count.Goals as goal

pub loop-mate-init : goal.loop-mate-init
loop-mate-init c = (refl, arcs_none _)

pub overflow_add-arcs : goal.overflow_add-arcs
overflow_add-arcs c =
    let mate = nth c.args.mates.now c.loop-mate.mate-index in
    omega (arith, bit_most (ltb c.loop-mate.place mate), arcs_short _ c.loop-mate.invariant.1, c.requires)

pub loop-mate-preserved : goal.loop-mate-preserved
loop-mate-preserved c = (omega arith, rw c.loop-mate.invariant.0 (arcs_next c.args.mates.now c.loop-mate.mate-index _ (below_bit _ _) c.loop-mate.invariant.1))

pub returns : goal.returns
returns c = arcs_end _ c.loop-mate.invariant.1 (omega arith) (omega arith)
