-- `strand::depth::depth_of` meets its contract: after i bases it has counted the arcs that are open, and the most that were open at once.
use mathlib.Core.Path.{refl}
use native.Mathlib.Omega.{arith}
use lib.Dec.{ltb}
use Rattle.lists.specs.Vocabulary.{nth}
use Rattle.strand.proofs.FoldWalk.{below_bit, bit_most, depth_start, depth_short, depth_safe, depth_next, depth_end}
use Rattle.strand.proofs.depth.depth_of.Goals as goal

pub loop-i-init : goal.loop-i-init
loop-i-init c = depth_start c.args.mates.now c.requires

pub overflow_add-level : goal.overflow_add-level
overflow_add-level c = omega (arith, bit_most (ltb c.loop-i.i (nth c.args.mates.now c.loop-i.i)), depth_short _ c.requires c.loop-i.invariant)

pub overflow_sub-level : goal.overflow_sub-level
overflow_sub-level c = depth_safe _ c.requires c.loop-i.invariant c.loop-i-test.true _ _ _ refl (below_bit _ _) (below_bit _ _)

pub loop-i-preserved : goal.loop-i-preserved
loop-i-preserved c =
    rw c.max-depth.ensures (depth_next _ c.requires c.loop-i.invariant c.loop-i-test.true _ _ _ refl (below_bit _ _) (below_bit _ _))

pub returns : goal.returns
returns c = depth_end _ c.requires c.loop-i.invariant (omega arith)
