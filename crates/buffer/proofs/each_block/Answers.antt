-- `buffer::each_block` meets its contract: the blocks passed are what the step leaves of them, the rest is as it was.
use native.Mathlib.Omega.{arith}
use Rattle.buffer.proofs.BufferLaws.{blocks_end, blocks_front, blocks_more, blocks_none}
use Rattle.buffer.proofs.each_block.Goals as goal

pub loop-d-init : goal.loop-d-init
loop-d-init g c = λ f h. blocks_none f _

pub loop-d-preserved : goal.loop-d-preserved
loop-d-preserved g c =
    λ f h.
    let done = c.loop-d.invariant f h in
    blocks_more f _ _ _ _ (blocks_front f _ _ _ c.loop-d.auto.s (omega arith) done) done (h _ _ c.step.ensures)

pub returns : goal.returns
returns g c = λ f h. blocks_end f _ _ _ (omega arith) (c.loop-d.invariant f h)
