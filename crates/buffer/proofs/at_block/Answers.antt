-- `buffer::at_block` meets its contract: what the step leaves in the part that is block d stands in its place.
use native.Mathlib.Omega.{arith}
use Rattle.buffer.proofs.BlockLaws.{length_block}
use Rattle.buffer.proofs.OutcomeLaws as law
use Rattle.buffer.proofs.at_block.Goals as goal

pub returns-then-block_count-d : goal.returns-then-block_count-d
returns-then-block_count-d g c = λ fits b h. law.at_not _ b _ fits (omega arith)

pub returns : goal.returns
returns g c =
    λ fits b h. law.at_done _ b _ fits _ _ (omega arith) (h _ _ _ (length_block c.args.d c.args.buf.now (omega arith)) c.step.ensures)
