-- `buffer::zero_at` meets its contract: the step leaves zeros in a block.
use borrow.Author.Rules.{rules}
use Rattle.buffer.proofs.OutcomeLaws as law
use Rattle.buffer.proofs.zero_at.Goals as goal

pub returns : goal.returns
returns c = law.zero_done _ _ _ _ (c.at_block.ensures _ _ (λ s t done l e. law.zero_step s.now t.now done l (search rules) (search rules)))
