-- `buffer::put_entry` meets its contract: the step writes an entry into a block.
use borrow.Author.Rules.{rules}
use Rattle.buffer.proofs.OutcomeLaws as law
use Rattle.buffer.proofs.put_entry.Goals as goal

pub returns : goal.returns
returns c =
    law.entry_done _ _ _ _ _ _ _ _ (c.at_block.ensures _ _ (λ s t done l e. law.entry_step _ _ _ _ s.now t.now done l (search rules)))
