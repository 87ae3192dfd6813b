-- `buffer::put_molecule` meets its contract: the step writes a molecule into a block.
use borrow.Author.Rules.{rules}
use Rattle.buffer.proofs.OutcomeLaws as law
use Rattle.buffer.proofs.put_molecule.Goals as goal

pub returns : goal.returns
returns c =
    law.molecule_done _ _ _ _ _ _ (c.at_block.ensures _ _ (λ s t done l e. law.molecule_step _ _ s.now t.now done l (search rules)))
