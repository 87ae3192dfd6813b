-- `demands::remove` meets its contract: answer and buffers are `remove_outcome`, which is the step `run_remove`.
use borrow.Author.Rules.{rules}
use Rattle.demands.proofs.Ties.{remove_tied}
use Rattle.demands.proofs.remove.Goals as goal

pub returns : goal.returns
returns c = remove_tied _ _ _ _ _ _ (search rules)
