-- `demands::add` meets its contract: answer and buffers are `add_outcome`, which is the step `run_add`.
use borrow.Author.Rules.{rules}
use Rattle.demands.proofs.Ties.{add_tied}
use Rattle.demands.proofs.add.Goals as goal

pub returns : goal.returns
returns c = add_tied _ _ _ _ _ _ _ (search rules)
