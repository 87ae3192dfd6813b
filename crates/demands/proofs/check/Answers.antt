-- `demands::check` meets its contract: the answer is `check_answer`, of which the demands speak.
use borrow.Author.Rules.{rules}
use Rattle.demands.proofs.Ties.{check_tied}
use Rattle.demands.proofs.check.Goals as goal

pub returns : goal.returns
returns c = check_tied _ _ _ (search rules)
