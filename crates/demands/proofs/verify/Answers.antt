-- `demands::verify` meets its contract: the answer is `verify_answer`, of which the demands speak.
use borrow.Author.Rules.{rules}
use Rattle.demands.proofs.Ties.{verify_tied}
use Rattle.demands.proofs.verify.Goals as goal

pub returns : goal.returns
returns c = verify_tied _ _ _ _ _ _ (search rules)
