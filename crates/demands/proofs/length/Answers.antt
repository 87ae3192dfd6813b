-- `demands::length` meets its contract: the answer is `length_answer`, of which the demands speak; the work slice is as its contract says.
use Rattle.demands.proofs.Ties.{length_tied}
use Rattle.demands.proofs.length.Goals as goal

pub returns : goal.returns
returns c =
    let told = c.length.ensures in
    length_tied _ _ _ _ _ _ _ told.0 told.1
