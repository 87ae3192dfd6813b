-- `demands::query` meets its contract: answer, cache and hits are `query_outcome`, which is the step `run_query`; the work slice is as its contract says.
use Rattle.demands.proofs.Ties.{query_tied}
use Rattle.demands.proofs.query.Goals as goal

pub returns : goal.returns
returns c =
    let told = c.query.ensures in
    query_tied _ _ _ _ _ _ _ _ _ told.0 told.1
