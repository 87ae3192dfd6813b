-- `demands::batch` meets its contract: answer, cache and hits are `batch_outcome`, which is the step `run_batch`; the work slice is as its contract says.
use Rattle.demands.proofs.Ties.{batch_tied}
use Rattle.demands.proofs.batch.Goals as goal

pub returns : goal.returns
returns c =
    let told = c.batch.ensures in
    batch_tied _ _ _ _ _ _ _ _ _ told.0 told.1
